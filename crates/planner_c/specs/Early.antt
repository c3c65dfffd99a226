-- What stands before every exported call: words enough for its answer, and no choice without meaning.
-- docs/SCOPE.md: The C interface.
use Rattle.std.specs.Prelude.{Bool, true, false, ℕ, ltb, Result, Ok, Err}
use Rattle.promises.specs.C.{choices_of}
use Rattle.promises.specs.declared.Choices.{Choices}
use Rattle.planner_c.specs.declared.choices.Stop.{Stop}
use Rattle.planner_c.specs.declared.choices.Stop.TheVariants.{Short, Unknown}

-- what a call that is stopped returns
abbrev pub number_of : Stop → ℕ
number_of Short = 100
number_of Unknown = 101

-- by whether the answer is short and whether a choice is unknown
abbrev pub started_by : Bool → Bool → Choices → Result Choices Stop
started_by true unknown c = Err Short
started_by false true c = Err Unknown
started_by false false c = Ok c

-- a call that needs n words and is lent m of them: its choices, or why it is stopped
abbrev pub started : ℕ → ℕ → ℕ → Result Choices Stop
started n m word = started_by (ltb m n) (ltb 15 word) (choices_of word)
