-- The table of refusals: the number and the place of each case, the rule that the first condition that holds decides, and what then
-- follows from a check. Every call's answer, values and memory go by cases on its verdict through `by_check`.
-- docs/SCOPE.md: The table of refusals.
use Rattle.std.specs.Prelude.{ℕ}
use Rattle.promises.specs.declared.Refusal.{Refusal}
use Rattle.promises.specs.Refusals.{line_of}
pub use Rattle.promises.specs.Refusals.{Answer, Checked, passed, Check, refuse_when, by_check, answer_by, verdict_of, next, Outcome, refused_as, outcome_by, outcome_of}
unfoldable pub use Rattle.promises.specs.Refusals.{first_refusal}

-- the table's number of a refusal
abbrev pub number_of : Refusal → ℕ
number_of r = (line_of r).0

-- its place
abbrev pub place_of : Refusal → ℕ
place_of r = (line_of r).1
