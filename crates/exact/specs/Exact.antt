-- The exact call: its checks in the table's order, its answer with number and values, what it leaves in lists, table and plan arrays, and
-- what the answered optimum is. Where it says what the bound call or the writing call says, it cites their definitions.
-- docs/SCOPE.md: The exact answer for short orders.
use Rattle.std.specs.Prelude.{◌≡◌, List, [], ◌∷◌, ◌++◌, ℕ, ◌+◌, ◌≤◌, ◌<◌, length, get_or, Ok}
use Rattle.promises.specs.declared.Direction.TheVariants.{Length, Width}
use Rattle.cutting.specs.Lists.{over}
use Rattle.cutting.specs.Tree.{Tree, IdleFree}
use Rattle.cutting.specs.Pieces.{Piece}
use Rattle.cutting.specs.Preorder.{kinds_of, operands_of, node_count}
use Rattle.cutting.specs.Job.{Job, at_full_demand, bound_of, normal_positions}
use Rattle.cutting.specs.Promises.{NoneFiner, NormalSums, PlanFollows}
use Rattle.cutting.specs.Two.{two_bound}
use Rattle.cutting.specs.Exact.{state_count, full_state, by_copies, exact_figure, optimum, optimum_plan, ExactRecursion, ExactFloors, EarnsExactly, MostExact, ExactFiguresMost}
use Rattle.refusal.specs.Refusals.{Answer, Checked, Outcome, passed, next, first_refusal, by_check, answer_by, outcome_by, outcome_of, verdict_of}
use Rattle.promises.specs.declared.Choices.{Choices}
use Rattle.job.specs.Block.{job_checks}
use Rattle.job.specs.Weights.{block_job}
use Rattle.table.specs.Table.{position_count, position, words_needed, word, Kept}
use Rattle.bound.specs.Bound.{Memory, list_check, list_after, memory_checks, wide_job}
use Rattle.plan.specs.Plan.{plan_answer}
use Rattle.plan.specs.Trees.{PlanOf}
use Rattle.writer.specs.Write.{nodes_verdict}
use Rattle.promises.specs.declared.ExactReport.{ExactReport}
pub use Rattle.promises.specs.Block.{state_check}
pub use Rattle.promises.specs.Refusals.{most_states}
pub use Rattle.promises.specs.Systems.{CopiesByDigits}
pub use Rattle.promises.specs.Calls.{exact_values}

-- The table has the layout of the bound call's with the last state in place of the capacity: a word a state. In the definitions up to
-- `ExactLeaves`, J is the job with the kerf added to every side, F gives its figures, and q is the last state.
-- each word holds the figure of its normal length, normal width and state
abbrev pub StateFigures : Job → (ℕ → ℕ → ℕ → ℕ) → ℕ → List ℕ → Type 0
StateFigures J F q xs = (a b s : ℕ) → a < position_count J Length → b < position_count J Width → s < q + 1
    → get_or xs (word J q a b s) 0 ≡ F (position J Length a) (position J Width b) s

-- the table after the call: the figures of every state, and later words as they were; on a refusal all as it was
abbrev pub StatesAfter : Checked → Job → (ℕ → ℕ → ℕ → ℕ) → ℕ → List ℕ → List ℕ → Type 0
StatesAfter v J F q old new = by_check v (StateFigures J F q new × Kept (words_needed J q) old new) (λ r. new ≡ old)

-- what the call leaves in lent memory, where `before` is the verdict of the checks before the storage's
pub record ExactLeaves (before : Checked) (J : Job) (F : ℕ → ℕ → ℕ → ℕ) (q : ℕ) (old new : Memory) : Type 0 where
  pub lengths : new.lengths ≡ list_after (next before (first_refusal (list_check J (length old.lengths) (length old.widths) ∷ []))) (normal_positions J Length) old.lengths
  pub widths : new.widths ≡ list_after (next before (first_refusal (list_check J (length old.lengths) (length old.widths) ∷ []))) (normal_positions J Width) old.widths
  pub table : StatesAfter (next before (first_refusal (memory_checks J q old))) J F q old.table new.table

-- the verdict of the checks that stand before the storage's: 1 to 7, 27 and 35, 30
abbrev pub short_verdict : List ℕ → Choices → Checked
short_verdict s choices = first_refusal (job_checks s choices ++ (state_check (block_job s choices) ∷ []))

-- a job block that none of them refuses: a short order
abbrev pub ShortOrder : List ℕ → Choices → Type 0
ShortOrder s choices = short_verdict s choices ≡ passed

-- the verdict of the call: those, 19, 20, 21
abbrev pub exact_verdict : List ℕ → Choices → Memory → List ℕ → List ℕ → Checked
exact_verdict s choices m kinds operands =
    next (next (short_verdict s choices) (first_refusal (memory_checks (wide_job s choices) (full_state (block_job s choices)) m))) (nodes_verdict (optimum_plan (block_job s choices)) kinds operands)

-- what the call reports of a job: the optimum, the number of states, p, r and the plan's node count
abbrev pub exact_report : List ℕ → Choices → ExactReport
exact_report s choices = record {
  optimum = optimum (block_job s choices);
  states = state_count (block_job s choices);
  length_count = position_count (wide_job s choices) Length;
  columns = position_count (wide_job s choices) Width;
  nodes = node_count (optimum_plan (block_job s choices));
}

-- what the call answers
abbrev pub exact_answer : List ℕ → Choices → Memory → List ℕ → List ℕ → Answer ExactReport
exact_answer s choices m kinds operands = answer_by (exact_verdict s choices m kinds operands) (exact_report s choices)

-- an answer's number and values: the optimum, the number of states, p, r and the node count
abbrev pub exact_outcome : Answer ExactReport → Outcome
exact_outcome r = outcome_of exact_values r

-- those that the call answers
abbrev pub exact_said : List ℕ → Choices → Memory → List ℕ → List ℕ → Outcome
exact_said s choices m kinds operands = outcome_by (exact_verdict s choices m kinds operands) (exact_values (exact_report s choices))

-- a plan array after the call: the plan over its old contents where all checks pass, and else as it was
abbrev pub exact_array_after : List ℕ → Choices → Memory → List ℕ → List ℕ → List ℕ → List ℕ → List ℕ
exact_array_after s choices m kinds operands xs old = list_after (exact_verdict s choices m kinds operands) xs old

-- what an optimum n of a job is: the most that a guillotine tree on the plate that keeps every demand earns, of whatever kinds of the job, and
-- no less than one cut finer earns; every bound of one weight a kind or of two, in either form of the capacity, lies at or above it; the last word's figure
pub record OptimumHolds (J : Job) (n : ℕ) : Type 0 where
  pub most : MostExact J n
  pub finer : NoneFiner J n
  pub bounds : (weight : ℕ → ℕ) → (n ≤ bound_of J weight) × (n ≤ bound_of (at_full_demand J) weight)
  pub two_bounds : (first second : ℕ → ℕ) → (n ≤ two_bound J first second) × (n ≤ two_bound (at_full_demand J) first second)
  pub figure : n ≡ optimum J

-- the plan behind it follows the order of choice, keeps every demand, earns the optimum and has no idle cut
pub record OptimumPlanned (J : Job) : Type 0 where
  pub choice : PlanFollows J (by_copies J)
  pub plan : EarnsExactly J (optimum J) (optimum_plan J)
  pub idle_free : IdleFree (optimum_plan J)

-- a plan that was written and reported: it passes the check, in the words of the check too, and earns the answered optimum, the arrays hold its preorder over their old
-- contents, and it has the answered number of nodes
pub record OptimumWritten (J : Job) (t : Tree Piece) (kinds operands new_kinds new_operands : List ℕ) (b : ExactReport) : Type 0 where
  pub passes : PlanOf J t (kinds_of t) (operands_of t)
  pub checked : verdict_of (plan_answer J (kinds_of t) (operands_of t)) ≡ passed
  pub earns : EarnsExactly J b.optimum t
  pub kinds_hold : new_kinds ≡ over (kinds_of t) kinds
  pub operands_hold : new_operands ≡ over (operands_of t) operands
  pub counted : b.nodes ≡ node_count t

-- what the call promises of its answer and of all that it is lent: answer, lists, table and plan arrays are the definitions', number and
-- values too; with the kerf added to every side the figures follow the recursion over the remaining copies and the normal positions are the
-- sums. Of a short order, whatever storage is lent: its optimum and its plan hold, the figure of a state is the most that a tree earns there
-- with of no kind more copies than remain, the order of states is that of these copies, and a tabled figure is that of every rectangle
-- whose largest normal sides it has. An answered optimum holds, and an answer reports the plan as it was written
pub record ExactPromises (s : List ℕ) (choices : Choices) (old new : Memory) (kinds operands new_kinds new_operands : List ℕ) (r : Answer ExactReport) : Type 0 where
  pub answers : r ≡ exact_answer s choices old kinds operands
  pub outcome : exact_outcome r ≡ exact_said s choices old kinds operands
  pub memory : ExactLeaves (short_verdict s choices) (wide_job s choices) (exact_figure (wide_job s choices)) (full_state (block_job s choices)) old new
  pub kinds_left : new_kinds ≡ exact_array_after s choices old kinds operands (kinds_of (optimum_plan (block_job s choices))) kinds
  pub operands_left : new_operands ≡ exact_array_after s choices old kinds operands (operands_of (optimum_plan (block_job s choices))) operands
  pub recursion : ExactRecursion (wide_job s choices)
  pub normal : NormalSums (wide_job s choices)
  pub exact : (b : ExactReport) → r ≡ Ok b → OptimumHolds (block_job s choices) b.optimum
  pub optimal : ShortOrder s choices → OptimumHolds (block_job s choices) (optimum (block_job s choices))
  pub planned : ShortOrder s choices → OptimumPlanned (block_job s choices)
  pub figures : ShortOrder s choices → ExactFiguresMost (block_job s choices)
  pub digits : ShortOrder s choices → CopiesByDigits (block_job s choices)
  pub floor : ShortOrder s choices → ExactFloors (wide_job s choices)
  pub plan : (b : ExactReport) → r ≡ Ok b → OptimumWritten (block_job s choices) (optimum_plan (block_job s choices)) kinds operands new_kinds new_operands b
