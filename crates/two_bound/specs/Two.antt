-- The bound call of two weights a kind: its checks in the table's order, its answer with number and values, what it leaves in lists and
-- table, and what the answered bound is. Where it says what the bound call says, it cites that call's definitions.
-- docs/SCOPE.md: Two weights a kind.
use Rattle.std.specs.Prelude.{◌≡◌, List, [], ◌∷◌, ◌++◌, ℕ, ◌≤◌, length, Ok, Err}
use Rattle.promises.specs.declared.Direction.TheVariants.{Length, Width}
use Rattle.cutting.specs.Limits.{most_figure}
use Rattle.cutting.specs.Job.{Job, capacity, at_full_demand, normal_positions}
use Rattle.cutting.specs.Promises.{NoneAbove, NoneFiner, FinerAmong, NormalSums}
use Rattle.cutting.specs.Two.{figure_two, two_under, two_bound, OfWeights, MostTwo, TwoFiguresMost, TwoRecursion, TwoFloors}
use Rattle.refusal.specs.Refusals.{Answer, Check, Checked, Outcome, passed, next, first_refusal, by_check, answer_by, outcome_by, outcome_of}
use Rattle.promises.specs.declared.Choices.{Choices}
use Rattle.job.specs.Block.{job_checks}
use Rattle.job.specs.Weights.{block_job, weight_in}
use Rattle.table.specs.Table.{position_count, Kept}
use Rattle.table.specs.Two.{two_words, TwoFigures}
use Rattle.bound.specs.Bound.{Memory, list_check, room_check, list_after, wide_job, block_capacity, bound_answer, BoundLeaves}
use Rattle.promises.specs.declared.TwoReport.{TwoReport}
pub use Rattle.promises.specs.Block.{two_checks}
pub use Rattle.promises.specs.Calls.{two_values}
use Rattle.promises.specs.declared.BoundReport.{BoundReport}

-- In the definitions up to `TwoLeaves`, J is the job with the kerf added to every side, and F gives its figures.
-- check 20: a table shorter than p · r · (Q + 1) · (Q' + 1), with the words needed
abbrev pub pairs_room_check : Job → ℕ → ℕ → ℕ → Check
pairs_room_check J q q' k = room_check (two_words J q q') k

-- the storage checks of lent memory
abbrev pub two_storage_checks : Job → ℕ → ℕ → Memory → List Check
two_storage_checks J q q' m = list_check J (length m.lengths) (length m.widths) ∷ pairs_room_check J q q' (length m.table) ∷ []

-- what the call reports: the figure of the plate at both capacities, the capacities, p and r
abbrev pub two_report : Job → (ℕ → ℕ → ℕ → ℕ → ℕ) → ℕ → ℕ → TwoReport
two_report J F q q' = record {
  bound = F J.plate.0 J.plate.1 q q';
  first_capacity = q;
  second_capacity = q';
  length_count = position_count J Length;
  columns = position_count J Width;
}

-- the table after the call: the figures of every pair of shares, and later words as they were; on a refusal all as it was
abbrev pub TwoAfter : Checked → Job → (ℕ → ℕ → ℕ → ℕ → ℕ) → ℕ → ℕ → List ℕ → List ℕ → Type 0
TwoAfter v J F q q' old new = by_check v (TwoFigures J F q q' new × Kept (two_words J q q') old new) (λ r. new ≡ old)

-- what the call leaves in lent memory, where `before` is the verdict of the checks before the storage's
pub record TwoLeaves (before : Checked) (J : Job) (F : ℕ → ℕ → ℕ → ℕ → ℕ) (q q' : ℕ) (old new : Memory) : Type 0 where
  pub lengths : new.lengths ≡ list_after (next before (first_refusal (list_check J (length old.lengths) (length old.widths) ∷ []))) (normal_positions J Length) old.lengths
  pub widths : new.widths ≡ list_after (next before (first_refusal (list_check J (length old.lengths) (length old.widths) ∷ []))) (normal_positions J Width) old.widths
  pub table : TwoAfter (next before (first_refusal (two_storage_checks J q q' old))) J F q q' old.table new.table

-- the verdict of the checks that stand before the storage's: 1 to 8, 27 and 35, 24, 9, 25
abbrev pub weighed_verdict : List ℕ → Choices → List ℕ → List ℕ → Checked
weighed_verdict s choices first second = first_refusal (job_checks s choices ++ two_checks (block_job s choices) first second)

-- a job block and two weights a kind that none of them refuses
abbrev pub BothAccepted : List ℕ → Choices → List ℕ → List ℕ → Type 0
BothAccepted s choices first second = weighed_verdict s choices first second ≡ passed

-- the verdict of the call: those, 19, 20
abbrev pub two_verdict : List ℕ → Choices → List ℕ → List ℕ → Memory → Checked
two_verdict s choices first second m =
    next (weighed_verdict s choices first second) (first_refusal (two_storage_checks (wide_job s choices) (block_capacity s choices first) (block_capacity s choices second) m))

-- the figures of a job block and two weights a kind, the kerf added to every side
abbrev pub block_figure : List ℕ → Choices → List ℕ → List ℕ → ℕ → ℕ → ℕ → ℕ → ℕ
block_figure s choices first second = figure_two (wide_job s choices) (weight_in first) (weight_in second)

-- what the call reports of them
abbrev pub two_block_report : List ℕ → Choices → List ℕ → List ℕ → TwoReport
two_block_report s choices first second = two_report (wide_job s choices) (block_figure s choices first second) (block_capacity s choices first) (block_capacity s choices second)

-- what it answers
abbrev pub two_answer : List ℕ → Choices → List ℕ → List ℕ → Memory → Answer TwoReport
two_answer s choices first second m = answer_by (two_verdict s choices first second m) (two_block_report s choices first second)

-- an answer's number and values: the bound, both capacities, p and r
abbrev pub two_outcome : Answer TwoReport → Outcome
two_outcome r = outcome_of two_values r

-- those that the call answers
abbrev pub two_said : List ℕ → Choices → List ℕ → List ℕ → Memory → Outcome
two_said s choices first second m = outcome_by (two_verdict s choices first second m) (two_values (two_block_report s choices first second))

-- what a bound n at the capacities q and q' is: the most that a guillotine tree of weights at most q and q' earns; no less than any tree of
-- the job's kinds that keeps the demands earns; no less than any of these trees cut finer; at most 1,000,000,000,000; the recursion's figure, the kerf added to every
-- side, at the plate, q and q'. The capacities are the job's, and the bound of the full demands is no less
pub record TwoHolds (J : Job) (first second : ℕ → ℕ) (q q' n : ℕ) : Type 0 where
  pub most : MostTwo J first second q q' n
  pub most_finer : FinerAmong J (OfWeights first second q q') n
  pub demands : NoneAbove J n
  pub finer : NoneFiner J n
  pub ceiling : n ≤ most_figure
  pub figure : n ≡ two_under J first second q q'
  pub first_is : q ≡ capacity J first
  pub second_is : q' ≡ capacity J second
  pub full_demand : n ≤ two_bound (at_full_demand J) first second

-- the bound call's answer with a second capacity of 0
abbrev pub with_second_none : Answer BoundReport → Answer TwoReport
with_second_none (Ok b) =
    Ok (record { bound = b.bound; first_capacity = b.capacity; second_capacity = 0; length_count = b.length_count; columns = b.columns })
with_second_none (Err r) = Err r

-- where the second weights are as many as the first and all 0, answer and memory are those of the bound call of the first
abbrev pub OneAlone : List ℕ → Choices → List ℕ → List ℕ → Memory → Memory → Answer TwoReport → Type 0
OneAlone s choices first second old new r = length second ≡ length first → ((i : ℕ) → weight_in second i ≡ 0)
    → (r ≡ with_second_none (bound_answer s choices first old)) × BoundLeaves s choices first old new

-- what the call promises: answer, number and values are the definition's; lent memory is left as the definition says; an answered bound
-- holds; with the kerf added to every side the figures follow the recursion and the normal positions are the sums. Where job and weights
-- are accepted, whatever storage is lent: their bound holds, every figure is the most that a tree within both shares earns there, and a
-- tabled figure is that of every rectangle whose largest normal sides it has. Second weights of 0 change nothing
pub record TwoPromises (s : List ℕ) (choices : Choices) (first second : List ℕ) (old new : Memory) (r : Answer TwoReport) : Type 0 where
  pub answers : r ≡ two_answer s choices first second old
  pub outcome : two_outcome r ≡ two_said s choices first second old
  pub memory : TwoLeaves (weighed_verdict s choices first second) (wide_job s choices) (block_figure s choices first second) (block_capacity s choices first) (block_capacity s choices second) old new
  pub exact : (b : TwoReport) → r ≡ Ok b → TwoHolds (block_job s choices) (weight_in first) (weight_in second) b.first_capacity b.second_capacity b.bound
  pub recursion : TwoRecursion (wide_job s choices) (weight_in first) (weight_in second)
  pub normal : NormalSums (wide_job s choices)
  pub accepted : BothAccepted s choices first second → TwoHolds (block_job s choices) (weight_in first) (weight_in second) (block_capacity s choices first) (block_capacity s choices second) (two_bound (block_job s choices) (weight_in first) (weight_in second))
  pub figures : BothAccepted s choices first second → TwoFiguresMost (block_job s choices) (weight_in first) (weight_in second)
  pub floor : BothAccepted s choices first second → TwoFloors (wide_job s choices) (weight_in first) (weight_in second)
  pub one : OneAlone s choices first second old new r
