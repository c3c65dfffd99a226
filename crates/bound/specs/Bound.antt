-- The bound call: its checks in the table's order, its answer with number and values, what it leaves in lists and table, and what the
-- answered bound is.
-- docs/SCOPE.md: The bound; Lent memory.
use Rattle.std.specs.Prelude.{◌≡◌, false, List, [], ◌∷◌, ◌++◌, ℕ, ◌≤◌, length, Ok}
use Rattle.promises.specs.declared.Direction.TheVariants.{Length, Width}
use Rattle.cutting.specs.Limits.{most_figure}
use Rattle.cutting.specs.Job.{Job, widened, capacity, at_full_demand, figure_of, bound_of, normal_positions}
use Rattle.cutting.specs.Promises.{NoneAbove, NoneFiner, NoneHeavier, PlateHolds, FinerAmong, OfWeight, MostWithin, Recursion, NormalSums, FiguresMost, FloorFigures}
use Rattle.refusal.specs.Refusals.{Answer, Check, Checked, Outcome, next, first_refusal, by_check, outcome_by, outcome_of}
use Rattle.promises.specs.declared.Choices.{Choices}
use Rattle.job.specs.Block.{with_old_block, job_checks, KerfNone}
use Rattle.job.specs.Weights.{block_job, weight_in, weight_checks, Accepted}
use Rattle.table.specs.Table.{position_count, words_needed, Figures, Kept}
pub use Rattle.storage.specs.Storage.{list_check, room_check, list_after}
use Rattle.promises.specs.declared.BoundReport.{BoundReport}
pub use Rattle.promises.specs.Call.{Memory, lent}
pub use Rattle.promises.specs.Calls.{bound_values}
pub use Rattle.promises.specs.Refusals.{answer_by}

-- The lists, the table and the figures are those of the job with the kerf added to every side, cut without loss: J is that job in the
-- definitions up to `Leaves`.
-- check 20: a table shorter than p · r · (Q + 1), with the words needed
abbrev pub table_check : Job → ℕ → ℕ → Check
table_check J q n = room_check (words_needed J q) n

-- the storage checks, over the lengths of the two lists and of the table
abbrev pub storage_checks : Job → ℕ → ℕ → ℕ → ℕ → List Check
storage_checks J q m n k = list_check J m n ∷ table_check J q k ∷ []

-- what the bound call reports of a job, weights and a capacity: the bound, Q, p and r
abbrev pub bound_report : Job → (ℕ → ℕ) → ℕ → BoundReport
bound_report J weight q = record { bound = figure_of J weight J.plate.0 J.plate.1 q; capacity = q; length_count = position_count J Length; columns = position_count J Width }

-- the table after the call: the figures, and later words as they were; on a refusal all as it was
abbrev pub TableAfter : Checked → Job → (ℕ → ℕ) → ℕ → List ℕ → List ℕ → Type 0
TableAfter v J weight q old new = by_check v (Figures J weight q new × Kept (words_needed J q) old new) (λ r. new ≡ old)

-- the storage checks of lent memory
abbrev pub memory_checks : Job → ℕ → Memory → List Check
memory_checks J q m = storage_checks J q (length m.lengths) (length m.widths) (length m.table)

-- what a call leaves in lent memory at a capacity q, where `before` is the verdict of the checks before the storage's
pub record Leaves (before : Checked) (J : Job) (weight : ℕ → ℕ) (q : ℕ) (old new : Memory) : Type 0 where
  pub lengths : new.lengths ≡ list_after (next before (first_refusal (list_check J (length old.lengths) (length old.widths) ∷ []))) (normal_positions J Length) old.lengths
  pub widths : new.widths ≡ list_after (next before (first_refusal (list_check J (length old.lengths) (length old.widths) ∷ []))) (normal_positions J Width) old.widths
  pub table : TableAfter (next before (first_refusal (memory_checks J q old))) J weight q old.table new.table

-- the job of a block with the kerf added to every side
abbrev pub wide_job : List ℕ → Choices → Job
wide_job s choices = widened (block_job s choices)

-- the capacity of a job block and weights
abbrev pub block_capacity : List ℕ → Choices → List ℕ → ℕ
block_capacity s choices ws = capacity (block_job s choices) (weight_in ws)

-- the verdict of the checks that stand before the storage's, 1 to 9, 27 and 35
abbrev pub accept_verdict : List ℕ → Choices → List ℕ → Checked
accept_verdict s choices ws = first_refusal (job_checks s choices ++ weight_checks (block_job s choices) ws)

-- the verdict of the bound call: 1 to 9, 27 and 35, 19, 20
abbrev pub bound_verdict : List ℕ → Choices → List ℕ → Memory → Checked
bound_verdict s choices ws m = next (accept_verdict s choices ws) (first_refusal (memory_checks (wide_job s choices) (block_capacity s choices ws) m))

-- what the bound call reports of a job block and weights
abbrev pub block_report : List ℕ → Choices → List ℕ → BoundReport
block_report s choices ws = bound_report (wide_job s choices) (weight_in ws) (block_capacity s choices ws)

-- what the bound call answers
abbrev pub bound_answer : List ℕ → Choices → List ℕ → Memory → Answer BoundReport
bound_answer s choices ws m = answer_by (bound_verdict s choices ws m) (block_report s choices ws)

-- what it leaves in lent memory
abbrev pub BoundLeaves : List ℕ → Choices → List ℕ → Memory → Memory → Type 0
BoundLeaves s choices ws old new = Leaves (accept_verdict s choices ws) (wide_job s choices) (weight_in ws) (block_capacity s choices ws) old new

-- an answer's number and values: the bound, Q, p and r
abbrev pub bound_outcome : Answer BoundReport → Outcome
bound_outcome r = outcome_of bound_values r

-- those that the call answers
abbrev pub bound_said : List ℕ → Choices → List ℕ → Memory → Outcome
bound_said s choices ws m = outcome_by (bound_verdict s choices ws m) (bound_values (block_report s choices ws))

-- what a bound n at the capacity q is: the most that a guillotine tree of weight at most q earns; no less than any tree of the job's kinds that
-- keeps the demands earns, which weighs at most q; no less than any of these trees cut finer; at most 1,000,000,000,000; the recursion's figure,
-- the kerf added to every side, at the plate and q. The capacity is the job's, no tree on the plate has more copies of a kind than it counts as
-- what the plate holds, and capacity and bound of the full demands are no less
pub record BoundHolds (J : Job) (weight : ℕ → ℕ) (q n : ℕ) : Type 0 where
  pub most : MostWithin J weight q n
  pub most_finer : FinerAmong J (OfWeight weight q) n
  pub demands : NoneAbove J n
  pub finer : NoneFiner J n
  pub weighs : NoneHeavier J weight q
  pub ceiling : n ≤ most_figure
  pub figure : n ≡ figure_of (widened J) weight (widened J).plate.0 (widened J).plate.1 q
  pub capacity_is : q ≡ capacity J weight
  pub held : PlateHolds J
  pub full_capacity : q ≤ capacity (at_full_demand J) weight
  pub full_demand : n ≤ bound_of (at_full_demand J) weight

-- the bound of a job block and weights holds at their capacity
abbrev pub BlockHolds : List ℕ → Choices → List ℕ → Type 0
BlockHolds s choices ws = BoundHolds (block_job s choices) (weight_in ws) (block_capacity s choices ws) (bound_of (block_job s choices) (weight_in ws))

-- what an answer says: its bound holds at its capacity
abbrev pub BoundSaid : List ℕ → Choices → List ℕ → Answer BoundReport → Type 0
BoundSaid s choices ws r = (b : BoundReport) → r ≡ Ok b → BoundHolds (block_job s choices) (weight_in ws) b.capacity b.bound

-- what the bound call promises of its answer and of the memory that it is lent: both are the definitions', number and values too; an
-- answered bound holds; with the kerf added to every side the figures follow the recursion and the normal positions are the sums. Where
-- job and weights are accepted, whatever storage is lent: their bound holds, every figure is the most that a tree earns there, and a tabled
-- figure is that of every rectangle whose largest normal sides it has. Kerf 0 in a new block answers and leaves what the old block does
pub record BoundPromises (s : List ℕ) (choices : Choices) (ws : List ℕ) (old new : Memory) (r : Answer BoundReport) : Type 0 where
  pub answers : r ≡ bound_answer s choices ws old
  pub outcome : bound_outcome r ≡ bound_said s choices ws old
  pub memory : BoundLeaves s choices ws old new
  pub exact : BoundSaid s choices ws r
  pub recursion : Recursion (wide_job s choices) (weight_in ws)
  pub normal : NormalSums (wide_job s choices)
  pub accepted : Accepted s choices ws → BlockHolds s choices ws
  pub figures : Accepted s choices ws → FiguresMost (block_job s choices) (weight_in ws)
  pub floor : Accepted s choices ws → FloorFigures (wide_job s choices) (weight_in ws)
  pub kerf_none : (z : List ℕ) → choices.old_block ≡ false → KerfNone s z → (r ≡ bound_answer z (with_old_block choices) ws old) × BoundLeaves z (with_old_block choices) ws old new
