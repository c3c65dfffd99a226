-- The staged bound call: its checks in the table's order, its answer with number and values, what it leaves in lists and table, and what
-- the answered bound is. Where it says what the bound call says, it cites that call's definitions.
-- docs/SCOPE.md: No more than so many stages.
use Rattle.std.specs.Prelude.{◌≡◌, List, [], ◌∷◌, ℕ, ◌≤◌, max, length, Ok}
use Rattle.promises.specs.declared.Direction.TheVariants.{Length, Width}
use Rattle.cutting.specs.Limits.{most_figure}
use Rattle.cutting.specs.Job.{Job, capacity, at_full_demand, bound_of, normal_positions}
use Rattle.cutting.specs.Promises.{FinerAmong, NormalSums}
use Rattle.cutting.specs.Staged.{block, staged_under, staged_bound, OfStages, MostStaged, NoneStaged, NoneStagedFiner, StagedRecursion, StagedFloors, StagedFiguresMost}
use Rattle.refusal.specs.Refusals.{Answer, Check, Checked, Outcome, next, first_refusal, by_check, answer_by, outcome_by}
use Rattle.promises.specs.declared.Choices.{Choices}
use Rattle.job.specs.Weights.{block_job, weight_in, Accepted}
use Rattle.stages.specs.Stages.{limit_check}
use Rattle.table.specs.Table.{position_count, Kept}
use Rattle.table.specs.Staged.{staged_words, StagedFigures}
use Rattle.promises.specs.declared.BoundReport.{BoundReport}
use Rattle.bound.specs.Bound.{Memory, list_check, room_check, list_after, wide_job, block_capacity, accept_verdict, bound_values, bound_outcome}

-- check 20: a table shorter than (2n + 1) · p · r · (Q + 1), with the words needed
abbrev pub blocks_room_check : Job → ℕ → ℕ → ℕ → Check
blocks_room_check J n q k = room_check (staged_words J q n) k

-- the storage checks of lent memory
abbrev pub staged_checks : Job → ℕ → ℕ → Memory → List Check
staged_checks J n q m = list_check J (length m.lengths) (length m.widths) ∷ blocks_room_check J n q (length m.table) ∷ []

-- what the call reports of a job, weights, a limit and a capacity: the greater of length first and width first at the limit, Q, p and r
abbrev pub staged_report : Job → (ℕ → ℕ) → ℕ → ℕ → BoundReport
staged_report J weight n q = record {
  bound = max (block J weight n Length J.plate.0 J.plate.1 q) (block J weight n Width J.plate.0 J.plate.1 q);
  capacity = q;
  length_count = position_count J Length;
  columns = position_count J Width;
}

-- the table after the call: the figures of every block, and later words as they were; on a refusal all as it was
abbrev pub StagedAfter : Checked → Job → (ℕ → ℕ) → ℕ → ℕ → List ℕ → List ℕ → Type 0
StagedAfter v J weight n q old new = by_check v (StagedFigures J weight n q new × Kept (staged_words J q n) old new) (λ r. new ≡ old)

-- what the call leaves in lent memory, where `before` is the verdict of the checks before the storage's
pub record StagedLeaves (before : Checked) (J : Job) (weight : ℕ → ℕ) (n q : ℕ) (old new : Memory) : Type 0 where
  pub lengths : new.lengths ≡ list_after (next before (first_refusal (list_check J (length old.lengths) (length old.widths) ∷ []))) (normal_positions J Length) old.lengths
  pub widths : new.widths ≡ list_after (next before (first_refusal (list_check J (length old.lengths) (length old.widths) ∷ []))) (normal_positions J Width) old.widths
  pub table : StagedAfter (next before (first_refusal (staged_checks J n q old))) J weight n q old.table new.table

-- the verdict of the checks that stand before the storage's: 1 to 9, 27 and 35, and 22
abbrev pub limit_verdict : List ℕ → Choices → List ℕ → ℕ → Checked
limit_verdict s choices ws n = next (accept_verdict s choices ws) (first_refusal (limit_check n ∷ []))

-- the verdict of the staged bound call: 1 to 9, 27 and 35, 22, 19, 20
abbrev pub staged_verdict : List ℕ → Choices → List ℕ → ℕ → Memory → Checked
staged_verdict s choices ws n m = next (limit_verdict s choices ws n) (first_refusal (staged_checks (wide_job s choices) n (block_capacity s choices ws) m))

-- what it reports of a job block, weights and a limit
abbrev pub staged_block_report : List ℕ → Choices → List ℕ → ℕ → BoundReport
staged_block_report s choices ws n = staged_report (wide_job s choices) (weight_in ws) n (block_capacity s choices ws)

-- what it answers
abbrev pub staged_answer : List ℕ → Choices → List ℕ → ℕ → Memory → Answer BoundReport
staged_answer s choices ws n m = answer_by (staged_verdict s choices ws n m) (staged_block_report s choices ws n)

-- the number and values that it answers
abbrev pub staged_said : List ℕ → Choices → List ℕ → ℕ → Memory → Outcome
staged_said s choices ws n m = outcome_by (staged_verdict s choices ws n m) (bound_values (staged_block_report s choices ws n))

-- what a staged bound m at the limit n and the capacity q is: the most that a guillotine tree of at most n stages and of weight at most q
-- earns; no less than any tree of the job's kinds of at most n stages that keeps the demands earns; no less than any of these trees cut finer;
-- at most 1,000,000,000,000; the greater of the two blocks of the limit, the kerf added to every side, at the plate and q. The capacity is the
-- job's. A higher limit gives no less, and the bound without a limit and that of the full demands are no less
pub record StagedHolds (J : Job) (weight : ℕ → ℕ) (n q m : ℕ) : Type 0 where
  pub most : MostStaged J weight n q m
  pub most_finer : FinerAmong J (OfStages weight n q) m
  pub demands : NoneStaged J n m
  pub finer : NoneStagedFiner J n m
  pub ceiling : m ≤ most_figure
  pub figure : m ≡ staged_under J weight n q
  pub capacity_is : q ≡ capacity J weight
  pub more : (k : ℕ) → n ≤ k → m ≤ staged_under J weight k q
  pub less : m ≤ bound_of J weight
  pub full_demand : m ≤ staged_bound (at_full_demand J) weight n

-- what the staged bound call promises of its answer and of the memory that it is lent: as the bound call does; where job and weights are
-- accepted, every figure of a block is the most that a tree of the block earns there
pub record StagedPromises (s : List ℕ) (choices : Choices) (ws : List ℕ) (n : ℕ) (old new : Memory) (r : Answer BoundReport) : Type 0 where
  pub answers : r ≡ staged_answer s choices ws n old
  pub outcome : bound_outcome r ≡ staged_said s choices ws n old
  pub memory : StagedLeaves (limit_verdict s choices ws n) (wide_job s choices) (weight_in ws) n (block_capacity s choices ws) old new
  pub exact : (b : BoundReport) → r ≡ Ok b → StagedHolds (block_job s choices) (weight_in ws) n b.capacity b.bound
  pub recursion : StagedRecursion (wide_job s choices) (weight_in ws)
  pub normal : NormalSums (wide_job s choices)
  pub accepted : Accepted s choices ws → StagedHolds (block_job s choices) (weight_in ws) n (block_capacity s choices ws) (staged_bound (block_job s choices) (weight_in ws) n)
  pub figures : Accepted s choices ws → StagedFiguresMost (block_job s choices) (weight_in ws)
  pub floor : Accepted s choices ws → StagedFloors (wide_job s choices) (weight_in ws)
