-- What only the inner contracts of the staged bound call cite: what the staged bound of pieces asks and leaves.
use Rattle.std.specs.Prelude.{◌≡◌, ℕ, ◌≤◌}
use Rattle.cutting.specs.Limits.{most_capacity, most_limit}
use Rattle.cutting.specs.Job.{Job}
use Rattle.cutting.specs.Listed.{InTableRange}
use Rattle.refusal.specs.Refusals.{Answer, answer_by, first_refusal, passed}
use Rattle.bound.specs.Bound.{Memory}
use Rattle.staged_bound.specs.Staged.{StagedLeaves, staged_checks, staged_report}
use Rattle.promises.specs.declared.BoundReport.{BoundReport}

-- what the staged bound of pieces asks: a plain job in range, a capacity and a limit
pub record Stageable (J : Job) (q n : ℕ) : Type 0 where
  pub in_range : InTableRange J
  pub most : q ≤ most_capacity
  pub limit : (1 ≤ n) × (n ≤ most_limit)

-- the answer of a job, weights, a limit and a capacity that were accepted, and what it leaves in lent memory
pub record Staged (J : Job) (weight : ℕ → ℕ) (n q : ℕ) (old new : Memory) (r : Answer BoundReport) : Type 0 where
  pub answer : r ≡ answer_by (first_refusal (staged_checks J n q old)) (staged_report J weight n q)
  pub memory : StagedLeaves passed J weight n q old new
