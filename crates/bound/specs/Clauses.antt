-- What only the inner contracts of the bound call cite: what the bound of pieces, and that of a record, asks and leaves.
use Rattle.std.specs.Prelude.{◌≡◌, List, ℕ, ◌≤◌, length, Ok}
use Rattle.cutting.specs.Limits.{most_capacity}
use Rattle.cutting.specs.Job.{Job, InRange}
use Rattle.cutting.specs.Listed.{InTableRange}
use Rattle.refusal.specs.Refusals.{Answer, first_refusal, passed}
use Rattle.storage.specs.Clauses.{BothMapped}
use Rattle.promises.specs.declared.BoundReport.{BoundReport}
use Rattle.bound.specs.Bound.{Memory, Leaves, memory_checks, answer_by, bound_report}

-- what the bound of pieces asks: a plain job in range, a capacity, and room for the floors of both sides
pub record Boundable (J : Job) (q : ℕ) (floors : List ℕ) : Type 0 where
  pub in_range : InTableRange J
  pub most : q ≤ most_capacity
  pub floors_there : length floors ≡ 2042

-- the answer of a job, weights and a capacity that were accepted, what it leaves in lent memory, and where it has a report the floors of
-- both sides
pub record Bounded (J : Job) (weight : ℕ → ℕ) (q : ℕ) (old new : Memory) (floors : List ℕ) (r : Answer BoundReport) : Type 0 where
  pub answer : r ≡ answer_by (first_refusal (memory_checks J q old)) (bound_report J weight q)
  pub memory : Leaves passed J weight q old new
  pub mapped : (b : BoundReport) → r ≡ Ok b → BothMapped J floors

-- what the bound of a record asks: a job in range, a weight for each kind, and a capacity
pub record RecordBoundable (J : Job) (q : ℕ) (weights : List ℕ) : Type 0 where
  pub in_range : InRange J
  pub weighed : J.count ≤ length weights
  pub most : q ≤ most_capacity

-- the answer of a job, weights and a capacity, and what it leaves in lent memory; the floors are the call's own
abbrev pub RecordBounded : Job → (ℕ → ℕ) → ℕ → Memory → Memory → Answer BoundReport → Type 0
RecordBounded J weight q old new r = (floors : List ℕ) × Bounded J weight q old new floors r
