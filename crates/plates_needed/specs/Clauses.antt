-- What only the inner contracts of the call cite: what the plates of a record ask and leave.
use Rattle.std.specs.Prelude.{◌≡◌, List, ℕ}
use Rattle.cutting.specs.Job.{Job, widened, capacity}
use Rattle.refusal.specs.Refusals.{Answer, answer_by, first_refusal, passed}
use Rattle.job.specs.Weights.{weight_in}
use Rattle.bound.specs.Bound.{Memory, Leaves, memory_checks}
use Rattle.bound.specs.Clauses.{RecordBoundable}
use Rattle.plates_needed.specs.Plates.{plates_report}
use Rattle.promises.specs.declared.PlatesReport.{PlatesReport}

-- a job in range with its weights and their capacity
pub record Countable (J : Job) (q : ℕ) (weights : List ℕ) : Type 0 where
  pub ready : RecordBoundable J q weights
  pub capacity_is : q ≡ capacity J (weight_in weights)

-- the answer of a job, weights and a capacity that were accepted, and what it leaves in lent memory
pub record Counted (J : Job) (weight : ℕ → ℕ) (other q : ℕ) (old new : Memory) (r : Answer PlatesReport) : Type 0 where
  pub answer : r ≡ answer_by (first_refusal (memory_checks (widened J) q old)) (plates_report J weight other q)
  pub memory : Leaves passed (widened J) weight q old new
