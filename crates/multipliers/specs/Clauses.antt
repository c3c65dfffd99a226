-- What only the inner contracts of the call cite: lowered prices, and what the bound of a record and multipliers asks and leaves.
use Rattle.std.specs.Prelude.{◌≡◌, List, ℕ, ◌-◌, ◌≤◌, ◌<◌, length, get_or}
use Rattle.cutting.specs.Job.{Job, widened, capacity}
use Rattle.refusal.specs.Refusals.{Answer, answer_by, first_refusal, passed}
use Rattle.job.specs.Weights.{weight_in}
use Rattle.bound.specs.Bound.{Memory, Leaves, memory_checks}
use Rattle.bound.specs.Clauses.{RecordBoundable}
use Rattle.multipliers.specs.Multipliers.{lowered, multiplier_in, most_multiplier, lagrangian_report}
use Rattle.promises.specs.declared.LagrangianReport.{LagrangianReport}

-- prices that were lowered in place: each less its multiplier, 0 where that is more
pub record PricesLowered (multipliers old new : List ℕ) : Type 0 where
  pub lower : (i : ℕ) → get_or new i 0 ≡ get_or old i 0 - multiplier_in multipliers i

-- a job in range with its weights and their capacity, and a multiplier in range for each kind
pub record Multipliable (J : Job) (q : ℕ) (weights multipliers : List ℕ) : Type 0 where
  pub ready : RecordBoundable J q weights
  pub capacity_is : q ≡ capacity J (weight_in weights)
  pub counts : length multipliers ≡ J.count
  pub low : (i : ℕ) → i < J.count → multiplier_in multipliers i ≤ most_multiplier

-- the answer of a job, multipliers, weights and a capacity that were accepted, and what it leaves in lent memory
pub record Multiplied (J : Job) (multiplier weight : ℕ → ℕ) (q : ℕ) (old new : Memory) (r : Answer LagrangianReport) : Type 0 where
  pub answer : r ≡ answer_by (first_refusal (memory_checks (widened (lowered multiplier J)) q old)) (lagrangian_report J multiplier weight q)
  pub memory : Leaves passed (widened (lowered multiplier J)) weight q old new
