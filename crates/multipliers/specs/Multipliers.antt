-- Multipliers in place of demands: the lowered job, when multipliers are refused, what the call answers and leaves, and what an answered
-- bound is.
-- docs/SCOPE.md: Multipliers.
use Rattle.std.specs.Prelude.{◌≡◌, not, List, [], ◌∷◌, ℕ, ◌+◌, ◌-◌, ltb, eqb, length, Ok, Err}
use Rattle.cutting.specs.Job.{Job, widened, bound_of}
use Rattle.cutting.specs.Promises.{NoneAbove, NoneFiner, NoneBetter, FiguresMost}
use Rattle.cutting.specs.Relaxation.{Relaxes}
use Rattle.refusal.specs.Refusals.{Answer, Check, Checked, Outcome, passed, next, first_refusal, answer_by, outcome_by, outcome_of}
use Rattle.promises.specs.declared.Refusal.TheVariants.{MultiplierCount, Multiplier}
use Rattle.promises.specs.declared.Choices.{Choices}
use Rattle.job.specs.Block.{each_kind}
use Rattle.job.specs.Weights.{block_job, weight_in}
use Rattle.orders.specs.Orders.{worth_at}
use Rattle.bound.specs.Bound.{Memory, Leaves, memory_checks, accept_verdict, block_capacity, bound_report, bound_answer, BoundLeaves, BoundHolds}
use Rattle.promises.specs.declared.LagrangianReport.{LagrangianReport}
pub use Rattle.promises.specs.Orders.{multiplier_in, lagrangian_values}
pub use Rattle.promises.specs.Refusals.{most_multiplier}
use Rattle.promises.specs.declared.BoundReport.{BoundReport}

-- the same job at other prices
abbrev pub repriced : (ℕ → ℕ) → Job → Job
repriced price J = record { plate = J.plate; kerf = J.kerf; turning = J.turning; full_demand = J.full_demand; count = J.count; size = J.size; price = price; demand = J.demand; grain = J.grain }

-- the lowered job: each price less its multiplier, 0 where that is more
abbrev pub lowered : (ℕ → ℕ) → Job → Job
lowered multiplier J = repriced (λ i. J.price i - multiplier i) J

-- what the multipliers come to: demand times multiplier, summed over the kinds
abbrev pub multiplier_worth : (ℕ → ℕ) → Job → ℕ
multiplier_worth multiplier J = worth_at J multiplier

-- check 38, of one kind
abbrev pub multiplier_check : List ℕ → ℕ → Check
multiplier_check ms i = (ltb most_multiplier (multiplier_in ms i), Multiplier i)

-- checks 37 and 38, of n kinds
abbrev pub multiplier_checks : ℕ → List ℕ → List Check
multiplier_checks n ms = (not (eqb (length ms) n), MultiplierCount) ∷ each_kind (λ i. multiplier_check ms i ∷ []) 0 n

-- the lowered job of a block and multipliers
abbrev pub lowered_job : List ℕ → Choices → List ℕ → Job
lowered_job s choices ms = lowered (multiplier_in ms) (block_job s choices)

-- the verdict of the checks that stand before the storage's: 1 to 9, 27 and 35, then 37, 38
abbrev pub multiplied_verdict : List ℕ → Choices → List ℕ → List ℕ → Checked
multiplied_verdict s choices ws ms = next (accept_verdict s choices ws) (first_refusal (multiplier_checks (block_job s choices).count ms))

-- a job block, weights and multipliers that none of them refuses
abbrev pub AllAccepted : List ℕ → Choices → List ℕ → List ℕ → Type 0
AllAccepted s choices ws ms = multiplied_verdict s choices ws ms ≡ passed

-- the verdict of the call: those, 19, 20
abbrev pub lagrangian_verdict : List ℕ → Choices → List ℕ → List ℕ → Memory → Checked
lagrangian_verdict s choices ws ms m = next (multiplied_verdict s choices ws ms) (first_refusal (memory_checks (widened (lowered_job s choices ms)) (block_capacity s choices ws) m))

-- what the call reports of a job, multipliers, weights and a capacity: the lowered job's report, and its bound with what the multipliers
-- come to
abbrev pub lagrangian_report : Job → (multiplier weight : ℕ → ℕ) → ℕ → LagrangianReport
lagrangian_report J multiplier weight q =
    record { lagrangian = (bound_report (widened (lowered multiplier J)) weight q).bound + multiplier_worth multiplier J; lowered = bound_report (widened (lowered multiplier J)) weight q }

-- what it reports of a job block, weights and multipliers
abbrev pub block_lagrangian : List ℕ → Choices → List ℕ → List ℕ → LagrangianReport
block_lagrangian s choices ws ms = lagrangian_report (block_job s choices) (multiplier_in ms) (weight_in ws) (block_capacity s choices ws)

-- what it answers
abbrev pub lagrangian_answer : List ℕ → Choices → List ℕ → List ℕ → Memory → Answer LagrangianReport
lagrangian_answer s choices ws ms m = answer_by (lagrangian_verdict s choices ws ms m) (block_lagrangian s choices ws ms)

-- an answer's number and values: the Lagrangian bound, the lowered job's bound, Q, p and r
abbrev pub lagrangian_outcome : Answer LagrangianReport → Outcome
lagrangian_outcome r = outcome_of lagrangian_values r

-- those that the call answers
abbrev pub lagrangian_said : List ℕ → Choices → List ℕ → List ℕ → Memory → Outcome
lagrangian_said s choices ws ms m = outcome_by (lagrangian_verdict s choices ws ms m) (lagrangian_values (block_lagrangian s choices ws ms))

-- what it leaves in lent memory: what the bound call leaves for the lowered job
abbrev pub LagrangianLeaves : List ℕ → Choices → List ℕ → List ℕ → Memory → Memory → Type 0
LagrangianLeaves s choices ws ms old new = Leaves (multiplied_verdict s choices ws ms) (widened (lowered_job s choices ms)) (weight_in ws) (block_capacity s choices ws) old new

-- what a Lagrangian bound n is, where b is the lowered job's bound at the capacity q: b with what the multipliers come to; no less than any
-- tree that keeps the demands earns, cut at whole units or finer, and at any true sizes that the job stands for
pub record LagrangianHolds (M : Job) (multiplier weight : ℕ → ℕ) (q b n : ℕ) : Type 0 where
  pub is : n ≡ b + multiplier_worth multiplier M
  pub lowered_holds : BoundHolds (lowered multiplier M) weight q b
  pub demands : NoneAbove M n
  pub finer : NoneFiner M n
  pub modelled : (J : Job) → Relaxes J M → NoneBetter J n

-- the bound call's answer as this call's: the bound with nothing beside it
abbrev pub as_lagrangian : Answer BoundReport → Answer LagrangianReport
as_lagrangian (Ok b) = Ok (record { lagrangian = b.bound; lowered = b })
as_lagrangian (Err r) = Err r

-- where there is a multiplier for each kind and all are 0, answer and memory are those of the bound call
abbrev pub BoundAlone : List ℕ → Choices → List ℕ → List ℕ → Memory → Memory → Answer LagrangianReport → Type 0
BoundAlone s choices ws ms old new r = length ms ≡ (block_job s choices).count → ((i : ℕ) → multiplier_in ms i ≡ 0)
    → (r ≡ as_lagrangian (bound_answer s choices ws old)) × BoundLeaves s choices ws old new

-- what the call promises: answer, number and values are the definition's; lent memory is left as the definition says; an answered bound
-- holds. Where job, weights and multipliers are accepted, whatever storage is lent: their bound holds, and every figure is the most that a
-- tree of the lowered job earns there. Multipliers of 0 change nothing
pub record LagrangianPromises (s : List ℕ) (choices : Choices) (ws ms : List ℕ) (old new : Memory) (r : Answer LagrangianReport) : Type 0 where
  pub answers : r ≡ lagrangian_answer s choices ws ms old
  pub outcome : lagrangian_outcome r ≡ lagrangian_said s choices ws ms old
  pub memory : LagrangianLeaves s choices ws ms old new
  pub holds : (b : LagrangianReport) → r ≡ Ok b → LagrangianHolds (block_job s choices) (multiplier_in ms) (weight_in ws) b.lowered.capacity b.lowered.bound b.lagrangian
  pub accepted : AllAccepted s choices ws ms
      → LagrangianHolds (block_job s choices) (multiplier_in ms) (weight_in ws) (block_capacity s choices ws) (bound_of (lowered_job s choices ms) (weight_in ws)) (bound_of (lowered_job s choices ms) (weight_in ws) + multiplier_worth (multiplier_in ms) (block_job s choices))
  pub figures : AllAccepted s choices ws ms → FiguresMost (lowered_job s choices ms) (weight_in ws)
  pub bound_alone : BoundAlone s choices ws ms old new r
