-- The plates that a whole order needs: what the call answers and leaves, and what its answer says of plans on several plates.
-- docs/SCOPE.md: Whole orders.
use Rattle.std.specs.Prelude.{◌≡◌, List, ℕ, Ok}
use Rattle.cutting.specs.Job.{Job, widened, bound_of}
use Rattle.refusal.specs.Refusals.{Answer, Outcome, answer_by, outcome_by, outcome_of}
use Rattle.promises.specs.declared.Choices.{Choices}
use Rattle.job.specs.Weights.{block_job, weight_in, Accepted}
use Rattle.orders.specs.Orders.{order_worth, left_beside, plates_needed, Fewest, NoFewer, CheaperNotHeld}
use Rattle.bound.specs.Bound.{Memory, bound_verdict, block_capacity, bound_report, BoundLeaves, BoundHolds}
use Rattle.promises.specs.declared.PlatesReport.{PlatesReport}
pub use Rattle.promises.specs.Orders.{plates_values}

-- what the call reports of a job, weights and a capacity, beside other plates: the plates needed, the bound and the order's worth
abbrev pub plates_report : Job → (ℕ → ℕ) → (other q : ℕ) → PlatesReport
plates_report J weight other q =
    record { plates = plates_needed J (bound_report (widened J) weight q).bound other; bound = (bound_report (widened J) weight q).bound; worth = order_worth J }

-- what it reports of a job block and weights
abbrev pub block_plates : List ℕ → Choices → List ℕ → ℕ → PlatesReport
block_plates s choices ws other = plates_report (block_job s choices) (weight_in ws) other (block_capacity s choices ws)

-- what it answers, with the verdict of the bound call
abbrev pub plates_answer : List ℕ → Choices → List ℕ → ℕ → Memory → Answer PlatesReport
plates_answer s choices ws other m = answer_by (bound_verdict s choices ws m) (block_plates s choices ws other)

-- an answer's number and values: the plates needed, the bound and the order's worth
abbrev pub plates_outcome : Answer PlatesReport → Outcome
plates_outcome r = outcome_of plates_values r

-- those that the call answers
abbrev pub plates_said : List ℕ → Choices → List ℕ → ℕ → Memory → Outcome
plates_said s choices ws other m = outcome_by (bound_verdict s choices ws m) (plates_values (block_plates s choices ws other))

-- what n plates needed are, where b bounds one of them and the order is worth c: b holds, c is demand times price, n is the least number
-- with n times b at least what is left of c, and no fewer hold the order
pub record PlatesHold (J : Job) (weight : ℕ → ℕ) (other q n b c : ℕ) : Type 0 where
  pub bound_holds : BoundHolds J weight q b
  pub worth_is : c ≡ order_worth J
  pub fewest : Fewest b (left_beside J other) n
  pub no_fewer : NoFewer J n other

-- what the call promises: answer, number and values are the definition's, the memory is the bound call's, and an answered number of plates
-- holds; so it does where job and weights are accepted, whatever storage is lent. Of plates of several types, those that cost less in all
-- than the order is worth do not hold it, where each type costs no less than its plate can earn
pub record NeededPromises (s : List ℕ) (choices : Choices) (ws : List ℕ) (other : ℕ) (old new : Memory) (r : Answer PlatesReport) : Type 0 where
  pub answers : r ≡ plates_answer s choices ws other old
  pub outcome : plates_outcome r ≡ plates_said s choices ws other old
  pub memory : BoundLeaves s choices ws old new
  pub holds : (b : PlatesReport) → r ≡ Ok b → PlatesHold (block_job s choices) (weight_in ws) other (block_capacity s choices ws) b.plates b.bound b.worth
  pub accepted : Accepted s choices ws
      → PlatesHold (block_job s choices) (weight_in ws) other (block_capacity s choices ws) (plates_needed (block_job s choices) (bound_of (block_job s choices) (weight_in ws)) other) (bound_of (block_job s choices) (weight_in ws)) (order_worth (block_job s choices))
  pub types : CheaperNotHeld (block_job s choices)
