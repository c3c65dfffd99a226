-- What the call promises, from the verdict of job and weights, the bound of an accepted job, and the theory of whole orders.
use mathlib.Core.Path.{◌≡◌, refl, sym, ◌∙◌, ap, subst}
use mathlib.Core.List.{List}
use Prim.Native.Nat.{ℕ, ◌≤◌}
use native.Mathlib.Omega.{arith}
use lib.ListN.{length}
use Rattle.cutting.specs.Limits.{most_kinds, most_figure}
use Rattle.cutting.specs.Job.{Job, InRange, widened, capacity, bound_of}
use Rattle.cutting.proofs.Members.{range_solid}
use Rattle.cutting.proofs.Bound.{bound_ceiling}
use Rattle.refusal.specs.Refusals.{first_refusal}
use Rattle.promises.specs.declared.Refusal.{Refusal}
use Rattle.promises.specs.declared.Choices.{Choices}
use Rattle.promises.specs.declared.JobRecord.{JobRecord}
use Rattle.job.specs.Block.{record_of, job_of}
use Rattle.job.specs.Weights.{block_job, weight_in, acceptance_of}
use Rattle.job.specs.declared.Acceptance.{Acceptance}
use Rattle.job.proofs.Checks.{passed_both}
use Rattle.job.proofs.Entries.{entries_length}
use Rattle.job.proofs.Weights.{accepted_in_range}
use Rattle.job.proofs.Taken.{Taken, refused_both}
use Rattle.orders.specs.Orders.{order_worth, left_beside, plates_needed}
use Rattle.orders.proofs.Orders.{costs_not_held}
use Rattle.orders.proofs.Needed.{fewest, no_fewer}
use Rattle.bound.specs.Bound.{Memory, memory_checks, accept_verdict, bound_verdict, block_capacity, bound_report, BoundLeaves}
use Rattle.bound.specs.Clauses.{RecordBounded}
use Rattle.promises.specs.declared.BoundReport.{BoundReport}
use Rattle.bound.proofs.Calls.{record_ready}
use Rattle.bound.proofs.Holds.{bound_held}
use Rattle.refusal.proofs.Results.{before_refuses, before_passes, refused_answer, said_by, value_answered}
use Rattle.std.specs.Result.{IsErrAnd}
use Rattle.plates_needed.specs.Plates.{block_plates, plates_answer, plates_values, plates_outcome, PlatesHold, NeededPromises}
use Rattle.plates_needed.specs.Clauses.{Countable, Counted}
use Rattle.promises.specs.declared.PlatesReport.{PlatesReport}
use Rattle.std.proofs.Common.{Ok, Err}
use Rattle.promises.specs.Refusals.{passed, Answer, answer_by}

-- the plates needed of a job in range, at its own bound
plates_held : (J : Job) (weight : ℕ → ℕ) (other : ℕ) → InRange J → PlatesHold J weight other (capacity J weight) (plates_needed J (bound_of J weight) other) (bound_of J weight) (order_worth J)
plates_held J weight other h =
    let b = bound_held J weight h in
    record {
      bound_holds = b;
      worth_is = refl;
      fewest = fewest (bound_of J weight) (left_beside J other);
      no_fewer = no_fewer J (range_solid J h) (bound_of J weight) other (b.demands, b.finer);
    }

-- the bound of a record is at most the ceiling
pub bound_low : (J : Job) (q : ℕ) (ws : List ℕ) → Countable J q ws → (bound_report (widened J) (weight_in ws) q).bound ≤ most_figure
bound_low J q ws h = rw h.capacity_is (bound_ceiling J (weight_in ws) h.ready.in_range)

-- the answer of the record, from its bound
module _ (J : Job) (weight : ℕ → ℕ) (other q : ℕ) {old new : Memory} {a : Answer BoundReport} (b : RecordBounded (widened J) weight q old new a) where
  -- a report is the definition's
  pub behind : {x : BoundReport} → a ≡ Ok x → (first_refusal (memory_checks (widened J) q old) ≡ passed) × (x ≡ bound_report (widened J) weight q)
  behind e = value_answered _ _ (sym b.1.answer ∙ e)

-- an answered bound is at most the ceiling
pub answered_low : (J : Job) (other q : ℕ) (ws : List ℕ) {old new : Memory} {a : Answer BoundReport} {x : BoundReport} → Countable J q ws → RecordBounded (widened J) (weight_in ws) q old new a → a ≡ Ok x → x.bound ≤ most_figure
answered_low J other q ws h b e = omega (arith, bound_low J q ws h, ap (λ x. x.bound) (behind J (weight_in ws) other q b e).1)

module _ (s : List ℕ) (choices : Choices) (ws : List ℕ) (other : ℕ) (old : Memory) where
  -- an answered number of plates holds
  answered_held : (b : PlatesReport) → plates_answer s choices ws other old ≡ Ok b
      → PlatesHold (block_job s choices) (weight_in ws) other (block_capacity s choices ws) b.plates b.bound b.worth
  answered_held b f =
      let w = value_answered _ _ f in
      let v = passed_both (accept_verdict s choices ws) (first_refusal (memory_checks (widened (block_job s choices)) (block_capacity s choices ws) old)) w.0 in
      rw w.1 (plates_held (block_job s choices) (weight_in ws) other (accepted_in_range s choices ws v.0))

  -- the answer and the memory give the rest
  promised : {new : Memory} (r : Answer PlatesReport) → r ≡ plates_answer s choices ws other old → BoundLeaves s choices ws old new → NeededPromises s choices ws other old new r
  promised r e l = record {
    answers = e;
    outcome = ap (λ x. plates_outcome x) e ∙ said_by plates_values (bound_verdict s choices ws old) (block_plates s choices ws other);
    memory = l;
    holds = λ b f. answered_held b (sym e ∙ f);
    accepted = λ a. plates_held (block_job s choices) (weight_in ws) other (accepted_in_range s choices ws a);
    types = costs_not_held (block_job s choices);
  }

  -- the job or its weights are refused
  pub early : {a : Answer Acceptance} {x : Refusal} {r : Answer PlatesReport} → a ≡ acceptance_of s choices ws → a ≡ Err x → IsErrAnd r (λ y. y ≡ x) → NeededPromises s choices ws other old old r
  early {r = r} e f p =
      let v = refused_both s choices ws e f in
      promised r (refused_answer _ _ _ (before_refuses _ _ v) p) (rw v (record { lengths = refl; widths = refl; table = refl }))

  module _ {j : JobRecord} {q : ℕ} (t : Taken s choices ws j q) where
    -- what the plates of the record ask
    pub countable : Countable (job_of j) q ws
    countable = record { ready = record_ready s choices ws t; capacity_is = t.capacity_is ∙ sym (ap (λ j. capacity (job_of j) (weight_in ws)) t.record_is) }

    pub prices_there : length j.prices ≡ most_kinds
    unfolding record_of
    prices_there = ap (λ j. length j.prices) t.record_is ∙ entries_length _ _

    -- both are accepted
    pub accepted : {new : Memory} (r : Answer PlatesReport) → Counted (job_of j) (weight_in ws) other q old new r → NeededPromises s choices ws other old new r
    accepted {new} r b =
        let c : Counted (job_of j) (weight_in ws) other (block_capacity s choices ws) old new r = subst (λ q. Counted (job_of j) (weight_in ws) other q old new r) t.capacity_is b in
        let d : Counted (block_job s choices) (weight_in ws) other (block_capacity s choices ws) old new r = subst (λ j. Counted (job_of j) (weight_in ws) other (block_capacity s choices ws) old new r) t.record_is c in
        promised r (d.answer ∙ sym (ap (λ v. answer_by v (block_plates s choices ws other)) (before_passes _ _ t.accepted))) (rw t.accepted d.memory)
