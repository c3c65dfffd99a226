-- The writing call: what it promises, from the verdict of job and weights and from the plan of an accepted job.
use Rattle.writer.proofs.Prelude.{◌≡◌, refl, sym, ◌∙◌, ap, subst, List, [], ℕ, ◌≤◌, arith, length, kinds_of, operands_of, node_count, range_solid, plan_bound, plan_idle, plan_follows, next, first_refusal, Refusal, widened, by_kind, plan_under, by_weight_monotone, Choices, JobRecord, job_of, block_job, weight_in, Accepted, acceptance_of, refused_both, Acceptance, passed_both, cons_passed, weights_passed, accepted_both, accepted_in_range, Taken, bound_held, range_taken, weights_there, WriteReport, nodes_check, write_report, write_values, write_outcome, nodes_verdict, block_plan, write_verdict, write_answer, PlanChosen, PlanWritten, BoundWritten, WritePromises, Weighed, room_verdict, Planned, Ok, Err, passed, Checked, Answer}
use Rattle.bound.specs.Bound as bound
use Rattle.writer.proofs.Write.{none_long, untouched}
use Rattle.std.specs.Result.{IsErrAnd}
use Rattle.refusal.proofs.Results.{said_by, value_answered, before_refuses}

-- what planning asks, from a job and a capacity that were taken from an accepted block
pub weighed : (s : List ℕ) (choices : Choices) (ws : List ℕ) {j : JobRecord} {q : ℕ} → Taken s choices ws j q → Weighed (job_of j) ws q
weighed s choices ws t =
    let k = weights_passed (block_job s choices) ws (accepted_both s choices ws t.accepted).1 in
    record { in_range = range_taken s choices ws t; weights = weights_there s choices ws t; most = omega (arith, k.1, t.capacity_is) }

-- the plan of an accepted job and weights
plan_chosen : (s : List ℕ) (choices : Choices) (ws : List ℕ) → PlanChosen s choices ws
plan_chosen s choices ws h =
    let J = block_job s choices in
    let r = accepted_in_range s choices ws h in
    (plan_follows J (weight_in ws) r, plan_bound J (weight_in ws) (range_solid J r), plan_idle J (by_kind (weight_in ws)) (by_weight_monotone _) (range_solid J r) _ _ _)

module _ (s : List ℕ) (choices : Choices) (ws : List ℕ) (old : bound.Memory) (kinds operands : List ℕ) where
  -- what the call's verdict makes of the answer and of the arrays gives the rest
  module _ {new_kinds new_operands : List ℕ} {r : Answer WriteReport} (p : Planned (write_verdict s choices ws old kinds operands) (bound.block_report s choices ws) (block_plan s choices ws) kinds operands new_kinds new_operands r) where
    module _ {b : WriteReport} (w : r ≡ Ok b) where
      reported : (write_verdict s choices ws old kinds operands ≡ passed) × (b ≡ write_report s choices ws)
      reported = value_answered _ _ (sym p.answer ∙ w)

      accepted_by : Accepted s choices ws
      accepted_by =
          let stored = passed_both (bound.bound_verdict s choices ws old) (nodes_verdict (block_plan s choices ws) kinds operands) reported.0 in
          (passed_both (bound.accept_verdict s choices ws) (first_refusal (bound.memory_checks (bound.wide_job s choices) (bound.block_capacity s choices ws) old)) stored.0).0

    plan_kept : PlanWritten s choices ws kinds operands new_kinds new_operands r
    plan_kept b w = record {
      earns = rw (reported w).1 (plan_chosen s choices ws (accepted_by w)).1;
      idle_free = (plan_chosen s choices ws (accepted_by w)).2;
      kinds_hold = p.kinds_left ∙ ap (λ u. bound.list_after u (kinds_of (block_plan s choices ws)) kinds) (reported w).0;
      operands_hold = p.operands_left ∙ ap (λ u. bound.list_after u (operands_of (block_plan s choices ws)) operands) (reported w).0;
      counted = ap (λ u. u.nodes) (reported w).1;
    }

    bound_kept : BoundWritten s choices ws r
    bound_kept b w = rw (reported w).1 (bound_held (block_job s choices) (weight_in ws) (accepted_in_range s choices ws (accepted_by w)))

    promised : {new : bound.Memory} → bound.BoundLeaves s choices ws old new → WritePromises s choices ws old new kinds operands new_kinds new_operands r
    promised left =
        record {
          answers = p.answer;
          outcome = ap write_outcome p.answer ∙ said_by write_values (write_verdict s choices ws old kinds operands) (write_report s choices ws);
          memory = left;
          kinds_left = p.kinds_left;
          operands_left = p.operands_left;
          choice = plan_chosen s choices ws;
          plan = plan_kept;
          bound = bound_kept;
        }

  -- what a verdict before the storage's checks leads to
  abbrev after : Checked → Checked
  after v = next (next v (first_refusal (bound.memory_checks (bound.wide_job s choices) (bound.block_capacity s choices ws) old))) (nodes_verdict (block_plan s choices ws) kinds operands)

  -- the job or its weights are refused: nothing is changed
  pub unaccepted : {a : Answer Acceptance} {x : Refusal} {r : Answer WriteReport} → a ≡ acceptance_of s choices ws → a ≡ Err x → IsErrAnd r (λ y. y ≡ x) → WritePromises s choices ws old old kinds operands kinds operands r
  unaccepted e f p =
      let v = refused_both s choices ws e f in
      promised (untouched _ _ kinds operands (before_refuses _ _ (before_refuses _ _ v)) p) (rw v (record { lengths = refl; widths = refl; table = refl }))

  -- both are accepted: what planning the job answers and leaves is what the call does
  pub accepted : {j : JobRecord} {q : ℕ} → Taken s choices ws j q → {new : bound.Memory} {new_kinds new_operands : List ℕ} {r : Answer WriteReport} → bound.Leaves passed (widened (job_of j)) (weight_in ws) q old new
      → Planned (room_verdict (widened (job_of j)) q old (plan_under (job_of j) (weight_in ws) q) kinds operands) (bound.bound_report (widened (job_of j)) (weight_in ws) q) (plan_under (job_of j) (weight_in ws) q) kinds operands new_kinds new_operands r
      → WritePromises s choices ws old new kinds operands new_kinds new_operands r
  accepted t {new} {new_kinds} {new_operands} {r} left p =
      let v = t.accepted in
      let plan : Planned (after passed) (bound.block_report s choices ws) (block_plan s choices ws) kinds operands new_kinds new_operands r = rw (t.record_is, t.capacity_is) at p in
      let memory : bound.Leaves passed (bound.wide_job s choices) (weight_in ws) (bound.block_capacity s choices ws) old new = rw (t.record_is, t.capacity_is) at left in
      promised (subst (λ v. Planned (after v) (bound.block_report s choices ws) (block_plan s choices ws) kinds operands new_kinds new_operands r) (sym v) plan) (rw v memory)

-- a plan that was written has at most 4,095 nodes, and each array holds them
pub written_fits : (s : List ℕ) (choices : Choices) (ws : List ℕ) (m : bound.Memory) (kinds operands : List ℕ) {r : Answer WriteReport} {report : WriteReport} → r ≡ write_answer s choices ws m kinds operands → r ≡ Ok report
    → (report.nodes ≤ 4095) × (report.nodes ≤ length kinds) × (report.nodes ≤ length operands)
written_fits s choices ws m kinds operands e f =
    let w = value_answered (write_verdict s choices ws m kinds operands) (write_report s choices ws) (sym e ∙ f) in
    let v = passed_both (bound.bound_verdict s choices ws m) (nodes_verdict (block_plan s choices ws) kinds operands) w.0 in
    let check = nodes_check (block_plan s choices ws) (length kinds) (length operands) in
    rw w.1 (none_long (node_count (block_plan s choices ws)) (length kinds) (length operands) (cons_passed check.0 check.1 [] v.1).0)

-- and its job and weights were accepted
pub written_accepted : (s : List ℕ) (choices : Choices) (ws : List ℕ) (m : bound.Memory) (kinds operands : List ℕ) {r : Answer WriteReport} {report : WriteReport} → r ≡ write_answer s choices ws m kinds operands → r ≡ Ok report → Accepted s choices ws
written_accepted s choices ws m kinds operands e f =
    let w = value_answered (write_verdict s choices ws m kinds operands) (write_report s choices ws) (sym e ∙ f) in
    let v = passed_both (bound.bound_verdict s choices ws m) (nodes_verdict (block_plan s choices ws) kinds operands) w.0 in
    (passed_both (bound.accept_verdict s choices ws) _ v.0).0
