-- `rack::check_plans` meets its contract: before plate i the plates before gave the totals, the profits and the node where its plan begins.
use Rattle.rack.proofs.Prelude.{◌∙◌, refl, sym, ℕ, arith, length, length-replicate, job_of, plate_at, handed}
use Rattle.refusal.proofs.Results.{refused_answer, given_answer}
use Rattle.rack.proofs.Plans.{begins, ends, own_refused, total_refused, goes_on}
use Rattle.rack.proofs.check_plans.Goals as goal

pub loop-i-init : goal.loop-i-init
loop-i-init c = let a = c.args in (refl, (length-replicate {A = ℕ} 4096 0, length-replicate {A = ℕ} 4096 0), begins (job_of a.job) (plate_at a.lengths.now a.widths.now) (length a.lengths.now) a.kinds.now a.operands.now)

pub returns-in_err-tree : goal.returns-in_err-tree
returns-in_err-tree c = let l = c.loop-i in handed _ c.from_residual.ensures.1 ∙ sym (own_refused l.invariant.2 (omega (arith, c.loop-i-test.true, l.invariant.0)) c.check_own.ensures.0 c.in_err-tree.was)

pub returns-in_err-add_copies : goal.returns-in_err-add_copies
returns-in_err-add_copies c = let l = c.loop-i in
    handed _ c.from_residual-in_err-add_copies.ensures.1
    ∙ sym (total_refused l.invariant.2 (omega (arith, c.loop-i-test.true, l.invariant.0)) c.check_own.ensures.0 c.in_ok-tree.was c.add_copies.ensures.decided c.in_err-add_copies.was)

pub loop-i-preserved : goal.loop-i-preserved
loop-i-preserved c = let l = c.loop-i in (
  l.invariant.0,
  c.check_own.ensures.1,
  goes_on l.invariant.2 (omega (arith, c.loop-i-test.true, l.invariant.0)) c.check_own.ensures.0 c.in_ok-tree.was c.add_copies.ensures.decided c.requires.1.0 c.in_ok-add_copies.was (c.add_copies.ensures.added c.in_ok-add_copies.was),
)

pub returns-in_err-check_left : goal.returns-in_err-check_left
returns-in_err-check_left c = let l = c.loop-i in
    refused_answer _ _ _ (sym c.check_left.ensures ∙ c.in_err-check_left.was) c.from_residual-in_err-check_left.ensures.1 ∙ sym (ends l.invariant.2 (omega (arith, c.loop-i-test.false, l.invariant.0)))

pub returns : goal.returns
returns c = let l = c.loop-i in
    given_answer _ _ (sym c.check_left.ensures ∙ c.in_ok-check_left.was) refl ∙ sym (ends l.invariant.2 (omega (arith, c.loop-i-test.false, l.invariant.0)))
