-- `plan::walk_tree` meets its contract: before node k the walk stands where the rectangles that wait and the sums say.
use Rattle.plan.proofs.Prelude.{◌∙◌, refl, ap, arith, job_of, Ok}
use Rattle.plan.proofs.Walk.{by_rules, begins, filled_all, halts, opens, goes_on, ends}
use Rattle.plan.proofs.walk_tree.Goals as goal

pub loop-k-init : goal.loop-k-init
loop-k-init c = let a = c.args in (refl, begins (job_of a.job) a.kinds.now a.operands.now a.first a.waiting_lengths.now a.waiting_widths.now c.no_sums-t.result c.requires.2 c.requires.3 c.no_sums-t.ensures)

pub returns-then-n-lt1 : goal.returns-then-n-lt1
returns-then-n-lt1 c = (ap Ok c.end_tree.ensures ∙ filled_all c.loop-k.invariant.1 c.requires.0.0 (omega arith) c.if-n-lt1.true, c.loop-k.invariant.1.held)

pub returns-in_err-t : goal.returns-in_err-t
returns-in_err-t c = let a = c.args in (
  halts c.loop-k.invariant.1 c.requires.0.0 (omega (arith, c.loop-k-test.true, c.loop-k.invariant.0)) c.if-n-lt1.false c.next_room-room.ensures c.entry-e.ensures
      (by_rules a.job c.rules_of-rules.ensures (c.check_node.ensures a.job.length a.job.width a.job.full_demand)) c.in_err-t.was _ c.from_residual.ensures.1,
  c.loop-k.invariant.1.held,
)

pub leave_parts-n-requires : goal.leave_parts-n-requires
leave_parts-n-requires c = let a = c.args in
    opens c.loop-k.invariant.1 c.requires.0.0 (omega (arith, c.loop-k-test.true, c.loop-k.invariant.0)) c.if-n-lt1.false c.next_room-room.ensures c.entry-e.ensures
    (by_rules a.job c.rules_of-rules.ensures (c.check_node.ensures a.job.length a.job.width a.job.full_demand)) c.in_ok-t.was c.requires.0.1 c.decode-node.ensures

pub loop-k-preserved : goal.loop-k-preserved
loop-k-preserved c = let a = c.args in (
  c.loop-k.invariant.0,
  goes_on c.loop-k.invariant.1 c.requires.0.0 (omega (arith, c.loop-k-test.true, c.loop-k.invariant.0)) c.if-n-lt1.false c.next_room-room.ensures c.entry-e.ensures
      (by_rules a.job c.rules_of-rules.ensures (c.check_node.ensures a.job.length a.job.width a.job.full_demand)) c.in_ok-t.was c.decode-node.ensures _ _ _ c.leave_parts-n.ensures,
)

pub returns : goal.returns
returns c = (ends c.loop-k.invariant.1 c.requires.0.0 (omega (arith, c.loop-k-test.false, c.loop-k.invariant.0)) _ (c.finish.ensures (job_of c.args.job) _ _), c.loop-k.invariant.1.held)
