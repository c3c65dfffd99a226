-- `writer::plan_of_pieces` meets its contract.
use Rattle.writer.proofs.Prelude.{refl}
use Rattle.writer.proofs.Write.{plan_refused, plan_written}
use Rattle.writer.proofs.plan_of_pieces.Goals as goal

pub returns-in_err-refuse_if : goal.returns-in_err-refuse_if
returns-in_err-refuse_if c = let e = c.args in
    plan_refused e.sawing.report _ e.kinds.now e.operands.now c.list_nodes-count.ensures c.too_long.ensures c.refuse_if.ensures c.in_err-refuse_if.was c.from_residual.ensures.1

pub returns : goal.returns
returns c = let e = c.args in
    plan_written e.sawing.report _ e.kinds.now e.operands.now c.list_nodes-count.ensures c.too_long.ensures c.refuse_if.ensures c.in_ok-refuse_if.was refl refl
    c.with_nodes.ensures c.copy_from_slice.ensures.after c.copy_from_slice-2.ensures.after
