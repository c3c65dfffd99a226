-- `printer::print_answer` meets its contract: the arrays hold the nodes that were written.
use Rattle.printer.proofs.Prelude.{arith}
use Rattle.printer.proofs.print_answer.Goals as goal

pub slice_bounds-kinds-end : goal.slice_bounds-kinds-end
slice_bounds-kinds-end g c = let n = (c.judge_plan-answer.ensures.written _ c.in-Ok.is).1.nodes in omega (arith, n.0, n.1)

pub slice_bounds-operands-end : goal.slice_bounds-operands-end
slice_bounds-operands-end g c = let n = (c.judge_plan-answer.ensures.written _ c.in-Ok.is).1.nodes in omega (arith, n.0, n.1)
