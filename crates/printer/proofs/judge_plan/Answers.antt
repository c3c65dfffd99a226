-- `printer::judge_plan` meets its contract: the arrays hold the nodes that were written, and what is said follows from the writing call's
-- promises and from the check of the demands.
use Rattle.printer.proofs.Prelude.{sym, length-take-le}
use Rattle.printer.proofs.Judging.{nodes_there, says_plan}
use Rattle.printer.proofs.judge_plan.Goals as goal

pub slice_bounds-keeps_demands-end : goal.slice_bounds-keeps_demands-end
slice_bounds-keeps_demands-end c = (nodes_there _ _ _ _ _ _ c.write_plan.ensures c.in_ok-report.was).0

pub slice_bounds-keeps_demands-end-2 : goal.slice_bounds-keeps_demands-end-2
slice_bounds-keeps_demands-end-2 c = sym (length-take-le c.in_ok-report.report.nodes _ (nodes_there _ _ _ _ _ _ c.write_plan.ensures c.in_ok-report.was).0)

pub slice_bounds-keeps_demands-end-3 : goal.slice_bounds-keeps_demands-end-3
slice_bounds-keeps_demands-end-3 c = (nodes_there _ _ _ _ _ _ c.write_plan.ensures c.in_ok-report.was).1

pub slice_bounds-keeps_demands-end-4 : goal.slice_bounds-keeps_demands-end-4
slice_bounds-keeps_demands-end-4 c = sym (length-take-le c.in_ok-report.report.nodes _ (nodes_there _ _ _ _ _ _ c.write_plan.ensures c.in_ok-report.was).1)

pub returns : goal.returns
returns c = says_plan _ _ _ _ _ _ c.write_plan.ensures c.in_ok-report.was c.keeps_demands-best.ensures
