-- `planner::check_plan` meets its contract: what the inner call promises gives the instance.
use Rattle.planner.proofs.Judged.{check_new}
use Rattle.planner.proofs.check_plan.Goals as goal

pub returns : goal.returns
returns c = let a = c.args in check_new a.block.now a.choices a.kinds.now a.operands.now _ c.check_plan.ensures.answers
