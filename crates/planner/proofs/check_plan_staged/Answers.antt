-- `planner::check_plan_staged` meets its contract: what the inner call promises gives the instance.
use Rattle.planner.proofs.Judged.{staged_check_new}
use Rattle.planner.proofs.check_plan_staged.Goals as goal

pub returns : goal.returns
returns c = let a = c.args in staged_check_new a.block.now a.choices a.limit a.kinds.now a.operands.now _ c.check_plan_staged.ensures.answers
