-- `planner::true_plan` meets its contract: what the inner call promises gives the instance.
use Rattle.planner.proofs.Models.{true_new}
use Rattle.planner.proofs.true_plan.Goals as goal

pub returns : goal.returns
returns c = let a = c.args in true_new a.block.now a.choices a.sizes.now (a.kinds.now, a.operands.now) (a.true_kinds.now, a.positions.now) _ _ c.true_plan.ensures
