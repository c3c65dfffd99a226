-- `planner::neat_plan` meets its contract: what the inner call promises gives the instance.
use Rattle.planner.proofs.Judged.{neat_new}
use Rattle.planner.proofs.neat_plan.Goals as goal

pub returns : goal.returns
returns c = let a = c.args in neat_new a.block.now a.choices a.kinds.now a.operands.now (a.neat_kinds.now, a.neat_operands.now) _ _ c.neat_plan.ensures
