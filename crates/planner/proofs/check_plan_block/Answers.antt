-- `planner::check_plan_block` meets its contract: what the inner call promises gives the instance.
use Rattle.planner.proofs.Judged.{block_new}
use Rattle.planner.proofs.check_plan_block.Goals as goal

pub returns : goal.returns
returns c = let a = c.args in block_new a.block.now a.choices a.plan.now _ c.check_plan_block.ensures.answers
