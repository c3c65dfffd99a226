-- `planner::check_model` meets its contract: what the inner call promises gives the instance.
use Rattle.planner.proofs.Models.{model_new}
use Rattle.planner.proofs.check_model.Goals as goal

pub returns : goal.returns
returns c = let a = c.args in model_new a.block.now a.choices a.sizes.now _ c.check_model.ensures
