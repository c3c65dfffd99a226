-- `planner::saw_check` meets its contract: what the inner call promises gives the instance.
use Rattle.planner.proofs.Saws.{saw_new}
use Rattle.planner.proofs.saw_check.Goals as goal

pub returns : goal.returns
returns c = let a = c.args in let p = c.saw_check.ensures in saw_new a.block.now a.choices (a.kinds.now, a.operands.now) _ p.answers p.trees.never_six p.blind p.office
