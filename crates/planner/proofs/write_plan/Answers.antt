-- `planner::write_plan` meets its contract: what the inner call promises gives the instance.
use Rattle.planner.proofs.Prelude.{lent}
use Rattle.planner.proofs.Written.{write_new}
use Rattle.planner.proofs.write_plan.Goals as goal

pub returns : goal.returns
returns c = let a = c.args in write_new a.block.now a.choices a.weights.now (lent a.lengths.now a.widths.now a.table.now) (a.kinds.now, a.operands.now) _ _ _ c.write_plan.ensures
