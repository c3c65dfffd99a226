-- `planner::bound` meets its contract: what the inner call promises gives the instance.
use Rattle.planner.proofs.Prelude.{lent}
use Rattle.planner.proofs.Bounds.{bound_new}
use Rattle.planner.proofs.bound.Goals as goal

pub returns : goal.returns
returns c = let a = c.args in bound_new a.block.now a.choices a.weights.now (lent a.lengths.now a.widths.now a.table.now) _ _ c.bound.ensures
