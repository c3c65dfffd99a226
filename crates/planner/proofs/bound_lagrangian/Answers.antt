-- `planner::bound_lagrangian` meets its contract: what the inner call promises gives the instance.
use Rattle.planner.proofs.Prelude.{lent}
use Rattle.planner.proofs.Ordered.{lagrangian_new}
use Rattle.planner.proofs.bound_lagrangian.Goals as goal

pub returns : goal.returns
returns c = let a = c.args in lagrangian_new a.block.now a.choices a.weights.now a.multipliers.now (lent a.lengths.now a.widths.now a.table.now) _ _ c.bound_lagrangian.ensures
