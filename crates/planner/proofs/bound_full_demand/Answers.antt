-- `planner::bound_full_demand` meets its contract: what the inner call promises gives the instance.
use Rattle.planner.proofs.Prelude.{with_full_demand, lent}
use Rattle.planner.proofs.Bounds.{bound_new}
use Rattle.planner.proofs.bound_full_demand.Goals as goal

pub returns : goal.returns
returns c = let a = c.args in bound_new a.block.now (with_full_demand a.choices) a.weights.now (lent a.lengths.now a.widths.now a.table.now) _ _ c.bound_full_demand.ensures
