-- `planner::bound_staged_full_demand` meets its contract: what the inner call promises gives the instance.
use Rattle.planner.proofs.Prelude.{with_full_demand, lent}
use Rattle.planner.proofs.Bounds.{staged_new}
use Rattle.planner.proofs.bound_staged_full_demand.Goals as goal

pub returns : goal.returns
returns c = let a = c.args in staged_new a.block.now (with_full_demand a.choices) a.weights.now a.limit (lent a.lengths.now a.widths.now a.table.now) _ _ c.bound_staged_full_demand.ensures
