-- `planner::find_weights_full_demand` meets its contract: what the inner call promises gives the instance.
use Rattle.planner.proofs.Prelude.{with_full_demand, lent_all}
use Rattle.planner.proofs.Found.{find_new}
use Rattle.planner.proofs.find_weights_full_demand.Goals as goal

pub returns : goal.returns
returns c = let a = c.args in find_new a.block.now (with_full_demand a.choices) (a.kinds.now, a.operands.now) (lent_all a.lengths.now a.widths.now a.table.now a.written_kinds.now a.written_operands.now) _ _ c.find_weights_full_demand.ensures
