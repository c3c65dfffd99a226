-- `planner::certify_full_demand` meets its contract: what the inner call promises gives the instance.
use Rattle.planner.proofs.Prelude.{with_full_demand, lent}
use Rattle.planner.proofs.Judged.{certify_new}
use Rattle.planner.proofs.certify_full_demand.Goals as goal

pub returns : goal.returns
returns c = let a = c.args in certify_new a.block.now (with_full_demand a.choices) a.weights.now (a.kinds.now, a.operands.now) (lent a.lengths.now a.widths.now a.table.now) _ _ c.certify_full_demand.ensures
