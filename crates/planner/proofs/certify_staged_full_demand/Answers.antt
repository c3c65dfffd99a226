-- `planner::certify_staged_full_demand` meets its contract: what the inner call promises gives the instance.
use Rattle.planner.proofs.Prelude.{with_full_demand, lent}
use Rattle.planner.proofs.Back.{staged_certified}
use Rattle.planner.proofs.certify_staged_full_demand.Goals as goal

pub returns : goal.returns
returns c = let a = c.args in staged_certified a.block.now (with_full_demand a.choices) a.weights.now (a.kinds.now, a.operands.now) (lent a.lengths.now a.widths.now a.table.now) _ _ a.limit c.certify_staged_full_demand.ensures
