-- `planner::certify` meets its contract: what the inner call promises gives the instance.
use Rattle.planner.proofs.Prelude.{lent}
use Rattle.planner.proofs.Judged.{certify_new}
use Rattle.planner.proofs.certify.Goals as goal

pub returns : goal.returns
returns c = let a = c.args in certify_new a.block.now a.choices a.weights.now (a.kinds.now, a.operands.now) (lent a.lengths.now a.widths.now a.table.now) _ _ c.certify.ensures
