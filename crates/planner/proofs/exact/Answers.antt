-- `planner::exact` meets its contract: what the inner call promises gives the instance.
use Rattle.planner.proofs.Prelude.{lent}
use Rattle.planner.proofs.Written.{exact_new}
use Rattle.planner.proofs.exact.Goals as goal

pub returns : goal.returns
returns c = let a = c.args in exact_new a.block.now a.choices (lent a.lengths.now a.widths.now a.table.now) (a.kinds.now, a.operands.now) _ _ _ c.exact.ensures
