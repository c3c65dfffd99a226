-- `planner::find_weights` meets its contract: what the inner call promises gives the instance.
use Rattle.planner.proofs.Prelude.{lent_all}
use Rattle.planner.proofs.Found.{find_new}
use Rattle.planner.proofs.find_weights.Goals as goal

pub returns : goal.returns
returns c = let a = c.args in find_new a.block.now a.choices (a.kinds.now, a.operands.now) (lent_all a.lengths.now a.widths.now a.table.now a.written_kinds.now a.written_operands.now) _ _ c.find_weights.ensures
