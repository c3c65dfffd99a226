-- `planner::plates_needed` meets its contract: what the inner call promises gives the instance.
use Rattle.planner.proofs.Prelude.{lent}
use Rattle.planner.proofs.Ordered.{needed_new}
use Rattle.planner.proofs.plates_needed.Goals as goal

pub returns : goal.returns
returns c = let a = c.args in needed_new a.block.now a.choices a.weights.now a.other (lent a.lengths.now a.widths.now a.table.now) _ _ c.plates_needed.ensures
