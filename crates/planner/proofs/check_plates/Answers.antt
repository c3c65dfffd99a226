-- `planner::check_plates` meets its contract: what the inner call promises gives the instance.
use Rattle.planner.proofs.Racks.{plates_new}
use Rattle.planner.proofs.check_plates.Goals as goal

pub returns : goal.returns
returns c = let a = c.args in plates_new a.block.now a.choices (record { lengths = a.lengths.now; widths = a.widths.now; kinds = a.kinds.now; operands = a.operands.now }) _ c.check_plates.ensures
