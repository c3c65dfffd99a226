-- `positions::normal_positions` meets its contract.
use Rattle.positions.proofs.Lists.{holds_take}
use Rattle.positions.proofs.Fitting.{fitting_listable}
use Rattle.positions.proofs.normal_positions.Goals as goal

pub list_sums-requires : goal.list_sums-requires
list_sums-requires c = rw (holds_take c.fitting_sides-n.ensures) (fitting_listable c.args.pieces.now c.args.field c.args.side c.args.other c.args.count _ c.requires.1)
