-- `state_cells::cells::make_cell` meets its contract: it is made at the states in reach, and the rest of its words are written once.
use Rattle.state_cells.proofs.Prelude.{arith}
use Rattle.state_cells.proofs.Making.{room}
use Rattle.state_cells.proofs.Reaching.{reach_is, spot_whole, spot_part, spot_made}
use Rattle.state_cells.proofs.cells.make_cell.Goals as goal

pub make_states-requires : goal.make_states-requires
make_states-requires c = spot_whole c.requires

pub make_states-flat-requires : goal.make_states-flat-requires
make_states-flat-requires c = let reach = reach_is c.args.shape.words c.args.place.flat c.min-reach.ensures (omega arith) in
    rw reach.0 (spot_part c.requires reach.1)

pub overflow_add-at : goal.overflow_add-at
overflow_add-at c = omega (arith, room (spot_whole c.requires), c.make_states-flat.auto.table)

pub offset_bounds-table-at : goal.offset_bounds-table-at
offset_bounds-table-at c = omega (arith, room (spot_whole c.requires), c.make_states-flat.auto.table)

pub bounds-table-at : goal.bounds-table-at
bounds-table-at c = omega (arith, room (spot_whole c.requires), c.make_states-flat.auto.table)

pub overflow_add-at-2 : goal.overflow_add-at-2
overflow_add-at-2 c = omega (arith, room (spot_whole c.requires), c.make_states-flat.auto.table)

pub set_run-requires : goal.set_run-requires
set_run-requires c = omega (arith, room (spot_whole c.requires), c.make_states-flat.auto.table)

pub returns : goal.returns
returns c = let reach = reach_is c.args.shape.words c.args.place.flat c.min-reach.ensures (omega arith) in
    let made = c.make_states-flat.ensures in
    let last = c.figure-last.ensures in
    spot_made c.requires reach.1 reach.0 last.1 last.0 c.set_run.ensures made.0 made.1 made.2
