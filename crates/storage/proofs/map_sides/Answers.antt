-- `storage::map_sides` meets its contract.
use Rattle.storage.proofs.Prelude.{◌≡◌, sym, arith, length}
use Rattle.storage.proofs.Sides.{first_part, half_written, written, sides_mapped}
use Rattle.storage.proofs.map_sides.Goals as goal

pub slice_bounds-map_floors-end-2 : goal.slice_bounds-map_floors-end-2
slice_bounds-map_floors-end-2 c = sym (first_part c.args.floors.now c.requires.2)

pub map_floors-requires : goal.map_floors-requires
map_floors-requires c = let given = c.requires.0 in
    record { some = given.some; listed = given.listed; rising = given.rising; most = given.most; room_there = omega (arith, given.room_there, first_part c.args.floors.now c.requires.2) }

pub returns : goal.returns
returns c =
    let given = c.requires in
    let first = c.map_floors in
    let second = c.map_floors-2 in
    let whole = half_written c.args.floors.now first.new.floors in
    let kept : length (written whole second.new.floors) ≡ length whole = omega arith in
    sides_mapped c.args.floors.now first.new.floors given.2 first.ensures.0 c.args.size c.args.normal_lengths.now c.args.normal_widths.now
    second.new.floors second.ensures.0 kept given.0.room_there given.1.room_there first.ensures.1 second.ensures.1
