-- `state_cells::cells::make_states` meets its contract: the steps that make the cell, one after the other.
use Rattle.state_cells.proofs.Prelude.{arith, length-drop, ◌∙◌, outside_chain, growing_kept, second_floors, topped_then}
use Rattle.state_cells.proofs.Making.{room, row_fits, cell_fits, shorter_ready, narrower_ready, startable, sums_there, length_cuttable, inherited_rest, inherited_growing, width_cuts_are, width_cuttable, start_topped, levelled, made, made_rest}
use Rattle.state_cells.proofs.cells.make_states.Goals as goal

pub overflow_sub-shorter : goal.overflow_sub-shorter
overflow_sub-shorter c = row_fits c.requires

pub overflow_sub-narrower : goal.overflow_sub-narrower
overflow_sub-narrower c = omega (arith, row_fits c.requires, (cell_fits c.requires).0)

pub begin-requires : goal.begin-requires
begin-requires c = startable c.requires

pub inherit-top-requires : goal.inherit-top-requires
inherit-top-requires c = let spot = c.requires in
    let started = c.begin in
    (narrower_ready spot _ started.ensures.rest, (shorter_ready spot _ started.ensures.rest).before, omega (arith, room spot, started.auto.table))

pub inherit-top-requires-2 : goal.inherit-top-requires-2
inherit-top-requires-2 c = let spot = c.requires in
    let started = c.begin in
    let first = c.inherit-top in
    let rest = outside_chain _ _ _ _ _ started.ensures.rest first.ensures.0.rest in
    (shorter_ready spot _ rest, (narrower_ready spot _ rest).before, omega (arith, room spot, started.auto.table, first.auto.table))

pub place_pieces-top-requires : goal.place_pieces-top-requires
place_pieces-top-requires c = let spot = c.requires in
    let started = c.begin in
    let first = c.inherit-top in
    let second = c.inherit-top-2 in
    let growing = inherited_growing spot _ started.ensures _ _ first.ensures.0 second.ensures.0 (second.auto.table ∙ (first.auto.table ∙ started.auto.table)) in
    (growing, spot.range.kinds, sums_there spot _ (inherited_rest spot _ started.ensures _ _ first.ensures.0 second.ensures.0))

pub cut-top-requires : goal.cut-top-requires
cut-top-requires c = let spot = c.requires in
    let started = c.begin in
    let first = c.inherit-top in
    let second = c.inherit-top-2 in
    let kinds = c.place_pieces-top in
    let line = c.length_line-along.ensures in
    let growing = inherited_growing spot _ started.ensures _ _ first.ensures.0 second.ensures.0 (second.auto.table ∙ (first.auto.table ∙ started.auto.table)) in
    let rest = inherited_rest spot _ started.ensures _ _ first.ensures.0 second.ensures.0 in
    rw line (length_cuttable spot _ (outside_chain _ _ _ _ _ rest kinds.ensures.0.grown.rest) (growing_kept growing kinds.auto.table kinds.ensures.0.grown))

pub slice_bounds-rest-count : goal.slice_bounds-rest-count
slice_bounds-rest-count c = omega (arith, (width_cuts_are c.requires).mapped, length-drop 1021 c.args.floors.now)

pub slice_bounds-rest-start : goal.slice_bounds-rest-start
slice_bounds-rest-start c = omega (arith, (width_cuts_are c.requires).mapped, length-drop 1021 c.args.floors.now)

pub cut-top-requires-2 : goal.cut-top-requires-2
cut-top-requires-2 c = let spot = c.requires in
    let started = c.begin in
    let first = c.inherit-top in
    let second = c.inherit-top-2 in
    let kinds = c.place_pieces-top in
    let by_length = rw c.length_line-along.ensures at c.cut-top.ensures.0 in
    let line = c.width_line-across.ensures in
    let growing = inherited_growing spot _ started.ensures _ _ first.ensures.0 second.ensures.0 (second.auto.table ∙ (first.auto.table ∙ started.auto.table)) in
    let rest = inherited_rest spot _ started.ensures _ _ first.ensures.0 second.ensures.0 in
    rw (line, second_floors c.args.floors.now) (width_cuttable spot _ (outside_chain _ _ _ _ _ (outside_chain _ _ _ _ _ rest kinds.ensures.0.grown.rest) by_length.grown.rest) (growing_kept (growing_kept growing kinds.auto.table kinds.ensures.0.grown) c.cut-top.auto.table by_length.grown))

pub finish-requires : goal.finish-requires
finish-requires c = let spot = c.requires in
    let started = c.begin in
    let first = c.inherit-top in
    let second = c.inherit-top-2 in
    let kinds = c.place_pieces-top in
    let by_length = rw c.length_line-along.ensures at c.cut-top.ensures.1 in
    let by_width = rw c.width_line-across.ensures at c.cut-top-2.ensures.1 in
    (omega (arith, room spot, started.auto.table, first.auto.table, second.auto.table, kinds.auto.table, c.cut-top.auto.table, c.cut-top-2.auto.table), spot.digits.most, start_topped spot _ started.ensures _ _ (topped_then _ _ _ _ _ _ _ _ first.ensures.1 (topped_then _ _ _ _ _ _ _ _ second.ensures.1 (topped_then _ _ _ _ _ _ _ _ kinds.ensures.1 (topped_then _ _ _ _ _ _ _ _ by_length by_width)))), (startable spot).first_before, (startable spot).second_before)

pub returns : goal.returns
returns c = let spot = c.requires in
    let started = c.begin.ensures in
    let first = c.inherit-top.ensures.0 in
    let second = c.inherit-top-2.ensures.0 in
    let kinds = rw (c.from-l.ensures, c.from-w.ensures) at c.place_pieces-top.ensures.0 in
    let by_length = rw c.length_line-along.ensures at c.cut-top.ensures.0 in
    let by_width = rw (c.width_line-across.ensures, second_floors c.args.floors.now) at c.cut-top-2.ensures.0 in
    let done = c.finish.ensures in
    let length-top = rw c.length_line-along.ensures at c.cut-top.ensures.1 in
    let width-top = rw c.width_line-across.ensures at c.cut-top-2.ensures.1 in
    let flags = start_topped spot _ started _ _ (topped_then _ _ _ _ _ _ _ _ c.inherit-top.ensures.1 (topped_then _ _ _ _ _ _ _ _ c.inherit-top-2.ensures.1 (topped_then _ _ _ _ _ _ _ _ c.place_pieces-top.ensures.1 (topped_then _ _ _ _ _ _ _ _ length-top width-top)))) in
    (made spot _ started _ _ first second _ _ _ _ kinds by_length by_width done, made_rest spot _ started _ _ first second _ _ _ _ kinds by_length by_width done, levelled spot _ started _ _ first second _ _ _ _ kinds by_length by_width done flags c.flat_after.ensures)
