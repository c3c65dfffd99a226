-- `writer::nodes::settle` meets its contract. The measure is the half perimeter of the cell.
use Rattle.writer.proofs.Prelude.{sym, ◌∙◌, arith, under}
use Rattle.writer.proofs.Plan.{goes_on}
use Rattle.writer.proofs.nodes.settle.Goals as goal

pub choose-chosen-requires-in-loop-sawing : goal.choose-chosen-requires-in-loop-sawing
choose-chosen-requires-in-loop-sawing c = let e = c.args in let turn = c.loop-sawing in
    let on = goes_on (under e.blocks.now e.sawing.d) e.sawing.kerf e.sawing.size e.pieces.now (c.requires.0.0.tabled.in_range, c.requires.0.0.tabled.order) turn.at turn.invariant.2 turn.invariant.1 c.requires.0.1 (sym c.left_out.ensures ∙ c.loop-sawing-test.true) c.first_cell-at.ensures in
    (c.requires.0.0, on.1)

pub loop-sawing-smaller : goal.loop-sawing-smaller
loop-sawing-smaller c = let e = c.args in let turn = c.loop-sawing in
    let on = goes_on (under e.blocks.now e.sawing.d) e.sawing.kerf e.sawing.size e.pieces.now (c.requires.0.0.tabled.in_range, c.requires.0.0.tabled.order) turn.at turn.invariant.2 turn.invariant.1 c.requires.0.1 (sym c.left_out.ensures ∙ c.loop-sawing-test.true) c.first_cell-at.ensures in
    on.2

pub loop-sawing-preserved : goal.loop-sawing-preserved
loop-sawing-preserved c = let e = c.args in let turn = c.loop-sawing in
    let on = goes_on (under e.blocks.now e.sawing.d) e.sawing.kerf e.sawing.size e.pieces.now (c.requires.0.0.tabled.in_range, c.requires.0.0.tabled.order) turn.at turn.invariant.2 turn.invariant.1 c.requires.0.1 (sym c.left_out.ensures ∙ c.loop-sawing-test.true) c.first_cell-at.ensures in
    (turn.invariant.0 ∙ on.0, c.choose-chosen-in-loop-sawing.ensures, on.1, omega (arith, on.2, turn.invariant.3))
