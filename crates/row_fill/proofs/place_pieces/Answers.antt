-- `row_fill::place_pieces` meets its contract. The loop's invariant: the pieces passed are placed.
use Rattle.row_fill.proofs.Prelude.{arith, ◌≡◌, ◌∙◌}
use Rattle.row_fill.proofs.Raising.{pieces_next}
use Rattle.row_fill.proofs.place_pieces.Goals as goal

pub loop-i-preserved : goal.loop-i-preserved
loop-i-preserved c = let l = c.loop-i in
    let placed = c.place_piece in
    (omega arith, placed.auto.unit ∙ l.invariant.1, pieces_next l.invariant.2 (rw (c.from.ensures, c.from-in-loop-i.ensures, c.from-in-loop-i-2.ensures) at placed.ensures))

pub returns : goal.returns
returns c = let e : c.loop-i.i ≡ c.args.row.count = omega arith in rw e at c.loop-i.invariant.2
