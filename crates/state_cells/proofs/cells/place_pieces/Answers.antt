-- `state_cells::cells::place_pieces` meets its contract.
use Rattle.state_cells.proofs.Prelude.{arith, ◌≡◌, refl, ◌∙◌, listed_weight, job_in, order_of, topped_then}
use Rattle.state_cells.proofs.Placing.{placed_other, placed_more}
use Rattle.state_cells.proofs.cells.place_pieces.Goals.{then-pieces-piece+then-pieces-piece-2, else-pieces-piece, else-pieces-piece-via-then-pieces-piece+else-pieces-piece-2, else-pieces-piece-via-else-pieces-piece}
use Rattle.state_cells.proofs.cells.place_pieces.Goals as goal

pub loop-i-preserved : goal.loop-i-preserved
loop-i-preserved c =
    let inv = c.loop-i.invariant in
    let job = job_in c.args.shape c.args.pieces.now in
    let own = listed_weight c.args.pieces.now in
    elim c.if-pieces-piece.branch [
      | then-pieces-piece+then-pieces-piece-2 w ↦ rw (w.table-is, w.high-is) (omega arith, refl, w.place_piece-high.auto.table ∙ inv.2, placed_more _ _ _ job own _ _ c.loop-i.i _ _ _ _ _ (order_of _ _ _ c.requires.0.digits).same w.if-pieces-piece.true w.if-pieces-piece-2.true refl refl inv.3 w.place_piece-high.ensures.0, topped_then _ _ _ _ _ _ _ _ inv.4 w.place_piece-high.ensures.1)
      | else-pieces-piece w ↦ rw (w.table-is, w.high-is) (
        omega arith,
        refl,
        inv.2,
        placed_other _ _ _ job own _ _ c.loop-i.i _ _
            (λ e f. elim w.else-pieces-piece.branch [
              | else-pieces-piece-via-then-pieces-piece+else-pieces-piece-2 u ↦ u.if-pieces-piece-2.false f
              | else-pieces-piece-via-else-pieces-piece u ↦ u.if-pieces-piece.false e
            ]) inv.3,
        inv.4,
      )
    ]

pub returns : goal.returns
returns c = let e : c.loop-i.i ≡ c.args.shape.count = omega arith in (rw e at c.loop-i.invariant.3, c.loop-i.invariant.4)
