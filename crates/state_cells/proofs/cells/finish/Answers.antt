-- `state_cells::cells::finish` meets its contract.
use Rattle.state_cells.proofs.Prelude.{arith, ◌≡◌, length-set}
use Rattle.state_cells.proofs.Listing.{listing_passed, listing_left, listing_more, listing_end}
use Rattle.state_cells.proofs.cells.finish.Goals.{then-flagged+then-starts, then-flagged+else-starts, else-flagged}
use Rattle.state_cells.proofs.cells.finish.Goals as goal

pub loop-s-preserved : goal.loop-s-preserved
loop-s-preserved c =
    let inv = c.loop-s.invariant in
    let given = c.requires in
    elim c.if-flagged.branch [
      | then-flagged+then-starts w ↦ rw (w.table-is, w.k-is) (omega arith, simp length-set inv.1, listing_more _ _ _ _ _ _ _ _ _ _ _ _ given.3 given.4 (omega (arith, inv.1)) (omega arith) w.figure-v.ensures.0 w.figure.ensures.0 w.tell-told.ensures.0 w.tell-told.ensures.1 inv.2)
      | then-flagged+else-starts w ↦ rw (w.table-is, w.k-is) (omega arith, simp length-set inv.1, listing_left _ _ _ _ _ _ _ _ _ _ (omega (arith, inv.1)) (omega arith) w.figure-v.ensures.0 (w.starts.ensures w.if-starts.false) inv.2)
      | else-flagged w ↦ rw (w.table-is, w.k-is) (omega arith, inv.1, listing_passed _ _ _ _ _ _ _ _ _ (omega arith) (c.flagged.ensures.1 w.if-flagged.false) inv.2)
    ]

pub returns : goal.returns
returns c = let e : c.loop-s.s ≡ c.args.top = omega (arith, c.requires.2.most) in
    listing_end _ _ _ _ _ _ _ _ _ c.requires.2 (rw e at c.loop-s.invariant.2)
