-- `state_cells::cells::inherit` meets its contract.
use Rattle.state_cells.proofs.Prelude.{arith, length-set, entry_state, topped_then, topped_set}
use Rattle.state_cells.proofs.Listing.{inherit_passed, inherit_more}
use Rattle.state_cells.proofs.cells.inherit.Goals.{then-figure, else-figure}
use Rattle.state_cells.proofs.cells.inherit.Goals as goal

pub loop-k-preserved : goal.loop-k-preserved
loop-k-preserved c =
    let given = c.requires in
    let loop = c.loop-k in
    let state = entry_state given.0 loop.invariant.2.rest loop.k _ (omega arith) c.in-Some.ensures.0 in
    elim c.if-figure.branch [
      | then-figure w ↦ rw (w.table-is, w.high-is) (omega arith, simp length-set loop.invariant.1, inherit_more _ _ _ _ given.0.before given.1 _ _ _ _ _ (omega (arith, loop.invariant.1)) (omega arith) state c.in-Some.ensures.0 w.figure-then-figure.ensures.0 loop.invariant.2, topped_then _ _ _ _ _ _ _ _ loop.invariant.3 (topped_set _ _ _ _ _ _ _ w.max-high.ensures state))
      | else-figure w ↦ rw (w.table-is, w.high-is) (omega arith, loop.invariant.1, inherit_passed _ _ _ _ given.0.before given.1 _ c.in-Some.t _ _ (omega arith) state c.in-Some.ensures.0 (omega (arith, w.if-figure.false, c.figure.ensures.0, c.figure-in-loop-k.ensures.0)) loop.invariant.2, loop.invariant.3)
    ]
