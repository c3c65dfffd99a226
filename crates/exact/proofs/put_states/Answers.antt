-- `exact::put_states` meets its contract. The loop's invariant: the pieces passed have their states.
use Rattle.exact.proofs.Prelude.{◌≡◌, subst, arith, stride, Stated}
use Rattle.exact.proofs.Pieces.{stated_more}
use Rattle.exact.proofs.put_states.Goals as goal

pub loop-i-preserved : goal.loop-i-preserved
loop-i-preserved c = let i = c.loop-i.i in
    let so = c.loop-i.invariant.1 in
    (omega arith, stated_more (stride c.args.blocks.now) c.args.pieces.now i c.one_copy.result so (omega (arith, so.entries, c.requires.entries, c.requires.few)) c.one_copy.ensures)

pub returns : goal.returns
returns c = let e = c.args in
    let k : c.loop-i.i ≡ e.count = omega (arith, c.loop-i.invariant.0) in
    subst (λ n. Stated n (stride e.blocks.now) e.pieces.now c.loop-i.pieces) k c.loop-i.invariant.1
