-- `saw::tree_end` meets its contract: the trees left to read end where the node's tree does.
use Rattle.saw.proofs.Prelude.{sym, ◌∙◌, ap, ◌+◌, arith, drop, left_after, extent}
use Rattle.saw.proofs.Parts.{extent_zero, extent_more, extent_none}
use Rattle.saw.proofs.tree_end.Goals as goal

pub returns-then-left-lt1 : goal.returns-then-left-lt1
returns-then-left-lt1 c = let l = c.loop-i in
    let z = extent_zero (drop l.i c.args.kinds.now) l.left c.if-left-lt1.true in
    (omega (arith, z, l.invariant.1), omega arith, omega arith)

pub loop-i-preserved : goal.loop-i-preserved
loop-i-preserved c = let l = c.loop-i in
    let k = c.args.kinds.now in
    let e = extent_more k l.i l.left (omega arith) (omega arith) in
    let f = ap (λ n. l.i + 1 + extent (drop (l.i + 1) k) n) (c.left_after-left.ensures.0 ∙ ap (λ n. left_after n l.left) c.decode.ensures) in
    (omega arith, f ∙ sym e ∙ l.invariant.1)

pub returns : goal.returns
returns c = let l = c.loop-i in
    let z = extent_none c.args.kinds.now l.i l.left (omega arith) in
    (omega (arith, z, l.invariant.1), omega arith, omega arith)
