-- `chains::sweep_rest` meets its contract: from the next stretch on all is new.
use Rattle.chains.proofs.Prelude.{◌≤◌, arith, length}
use Rattle.chains.proofs.Table.{both_hold}
use Rattle.chains.proofs.Sweeps.{swept_on, unmoved_on, steps_on}
use Rattle.chains.proofs.sweep_rest.Goals as goal

pub sweep-same-requires : goal.sweep-same-requires
sweep-same-requires c = let turn = c.loop-hi in
    (steps_on _ _ _ c.requires.0 turn.invariant.2, c.stretch-lo.ensures.0, omega (arith, c.stretch-lo.ensures.1), omega (arith, turn.invariant.1, turn.invariant.2.long))

pub loop-hi-preserved : goal.loop-hi-preserved
loop-hi-preserved c = let turn = c.loop-hi in
    let at = c.stretch-lo in
    let swept = c.sweep-same.ensures in
    let n = length c.args.table.now in
    let l : at.result ≤ turn.hi = omega (arith, at.ensures.1) in (
      at.ensures.0,
      omega (arith, at.ensures.1, turn.invariant.1),
      swept_on _ _ _ at.result turn.hi n l turn.invariant.1 turn.invariant.2 swept.0,
      λ p. (let w = both_hold turn.same c.sweep-same.result p in unmoved_on _ _ _ at.result turn.hi n l turn.invariant.1 turn.invariant.2 swept.0 (turn.invariant.3 w.0) (swept.1 w.1)),
    )
