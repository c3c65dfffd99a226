-- `chains::sweep_first` meets its contract: no entry below what the kind takes has a piece before it.
use Rattle.chains.proofs.Prelude.{◌≡◌, ℕ, ◌+◌, ◌-◌, arith}
use Rattle.chains.proofs.Table.{still_same}
use Rattle.chains.proofs.Sweeps.{first_value, swept_more, unmoved_more}
use Rattle.chains.proofs.sweep_first.Goals as goal

pub loop-s-preserved : goal.loop-s-preserved
loop-s-preserved c = let turn = c.loop-s in
    let s : ℕ = turn.s - 1 in
    let e : turn.s ≡ s + 1 = omega (arith, c.loop-s-test) in
    let v = c.min-least.result in
    let q = first_value _ _ _ _ turn.s s e turn.invariant.0 turn.invariant.2 (omega (arith, c.loop-s-test, turn.invariant.0, c.requires.1)) _ v turn.invariant.1 c.min-least.ensures in (
      omega (arith, turn.invariant.0),
      turn.invariant.1,
      swept_more _ _ _ _ turn.s s e turn.invariant.0 turn.invariant.2 v q c.requires.3,
      λ p. (let w = still_same turn.same v _ p in unmoved_more _ _ _ _ turn.s s e turn.invariant.0 turn.invariant.2 v q w.1 (turn.invariant.3 w.0)),
    )
