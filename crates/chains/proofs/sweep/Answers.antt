-- `chains::sweep` meets its contract: from the entry that is next on all is new, and below it all is old.
use Rattle.chains.proofs.Prelude.{◌≡◌, refl, ℕ, ◌+◌, ◌-◌, arith}
use Rattle.chains.proofs.Table.{still_same}
use Rattle.chains.proofs.Sweeps.{value, swept_more, unmoved_more}
use Rattle.chains.proofs.sweep.Goals as goal

pub loop-s-preserved : goal.loop-s-preserved
loop-s-preserved c = let turn = c.loop-s in
    let s : ℕ = turn.s - 1 in
    let e : turn.s ≡ s + 1 = omega (arith, c.loop-s-test) in
    let v = c.min-least.result in
    let q = value _ _ _ _ turn.s s e turn.invariant.1 turn.invariant.2 c.requires.0.first (omega (arith, c.loop-s-test, c.requires.1)) _ v refl c.min-least.ensures in (
      omega (arith, c.loop-s-test),
      omega (arith, turn.invariant.1),
      swept_more _ _ _ _ turn.s s e turn.invariant.1 turn.invariant.2 v q c.requires.3,
      λ p. (let w = still_same turn.same v _ p in unmoved_more _ _ _ _ turn.s s e turn.invariant.1 turn.invariant.2 v q w.1 (turn.invariant.3 w.0)),
    )
