-- `chains::pass_two` meets its contract.
use Rattle.chains.proofs.Prelude.{◌≡◌, refl, ℕ, ◌+◌, ◌-◌, arith}
use Rattle.chains.proofs.Table.{still_same, halfway_more, still_more, value}
use Rattle.chains.proofs.pass_two.Goals as goal

pub loop-s-preserved : goal.loop-s-preserved
loop-s-preserved c = let turn = c.loop-s in
    let s : ℕ = turn.s - 1 in
    let e : turn.s ≡ s + 1 = omega (arith, c.loop-s-test) in
    let v = c.min-least.result in
    let a = c.saturating_sub in
    let b = c.saturating_sub-in-loop-s in
    let half = turn.invariant.1 in
    let written = value _ _ _ _ _ turn.s s a.result b.result _ c.min.result v turn.table c.requires.first c.requires.second e half a.ensures b.ensures refl c.min.ensures c.min-least.ensures in
    let l = turn.invariant.0 in (
      omega (arith, l),
      halfway_more _ _ _ _ _ turn.s s turn.table v e (omega (arith, l, e)) written half,
      λ p. (let q = still_same turn.same v _ p in still_more _ _ _ _ _ turn.s s turn.table v e (omega (arith, l, e)) written q.1 half (turn.invariant.2 q.0)),
    )
