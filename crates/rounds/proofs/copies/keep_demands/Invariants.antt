use Rattle.rounds.proofs.Prelude.{◌≡◌, false, ◌-◌, ◌≤◌, ltb, get_or, range, any}
use Rattle.rounds.proofs.copies.keep_demands.Given as goal

abbrev pub invariant-loop-i : goal.invariant-loop-i
invariant-loop-i l = (l.i ≤ l.n) × (any (λ k. ltb (get_or l.demands k 0) (get_or l.copies k 0)) (range 0 l.i) ≡ false)

abbrev pub decreases-loop-i : goal.decreases-loop-i
decreases-loop-i l = l.n - l.i
