use Rattle.weight_steps.proofs.Prelude.{◌≡◌, ◌*◌, ◌≤◌, ltb, get_or, entries, distance, root_below, stepped}
use Rattle.weight_steps.proofs.adjust_all.Given as goal

abbrev pub invariant-loop-i : goal.invariant-loop-i
invariant-loop-i l = (l.i ≤ l.n) × (l.adjusted ≡ entries (λ k. stepped (ltb (get_or l.demands k 0) (get_or l.copies k 0)) (get_or l.weights k 0) (root_below 255 (distance (get_or l.copies k 0) (get_or l.demands k 0) * l.top) l.q)) l.i)
