use Rattle.weight_steps.proofs.Prelude.{◌≡◌, ◌*◌, ◌≤◌, get_or, sum, distance}
use Rattle.weight_steps.proofs.sum_squares.Given as goal

abbrev pub invariant-loop-i : goal.invariant-loop-i
invariant-loop-i l = (l.i ≤ l.n) × (l.squares ≡ sum l.i (λ k. distance (get_or l.copies k 0) (get_or l.demands k 0) * distance (get_or l.copies k 0) (get_or l.demands k 0))) × (l.squares ≤ 4294836225 * l.i)
