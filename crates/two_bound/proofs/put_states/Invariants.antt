use Rattle.two_bound.proofs.Prelude.{◌-◌, ◌≤◌, weight_in, Stated}
use Rattle.two_bound.proofs.put_states.Given as goal

abbrev pub invariant-loop-i : goal.invariant-loop-i
invariant-loop-i l = (l.i ≤ l.count) × Stated l.i (weight_in l.first) (weight_in l.second) l.most.first l.most.second l.initial.pieces l.pieces

abbrev pub decreases-loop-i : goal.decreases-loop-i
decreases-loop-i l = l.count - l.i
