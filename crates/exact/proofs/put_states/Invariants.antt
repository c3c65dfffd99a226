use Rattle.exact.proofs.Prelude.{◌-◌, ◌≤◌, stride, Stated}
use Rattle.exact.proofs.put_states.Given as goal

abbrev pub invariant-loop-i : goal.invariant-loop-i
invariant-loop-i l = (l.i ≤ l.count) × Stated l.i (stride l.blocks) l.initial.pieces l.pieces

abbrev pub decreases-loop-i : goal.decreases-loop-i
decreases-loop-i l = l.count - l.i
