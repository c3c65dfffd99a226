use Rattle.weight_steps.proofs.Prelude.{◌*◌, ◌≤◌}
use Rattle.weight_steps.proofs.root.Given as goal

abbrev pub invariant-loop-x : goal.invariant-loop-x
invariant-loop-x l = (l.x ≤ 255) × (l.x * l.x * l.q ≤ l.p)
