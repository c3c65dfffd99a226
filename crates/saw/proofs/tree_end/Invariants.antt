use Rattle.saw.proofs.Prelude.{◌≡◌, ◌+◌, ◌-◌, ◌≤◌, drop, extent, end_of}
use Rattle.saw.proofs.tree_end.Given as goal

abbrev pub invariant-loop-i : goal.invariant-loop-i
invariant-loop-i l = (l.left ≤ l.i - l.node + 1) × (l.i + extent (drop l.i l.kinds) l.left ≡ end_of l.kinds l.node)
