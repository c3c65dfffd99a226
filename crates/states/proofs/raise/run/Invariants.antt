-- The loop's invariant: the words before j are raised, the others as they were.
use Rattle.states.proofs.Prelude.{◌≡◌, ◌≤◌, leb, length}
use Rattle.states.proofs.Lifting.{Partly}
use Rattle.states.proofs.raise.run.Given as goal

abbrev pub invariant-loop-j : goal.invariant-loop-j
invariant-loop-j l = (l.t ≤ l.j) × (length l.table ≡ length l.initial.table) × Partly leb l.at l.m l.t l.v l.j l.initial.table l.table
