-- The loop's invariant: the digits above e are passed, and what is left of t and s compares as t and s do.
use Rattle.states.proofs.Prelude.{◌≡◌, ◌≤◌, under}
use Rattle.states.proofs.raise.below.Given as goal

abbrev pub invariant-loop-e : goal.invariant-loop-e
invariant-loop-e l = (l.e ≤ l.d) × (under l.blocks l.d l.t l.s ≡ under l.blocks l.e l.low l.high)
