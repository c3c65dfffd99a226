use Rattle.row_fill.proofs.Prelude.{◌≡◌, ◌≤◌, max, length, Raised, Pushed}
use Rattle.row_fill.proofs.push.Given as goal

abbrev pub invariant-loop-j : goal.invariant-loop-j
invariant-loop-j l = (l.least ≤ l.j) × (l.j ≤ max l.least l.end) × (length l.unit ≡ length l.initial.unit) × Raised (Pushed l.initial.unit l.x l.least l.j l.v) l.initial.unit l.unit
