-- The loop's invariant: the cells passed hold their figures alone.
use Rattle.state_fill.proofs.Prelude.{◌≡◌, ◌≤◌, length, Plain}
use Rattle.state_fill.proofs.rows.strip_all.Given as goal

abbrev pub invariant-loop-i : goal.invariant-loop-i
invariant-loop-i l = (l.i ≤ l.s) × (length l.table ≡ length l.initial.table) × Plain l.i l.words l.initial.table l.table
