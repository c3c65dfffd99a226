-- The loop's invariant: the first k words are figures alone.
use Rattle.state_fill.proofs.Prelude.{◌≡◌, ◌≤◌, length, Run, held}
use Rattle.state_fill.proofs.rows.strip.Given as goal

abbrev pub invariant-loop-k : goal.invariant-loop-k
invariant-loop-k l = (l.k ≤ l.words) × (length l.table ≡ length l.initial.table) × Run (λ s. held l.initial.table l.x s) l.x l.k l.initial.table l.table
