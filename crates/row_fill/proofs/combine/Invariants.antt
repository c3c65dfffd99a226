use Rattle.row_fill.proofs.Prelude.{◌≡◌, ◌≤◌, length, Raised, Sums}
use Rattle.row_fill.proofs.combine.Given as goal

abbrev pub invariant-loop-j : goal.invariant-loop-j
invariant-loop-j l = (l.j ≤ l.columns) × (length l.table ≡ length l.initial.table) × Raised (Sums l.initial.table l.target l.first l.second l.j) l.initial.table l.table
