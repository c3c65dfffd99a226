use Rattle.stage_rows.proofs.Prelude.{◌≡◌, ◌+◌, ◌≤◌, max, length, get_or, Run}
use Rattle.stage_rows.proofs.greater_row.Given as goal

abbrev pub invariant-loop-j : goal.invariant-loop-j
invariant-loop-j l = (l.j ≤ l.columns) × (length l.table ≡ length l.initial.table) × Run (λ j. max (get_or l.initial.table (l.first + j) 0) (get_or l.initial.table (l.second + j) 0)) l.target l.j l.initial.table l.table
