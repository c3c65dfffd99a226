use Rattle.state_cells.proofs.Prelude.{◌≡◌, ◌≤◌, max, length, Run, held}
use Rattle.state_cells.proofs.cells.start.Given as goal

abbrev pub invariant-loop-s : goal.invariant-loop-s
invariant-loop-s l = (l.s ≤ l.words) × (length l.table ≡ length l.initial.table) × Run (λ s. max (held l.initial.table l.first s) (held l.initial.table l.second s)) l.at l.s l.initial.table l.table
