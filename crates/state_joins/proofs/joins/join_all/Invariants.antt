-- The loop's invariant: the first k entries of the first list are joined.
use Rattle.state_joins.proofs.Prelude.{◌≡◌, ◌≤◌, length, under, Topped, Listed}
use Rattle.state_joins.proofs.Joining.{At, Join}
use Rattle.state_joins.proofs.joins.join_all.Given as goal

abbrev pub invariant-loop-k : goal.invariant-loop-k
invariant-loop-k l = (l.k ≤ l.words) × (length l.table ≡ length l.initial.table) × Join (under l.blocks l.cell.d) l.cell.at l.words (At l.initial.table l.first) (Listed l.initial.table l.second l.words) l.first l.second l.k l.initial.table l.table × Topped l.cell.at l.words l.top l.high l.initial.table l.table
