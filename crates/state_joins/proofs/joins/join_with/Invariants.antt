-- The loop's invariant: the first k entries of the list are taken.
use Rattle.state_joins.proofs.Prelude.{◌≡◌, ◌≤◌, length, under, Topped}
use Rattle.state_joins.proofs.Joining.{At, With}
use Rattle.state_joins.proofs.joins.join_with.Given as goal

abbrev pub invariant-loop-k : goal.invariant-loop-k
invariant-loop-k l = (l.k ≤ l.words) × (length l.table ≡ length l.initial.table) × With (under l.blocks l.cell.d) l.cell.at l.words (At l.initial.table l.second) l.t l.v l.second l.k l.initial.table l.table × Topped l.cell.at l.words l.top l.high l.initial.table l.table
