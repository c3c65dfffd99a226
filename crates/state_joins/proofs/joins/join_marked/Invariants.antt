-- The loop's invariant: of the first k entries of the first list, those to be read are joined with the gathered states.
use Rattle.state_joins.proofs.Prelude.{◌≡◌, ◌≤◌, length, under, Topped, Entry, Marked, Gathered}
use Rattle.state_joins.proofs.Joining.{Join}
use Rattle.state_joins.proofs.joins.join_marked.Given as goal

abbrev pub invariant-loop-k : goal.invariant-loop-k
invariant-loop-k l = (l.k ≤ l.words) × (length l.table ≡ length l.initial.table) × Join (under l.blocks l.cell.d) l.cell.at l.words (Entry l.skip l.initial.table l.first) (Marked l.skip l.initial.table l.second l.words) l.first l.second l.k l.initial.table l.table × Topped l.cell.at l.words l.top l.high l.initial.table l.table × Gathered l.skip l.second l.words (length l.states) l.initial.table l.states
