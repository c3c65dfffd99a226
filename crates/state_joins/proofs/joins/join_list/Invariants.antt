-- The loop's invariant: the first k numbers of the list are taken.
use Rattle.state_joins.proofs.Prelude.{◌≡◌, length, under, Topped}
use Rattle.state_joins.proofs.Joining.{Number, With}
use Rattle.state_joins.proofs.joins.join_list.Given as goal

abbrev pub invariant-loop-state : goal.invariant-loop-state
invariant-loop-state l = (length l.table ≡ length l.initial.table) × With (under l.blocks l.cell.d) l.cell.at l.words (Number l.states) l.t l.v l.second l.state-index l.initial.table l.table × Topped l.cell.at l.words l.top l.high l.initial.table l.table
