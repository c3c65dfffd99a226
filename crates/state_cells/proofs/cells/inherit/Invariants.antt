-- The loop's invariant: the first k entries of the list are inherited.
use Rattle.state_cells.proofs.Prelude.{◌≡◌, ◌≤◌, length, Topped}
use Rattle.state_cells.proofs.Listing.{Inherit}
use Rattle.state_cells.proofs.cells.inherit.Given as goal

abbrev pub invariant-loop-k : goal.invariant-loop-k
invariant-loop-k l = (l.k ≤ l.words) × (length l.table ≡ length l.initial.table) × Inherit l.first l.second l.at l.words l.k l.initial.table l.table × Topped l.at l.words l.top l.high l.initial.table l.table
