-- The loop's invariant: the flags of the first s words are the first k entries of the list.
use Rattle.state_cells.proofs.Prelude.{◌≡◌, ◌≤◌, length}
use Rattle.state_cells.proofs.Listing.{Listing}
use Rattle.state_cells.proofs.cells.finish.Given as goal

abbrev pub invariant-loop-s : goal.invariant-loop-s
invariant-loop-s l = (l.s ≤ l.top) × (length l.table ≡ length l.initial.table) × Listing l.d l.at l.shorter l.narrower l.words l.s l.k l.initial.table l.table
