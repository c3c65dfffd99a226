-- The loop's invariant: the pieces below i are taken.
use Rattle.state_cells.proofs.Prelude.{◌≡◌, ◌≤◌, length, listed_weight, under, Topped, Placed, job_in}
use Rattle.state_cells.proofs.cells.place_pieces.Given as goal

abbrev pub invariant-loop-i : goal.invariant-loop-i
invariant-loop-i l = (l.i ≤ l.i-end) × (l.i-end ≡ l.shape.count) × (length l.table ≡ length l.initial.table) × Placed (under l.blocks l.shape.d) (job_in l.shape l.pieces) (listed_weight l.pieces) l.i l.l l.w l.at l.shape.words l.initial.table l.table × Topped l.at l.shape.words l.top l.high l.initial.table l.table
