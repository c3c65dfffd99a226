use Rattle.row_fill.proofs.Prelude.{◌≡◌, ◌≤◌, length, Raised, Pieces}
use Rattle.row_fill.proofs.place_pieces.Given as goal

abbrev pub invariant-loop-i : goal.invariant-loop-i
invariant-loop-i l = (l.i ≤ l.row.count) × (length l.unit ≡ length l.initial.unit) × Raised (Pieces l.row.length l.row.width l.pieces l.i) l.initial.unit l.unit
