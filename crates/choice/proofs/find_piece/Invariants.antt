use Rattle.choice.proofs.Search.{left}
use Rattle.choice.proofs.Prelude.{piece_test, range, first, under, ◌-◌, ◌≡◌}
use Rattle.choice.proofs.find_piece.Given as goal

abbrev pub invariant-loop-j : goal.invariant-loop-j
invariant-loop-j l = (l.j-end ≡ l.count) × (first (piece_test (under l.blocks l.d) l.pieces l.cell l.value) (range 0 l.count) ≡ left (piece_test (under l.blocks l.d) l.pieces l.cell l.value) l.count l.j)

abbrev pub decreases-loop-j : goal.decreases-loop-j
decreases-loop-j l = l.j-end - l.j
