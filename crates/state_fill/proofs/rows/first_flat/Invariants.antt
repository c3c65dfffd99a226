-- The loop's invariant: the state is past those of the pieces passed.
use Rattle.state_fill.proofs.Prelude.{◌≤◌, PastPieces}
use Rattle.state_fill.proofs.rows.first_flat.Given as goal

abbrev pub invariant-loop-i : goal.invariant-loop-i
invariant-loop-i l = (l.i ≤ l.count) × (l.flat ≤ l.words) × PastPieces l.pieces l.i l.words l.flat
