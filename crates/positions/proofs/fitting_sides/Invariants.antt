use Rattle.positions.proofs.Prelude.{◌≤◌, Holds, fitting}
use Rattle.positions.proofs.fitting_sides.Given as goal

abbrev pub invariant-loop-i : goal.invariant-loop-i
invariant-loop-i l = (l.i ≤ l.count) × (l.n ≤ l.i) × Holds (fitting l.pieces l.field l.i l.side l.other) l.n l.initial.fit l.fit
