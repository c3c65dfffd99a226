-- The loop's invariant: the cuts before i are taken.
use Rattle.state_joins.proofs.Prelude.{◌≡◌, ◌≤◌, length, under, Topped, CutAt}
use Rattle.state_joins.proofs.cuts.cut.Given as goal

abbrev pub invariant-loop-i : goal.invariant-loop-i
invariant-loop-i l = (l.i-end ≡ l.line.half_end) × (1 ≤ l.i) × (l.i ≤ l.i-end) × (length l.table ≡ length l.initial.table) × CutAt (under l.blocks l.d) l.d l.line.skip l.positions l.floors l.line.index 1 l.i l.line.base l.line.stride l.line.at l.words l.initial.table l.table × Topped l.line.at l.words l.top l.high l.initial.table l.table
