use Rattle.row_fill.proofs.Prelude.{◌≡◌, ◌+◌, ◌*◌, ◌≤◌, length, get_or, Raised, LengthCuts}
use Rattle.row_fill.proofs.cut_lengths.Given as goal

abbrev pub invariant-loop-i : goal.invariant-loop-i
invariant-loop-i l = (1 ≤ l.i) × (l.i ≤ l.half_end) × (l.first ≡ l.base + l.i * l.columns) × (l.whole ≡ get_or l.normal_lengths l.a 0) × (length l.table ≡ length l.initial.table)
    × Raised (LengthCuts l.initial.table l.normal_lengths l.length_floors l.a l.i l.base l.start l.columns) l.initial.table l.table
