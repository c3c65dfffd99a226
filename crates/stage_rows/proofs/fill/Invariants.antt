use Rattle.stage_rows.proofs.Filling.{Staging}
use Rattle.stage_rows.proofs.fill.Given as goal

abbrev pub invariant-loop-below : goal.invariant-loop-below
invariant-loop-below l = Staging l.size l.limit l.pieces l.normal_lengths l.normal_widths l.below l.initial.table l.table
