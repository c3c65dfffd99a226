use Rattle.row_fill.proofs.Prelude.{listed_weight, size_job}
use Rattle.row_fill.proofs.Filling.{Filling}
use Rattle.row_fill.proofs.fill.Given as goal

abbrev pub invariant-loop-a : goal.invariant-loop-a
invariant-loop-a l = Filling (size_job l.size l.pieces) (listed_weight l.pieces) l.size.rows l.normal_lengths l.size.columns l.normal_widths l.a l.start l.half_end l.unit l.initial.table l.table
