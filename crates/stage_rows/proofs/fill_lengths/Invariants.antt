use Rattle.stage_rows.proofs.Prelude.{LengthsLent}
use Rattle.stage_rows.proofs.Lengths.{Lengthening}
use Rattle.stage_rows.proofs.fill_lengths.Given as goal

abbrev pub invariant-loop-a : goal.invariant-loop-a
invariant-loop-a l = LengthsLent l.normal_lengths l.floors l.rows l.columns l.source l.at l.initial.table × Lengthening l.normal_lengths l.floors l.rows l.columns l.source l.at l.a l.half_end l.initial.table l.table
