-- The loop's invariant: the rows passed are made, and no word past the table has changed.
use Rattle.state_fill.proofs.Prelude.{◌≡◌, listed_weight, job_in}
use Rattle.state_fill.proofs.Filling.{InTable}
use Rattle.state_fill.proofs.rows.fill.Given as goal

abbrev pub invariant-loop-a : goal.invariant-loop-a
invariant-loop-a l = (l.a-end ≡ l.shape.length_count)
    × InTable (job_in l.shape l.pieces) (listed_weight l.pieces) l.normal_lengths l.normal_widths l.blocks l.shape.d l.shape.words l.shape.length_count l.shape.stride l.at l.half_end l.flat l.a l.initial.table l.table
