-- The loop's invariant: the rows before and the cells passed are made, and no word outside of the row has changed.
use Rattle.state_fill.proofs.Prelude.{◌≡◌, listed_weight, job_in}
use Rattle.state_fill.proofs.Filling.{InRow}
use Rattle.state_fill.proofs.rows.fill_row.Given as goal

abbrev pub invariant-loop-b : goal.invariant-loop-b
invariant-loop-b l = (l.b-end ≡ l.shape.columns)
    × InRow (job_in l.shape l.pieces) (listed_weight l.pieces) l.normal_lengths l.normal_widths l.blocks l.shape.d l.shape.words l.shape.columns l.shape.stride l.row.a l.row.at l.half_end l.column l.flat l.b l.initial.table l.table
