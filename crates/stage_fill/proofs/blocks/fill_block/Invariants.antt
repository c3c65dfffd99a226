-- The loop's invariant: the cells passed are made.
use Rattle.stage_fill.proofs.Prelude.{listed_weight, job_in}
use Rattle.stage_fill.proofs.Filling.{InBlock}
use Rattle.stage_fill.proofs.blocks.fill_block.Given as goal

abbrev pub invariant-loop-i : goal.invariant-loop-i
invariant-loop-i l = InBlock (job_in l.shape l.pieces) (listed_weight l.pieces) l.normal_lengths l.normal_widths l.shape l.block l.i l.high l.initial.table l.table
