-- The loop's invariant: the blocks before number n are made.
use Rattle.stage_fill.proofs.Prelude.{◌≡◌, ◌+◌, ◌*◌, ◌≤◌, length, listed_weight, job_in, BlockMade}
use Rattle.stage_fill.proofs.blocks.fill_blocks.Given as goal

abbrev pub invariant-loop-n : goal.invariant-loop-n
invariant-loop-n l = (l.n ≤ 2 * l.limit + 1) × (length l.table ≡ length l.initial.table) × BlockMade (job_in l.shape l.pieces) (listed_weight l.pieces) l.normal_lengths l.normal_widths l.shape (l.n * (l.shape.length_count * l.shape.columns)) l.flat l.initial.table l.table
