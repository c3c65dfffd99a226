-- `stage_fill::blocks::fill_block` meets its contract.
use Rattle.stage_fill.proofs.Prelude.{arith}
use Rattle.stage_fill.proofs.Numbers.{few_cells}
use Rattle.stage_fill.proofs.Filling.{block_begins, block_more, block_ends}
use Rattle.stage_fill.proofs.blocks.fill_block.Goals as goal

pub overflow_mul-cells : goal.overflow_mul-cells
overflow_mul-cells c = let p = c.requires in omega (arith, few_cells p.0.lent p.0.counted)

pub loop-i-init : goal.loop-i-init
loop-i-init c = block_begins c.requires.1

pub loop-i-preserved : goal.loop-i-preserved
loop-i-preserved c = block_more c.loop-i.invariant c.loop-i-test.true c.fill_cell-high.auto.table c.fill_cell-high.ensures

pub returns : goal.returns
returns c = block_ends c.loop-i.invariant (omega (arith, c.loop-i-test.false))
