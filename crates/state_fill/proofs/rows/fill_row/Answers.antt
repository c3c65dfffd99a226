-- `state_fill::rows::fill_row` meets its contract.
use Rattle.state_fill.proofs.Prelude.{arith, refl}
use Rattle.state_fill.proofs.Filling.{row_first, row_start, row_half, row_fits, row_more, row_end}
use Rattle.state_fill.proofs.rows.fill_row.Goals as goal

pub set_run-requires : goal.set_run-requires
set_run-requires c = omega (arith, row_first c.requires)

pub loop-b-init : goal.loop-b-init
loop-b-init c = (refl, row_start c.requires _ c.set_run.ensures)

pub half-half_end-requires : goal.half-half_end-requires
half-half_end-requires c = row_half c.requires c.set_run.auto.table (omega arith) c.loop-b.invariant.1

pub overflow_add-place : goal.overflow_add-place
overflow_add-place c = omega (arith, row_fits c.requires c.set_run.auto.table (omega arith) c.loop-b.invariant.1)

pub overflow_add-column : goal.overflow_add-column
overflow_add-column c = omega (arith, row_fits c.requires c.set_run.auto.table (omega arith) c.loop-b.invariant.1)

pub loop-b-preserved : goal.loop-b-preserved
loop-b-preserved c = (refl, row_more c.requires c.set_run.auto.table (omega arith) c.loop-b.invariant.1 _ _ c.make_cell-flat.auto.table c.half-half_end.ensures c.make_cell-flat.ensures.0 c.make_cell-flat.ensures.1 c.make_cell-flat.ensures.2)

pub returns : goal.returns
returns c = row_end c.requires c.set_run.ensures (omega arith) c.loop-b.invariant.1
