-- `state_fill::rows::fill` meets its contract.
use Rattle.state_fill.proofs.Prelude.{arith, refl}
use Rattle.state_fill.proofs.Filling.{table_cells, table_first, table_start, table_half, table_spot, table_fits, table_more, table_clear, table_bare, table_end}
use Rattle.state_fill.proofs.rows.fill.Goals as goal

pub first_row-requires : goal.first_row-requires
first_row-requires c = table_first c.requires.0 c.requires.1

pub loop-a-init : goal.loop-a-init
loop-a-init c = let given = c.requires in
    let flat = c.first_flat-flat.ensures in
    (refl, table_start given.0 given.1 _ c.first_row.ensures (record { most = flat.0; weighed = flat.1; several = flat.2 }))

pub half-half_end-requires : goal.half-half_end-requires
half-half_end-requires c = let given = c.requires in
    table_half given.0 given.1 c.first_row.auto.table (omega arith) c.loop-a.invariant.1

pub fill_row-flat-requires : goal.fill_row-flat-requires
fill_row-flat-requires c = let given = c.requires in
    table_spot given.0 given.1 c.first_row.auto.table (omega arith) c.loop-a.invariant.1 _ c.half-half_end.ensures

pub overflow_add-at : goal.overflow_add-at
overflow_add-at c = let given = c.requires in
    omega (arith, table_fits given.0 given.1 c.first_row.auto.table (omega arith) c.loop-a.invariant.1)

pub loop-a-preserved : goal.loop-a-preserved
loop-a-preserved c = let given = c.requires in
    let row = c.fill_row-flat in
    (refl, table_more given.0 given.1 c.first_row.auto.table (omega arith) c.loop-a.invariant.1 _ _ row.auto.table c.half-half_end.ensures row.ensures.0 row.ensures.1 row.ensures.2 row.ensures.3)

pub set_run-requires : goal.set_run-requires
set_run-requires c = let given = c.requires in
    let begun = c.first_row in
    omega (arith, table_clear given.0 given.1 begun.ensures begun.auto.table (omega arith) c.loop-a.invariant.1)

pub overflow_mul-shape : goal.overflow_mul-shape
overflow_mul-shape c = omega (arith, table_cells c.requires.0 c.requires.1)

pub strip_all-requires : goal.strip_all-requires
strip_all-requires c = let given = c.requires in
    let begun = c.first_row in
    table_bare given.0 given.1 begun.ensures begun.auto.table (omega arith) c.loop-a.invariant.1 c.set_run.ensures c.set_run.auto.table

pub returns : goal.returns
returns c = let given = c.requires in
    let begun = c.first_row in
    table_end given.0 given.1 begun.ensures begun.auto.table (omega arith) c.loop-a.invariant.1 c.set_run.ensures c.set_run.auto.table _ c.strip_all.auto.table c.strip_all.ensures
