-- `row_fill::fill` meets its contract. The loop's invariant is `Filling`; one row more is `copy`, `cut_lengths` and `fill_row`.
use Rattle.row_fill.proofs.Prelude.{arith, ◌∙◌, refl}
use Rattle.row_fill.proofs.Filling.{zeros_capped, first_row, all_room, fill_none, filled, row_above, row_end, row_half, lengths_ready, row_ready, fill_more}
use Rattle.row_fill.proofs.fill.Goals as goal

pub set_run-requires : goal.set_run-requires
set_run-requires c = let given = c.requires in omega (arith, all_room given, first_row given)

pub loop-a-init : goal.loop-a-init
loop-a-init c = fill_none c.requires c.set_run.ensures refl (zeros_capped 1021)

pub half-half_end-requires : goal.half-half_end-requires
half-half_end-requires c = row_half c.requires c.loop-a.invariant c.loop-a-test.true

pub overflow_sub-start : goal.overflow_sub-start
overflow_sub-start c = row_above c.requires c.loop-a.invariant c.loop-a-test.true

pub copy-requires : goal.copy-requires
copy-requires c = let given = c.requires in
    let l = c.loop-a.invariant in
    let ha = c.loop-a-test.true in
    (omega (arith, row_above given l ha), omega (arith, row_end given l ha, all_room given, l.same, c.set_run.auto.table))

pub cut_lengths-requires : goal.cut_lengths-requires
cut_lengths-requires c = let l = c.loop-a.invariant in
    let copied = c.copy in
    lengths_ready c.requires l c.loop-a-test.true c.half-half_end.ensures copied.ensures (copied.auto.table ∙ l.same ∙ c.set_run.auto.table)

pub fill_row-requires : goal.fill_row-requires
fill_row-requires c = let l = c.loop-a.invariant in
    let copied = c.copy in
    let cut = c.cut_lengths in
    row_ready c.requires l c.loop-a-test.true c.half-half_end.ensures copied.ensures cut.ensures (cut.auto.table ∙ copied.auto.table ∙ l.same ∙ c.set_run.auto.table)

pub loop-a-preserved : goal.loop-a-preserved
loop-a-preserved c = let copied = c.copy in
    let cut = c.cut_lengths in
    let row = c.fill_row in
    fill_more c.requires c.loop-a.invariant c.loop-a-test.true c.half-half_end.ensures copied.ensures cut.ensures row.ensures.0 (row.auto.table ∙ cut.auto.table ∙ copied.auto.table) row.auto.unit row.ensures.1

pub returns : goal.returns
returns c = let cleared = c.set_run in
    filled c.requires c.loop-a.invariant (omega (arith, c.loop-a-test.false)) cleared.auto.table cleared.ensures
