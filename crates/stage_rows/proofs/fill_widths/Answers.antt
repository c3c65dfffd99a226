-- `stage_rows::fill_widths` meets its contract. The loop's invariant: the rows passed are made.
use Rattle.stage_rows.proofs.Prelude.{arith, refl, ◌∙◌, zeros_capped}
use Rattle.stage_rows.proofs.Widths.{widths_none, widths_more}
use Rattle.stage_rows.proofs.fill_widths.Goals as goal

pub loop-a-init : goal.loop-a-init
loop-a-init c = (omega arith, refl, refl, zeros_capped 1021, widths_none)

pub loop-a-preserved : goal.loop-a-preserved
loop-a-preserved c = let l = c.loop-a.invariant in
    let row = c.widen_row in
    (omega (arith, c.loop-a-test.true), row.auto.table ∙ l.1, row.auto.unit ∙ l.2, row.ensures.2, widths_more c.requires l.4 c.loop-a-test.true row.ensures.0 row.ensures.1)
