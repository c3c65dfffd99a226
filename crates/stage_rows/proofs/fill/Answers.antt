-- `stage_rows::fill` meets its contract. The loop's invariant is `Staging`; one stage more is `fill_lengths` and `fill_widths`.
use Rattle.stage_rows.proofs.Prelude.{arith, ◌∙◌}
use Rattle.stage_rows.proofs.Filling.{all_few, uncut_lent, staging_none, stage_end, lengths_lent, source_before, widths_lent, staging_more, staged_filled}
use Rattle.stage_rows.proofs.fill.Goals as goal

pub fill_uncut-requires : goal.fill_uncut-requires
fill_uncut-requires c = uncut_lent c.requires

pub loop-below-init : goal.loop-below-init
loop-below-init c = staging_none c.requires c.fill_uncut.ensures

pub fill_lengths-requires : goal.fill_lengths-requires
fill_lengths-requires c = let l = c.loop-below.invariant in lengths_lent c.requires l (l.same ∙ c.fill_uncut.auto.table) c.loop-below-test.true

pub overflow_mul-source : goal.overflow_mul-source
overflow_mul-source c = let given = c.requires in
    let l = c.loop-below.invariant in
    let same = l.same ∙ c.fill_uncut.auto.table in
    let hb = c.loop-below-test.true in
    omega (arith, all_few given, stage_end given l same hb, source_before given l same hb c.fill_lengths.ensures c.saturating_sub.ensures)

pub overflow_add-at-in-loop-below : goal.overflow_add-at-in-loop-below
overflow_add-at-in-loop-below c = let given = c.requires in let l = c.loop-below.invariant in omega (arith, all_few given, stage_end given l (l.same ∙ c.fill_uncut.auto.table) c.loop-below-test.true)

pub fill_widths-requires : goal.fill_widths-requires
fill_widths-requires c = let l = c.loop-below.invariant in
    let made = c.fill_lengths in
    widths_lent c.requires l (l.same ∙ c.fill_uncut.auto.table) c.loop-below-test.true made.ensures c.saturating_sub.ensures made.auto.table

pub loop-below-preserved : goal.loop-below-preserved
loop-below-preserved c = let l = c.loop-below.invariant in
    let made = c.fill_lengths in
    let wide = c.fill_widths in
    staging_more c.requires l (l.same ∙ c.fill_uncut.auto.table) c.loop-below-test.true made.ensures c.saturating_sub.ensures wide.ensures (wide.auto.table ∙ made.auto.table)

pub returns : goal.returns
returns c = let uncut = c.fill_uncut in staged_filled c.requires c.loop-below.invariant (omega (arith, c.loop-below-test.false)) uncut.ensures uncut.auto.table
