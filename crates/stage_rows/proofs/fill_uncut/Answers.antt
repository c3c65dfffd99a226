-- `stage_rows::fill_uncut` meets its contract. The loop's invariant: the rows passed are made.
use Rattle.stage_rows.proofs.Prelude.{arith, ◌≡◌, refl, ◌∙◌, zeros_capped}
use Rattle.stage_rows.proofs.Uncut.{uncut_ready, uncut_more, uncut_none, uncut_all}
use Rattle.stage_rows.proofs.fill_uncut.Goals as goal

pub loop-a-init : goal.loop-a-init
loop-a-init c = let given = c.requires in (omega arith, given.lengths.some, refl, refl, zeros_capped 1021, uncut_none given c.set_run.ensures)

pub uncut_row-requires : goal.uncut_row-requires
uncut_row-requires c = let l = c.loop-a.invariant in
    let copied = c.copy in
    uncut_ready c.requires l.5 l.0 c.loop-a-test.true copied.ensures (copied.auto.table ∙ l.2 ∙ c.set_run.auto.table) l.3 l.4

pub loop-a-preserved : goal.loop-a-preserved
loop-a-preserved c = let l = c.loop-a.invariant in
    let copied = c.copy in
    let row = c.uncut_row in
    let ha = c.loop-a-test.true in
    (omega arith, omega (arith, ha), row.auto.table ∙ copied.auto.table ∙ l.2, row.auto.unit ∙ l.3, row.ensures.1, uncut_more c.requires l.5 l.0 ha copied.ensures row.ensures.0)

pub returns : goal.returns
returns c = let l = c.loop-a in
    let e : l.a ≡ c.args.size.rows = omega (arith, c.loop-a-test.false, l.invariant.1) in
    uncut_all c.requires c.set_run.ensures (rw e at l.invariant.5)
