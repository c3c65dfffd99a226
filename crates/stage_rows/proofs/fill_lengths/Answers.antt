-- `stage_rows::fill_lengths` meets its contract. The loop's invariant is `Lengthening`; one row more is `greater_row` and `cut_lengths`.
use Rattle.stage_rows.proofs.Prelude.{arith, ◌≡◌, ◌∙◌}
use Rattle.stage_rows.proofs.Lengths.{lengths_kept, lengths_none, lengths_all, start_ready, cuts_ready, lengths_more}
use Rattle.stage_rows.proofs.fill_lengths.Goals as goal

pub loop-a-init : goal.loop-a-init
loop-a-init c = let cleared = c.set_run in (lengths_kept c.requires cleared.ensures cleared.auto.table, lengths_none c.requires cleared.ensures)

pub greater_row-requires : goal.greater_row-requires
greater_row-requires c = let l = c.loop-a.invariant in start_ready l.0 l.1 c.loop-a-test.true

pub cut_lengths-requires : goal.cut_lengths-requires
cut_lengths-requires c = let l = c.loop-a.invariant in
    let started = c.greater_row in
    cuts_ready l.0 l.1 c.loop-a-test.true c.half-half_end.ensures started.ensures started.auto.table

pub loop-a-preserved : goal.loop-a-preserved
loop-a-preserved c = let l = c.loop-a.invariant in
    let started = c.greater_row in
    let cut = c.cut_lengths in
    (l.0, lengths_more l.0 l.1 c.loop-a-test.true c.half-half_end.ensures started.ensures cut.ensures (cut.auto.table ∙ started.auto.table))

pub returns : goal.returns
returns c = let l = c.loop-a in
    let e : l.a ≡ c.args.size.rows = omega (arith, c.loop-a-test.false, l.invariant.1.to) in
    lengths_all c.requires c.set_run.ensures (rw e at l.invariant.1.block)
