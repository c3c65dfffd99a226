-- `row_fill::push_widths` meets its contract. The loop's invariant: the cells passed are final and have pushed their cuts.
use Rattle.row_fill.proofs.Prelude.{arith, ◌≡◌, ◌∙◌, refl, length-set}
use Rattle.row_fill.proofs.Pushing.{units_small, units_capped, pushed_capped, widening_more, widening_all}
use Rattle.row_fill.proofs.push_widths.Goals as goal

pub push_cell-requires : goal.push_cell-requires
push_cell-requires c = let given = c.requires in
    let laid = given.laid in
    let l = c.loop-b in
    let level = c.set_run in
    let x = c.entry-x.ensures.0 in
    let last = c.entry-past.ensures.0 in
    record {
      some = omega (arith, c.entry.ensures.0, laid.entries.rise 0 1 (omega arith) (omega arith));
      within = omega (arith, x, laid.entries.within l.b (omega arith));
      units = omega (arith, level.auto.table, l.invariant.3);
      final_low = units_small laid.entries (omega arith) (omega arith) x last refl l.invariant.4 level.ensures laid.side_low given.units_low l.invariant.5;
      capped = units_capped laid.entries (omega arith) (omega arith) x last refl l.invariant.4 level.ensures laid.side_low given.units_low l.invariant.5;
    }

pub loop-b-preserved : goal.loop-b-preserved
loop-b-preserved c = let given = c.requires in
    let laid = given.laid in
    let l = c.loop-b in
    let level = c.set_run in
    let push = c.push_cell in
    let x = c.entry-x.ensures.0 in
    let last = c.entry-past.ensures.0 in
    let least = c.entry.ensures.0 in (
      omega arith,
      omega arith,
      simp length-set l.invariant.2,
      push.auto.unit ∙ level.auto.table ∙ l.invariant.3,
      widening_more laid.entries (omega arith) (omega arith) x last refl l.invariant.4 level.ensures laid.side_low given.units_low l.invariant.5 least push.ensures (omega (arith, l.invariant.2)),
      pushed_capped laid.entries (omega arith) (omega arith) x last refl l.invariant.4 level.ensures laid.side_low given.units_low l.invariant.5 least push.ensures,
    )

pub returns : goal.returns
returns c = let l = c.loop-b in
    let e : l.b ≡ c.args.columns = omega arith in
    (widening_all c.requires.laid.entries (rw e at l.invariant.4), l.invariant.5)
