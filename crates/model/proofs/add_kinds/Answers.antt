-- `model::add_kinds` meets its contract.
use Rattle.model.proofs.Prelude.{refl, ◌∙◌, arith, job_of, true_job}
use Rattle.model.proofs.Tables.{told_upright, told_turned, kind_fits, least_more}
use Rattle.model.proofs.add_kinds.Goals as goal

pub add_kind-requires : goal.add_kind-requires
add_kind-requires c = let p = c.requires in
    let a = c.args in
    let turn = c.loop-i in
    let plate = c.true_plate-plate.ensures in
    let real = c.true_span-real.ensures in
    let shape = c.model_span-shape.ensures in
    kind_fits a.model a.sizes a.d p.0 p.1 turn.i c.loop-i-test.true turn.table turn.invariant.1
    (told_upright a.model a.sizes a.d turn.i real shape plate c.way_of-upright.ensures)
    (told_turned a.model a.sizes a.d turn.i real shape plate c.turned_way-turned.ensures)

pub loop-i-preserved : goal.loop-i-preserved
loop-i-preserved c = let a = c.args in
    let turn = c.loop-i in
    let plate = c.true_plate-plate.ensures in
    let real = c.true_span-real.ensures in
    let shape = c.model_span-shape.ensures in
    let added = c.add_kind.ensures in (
      added.long ∙ turn.invariant.0,
      least_more (true_job (job_of a.model) a.sizes) (job_of a.model) a.d turn.i _ turn.table _ (omega arith) refl (told_upright a.model a.sizes a.d turn.i real shape plate c.way_of-upright.ensures)
          (told_turned a.model a.sizes a.d turn.i real shape plate c.turned_way-turned.ensures) turn.invariant.1 added,
    )
