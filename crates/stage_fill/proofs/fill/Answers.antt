-- `stage_fill::fill` meets its contract: one digit, whose states are the shares.
use Rattle.stage_fill.proofs.Prelude.{arith, refl, ◌∙◌}
use Rattle.stage_fill.proofs.Filling.{all_bare, staged_filled, staged_room, stages_lent}
use Rattle.stage_fill.proofs.fill.Goals as goal

pub fill_blocks-requires : goal.fill_blocks-requires
fill_blocks-requires c = rw c.shape_of-shape.ensures (stages_lent c.requires)

pub strip_all-requires : goal.strip_all-requires
strip_all-requires c = let made = c.fill_blocks in
    let e = c.shape_of-shape.ensures in
    rw e (omega (arith, staged_room c.requires, made.auto.table), all_bare c.args.size.capacity (stages_lent c.requires) refl (rw e at made.ensures))

pub returns : goal.returns
returns c = let made = c.fill_blocks in
    let off = c.strip_all in
    let e = c.shape_of-shape.ensures in
    staged_filled c.args.size.capacity (stages_lent c.requires) refl (rw e at made.ensures) (rw e at off.ensures) (off.auto.table ∙ made.auto.table)
