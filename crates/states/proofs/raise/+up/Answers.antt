-- `states::raise::up` meets its contract.
use Rattle.states.proofs.Prelude.{arith, refl, get_or, ◌-◌, under, ◌∙◌, mod-lt}
use Rattle.states.proofs.Lifting.{first_block, some_size, room_block, stop_block, inner_block, more_block, one_digit, digit_lifted, partly_all}
use Rattle.states.proofs.raise.+up.Goals as goal

pub run-requires : goal.run-requires
run-requires t c = (omega (arith, c.requires.room), one_digit c.args.blocks.now c.args.d (get_or c.args.blocks.now c.args.d 0) _ (omega arith) refl c.requires.rises)

pub returns-then-d-eq0 : goal.returns-then-d-eq0
returns-then-d-eq0 t c = digit_lifted c.args.blocks.now c.args.d (get_or c.args.blocks.now c.args.d 0) _ _ _ _ _ (omega arith) refl c.run.ensures

pub loop-x-init : goal.loop-x-init
loop-x-init t c = (refl, first_block (omega arith) c.requires refl _ _)

pub bounds-table-at : goal.bounds-table-at
bounds-table-at t c = omega (arith, room_block (omega arith) c.requires refl (omega arith) c.loop-x.invariant.1, mod-lt c.args.t {m = (get_or c.args.blocks.now (c.args.d - 1) 0)} (some_size c.requires refl), c.requires.room, c.loop-x.invariant.0)

pub returns-then-v-figure : goal.returns-then-v-figure
returns-then-v-figure t c = stop_block (omega arith) c.requires refl (omega arith) c.loop-x.invariant.1 (omega (arith, c.figure.ensures.0))

pub up-requires : goal.up-requires
up-requires t c = (omega arith, inner_block (omega arith) c.requires refl (omega arith) c.loop-x.invariant.1 c.loop-x.invariant.0)

pub loop-x-preserved : goal.loop-x-preserved
loop-x-preserved t c = (c.up.auto.table ∙ c.loop-x.invariant.0, more_block (omega arith) c.requires refl (omega arith) c.loop-x.invariant.1 c.up.ensures)

pub returns-else-v-figure : goal.returns-else-v-figure
returns-else-v-figure t c = let w = more_block (omega arith) c.requires refl (omega arith) c.loop-x.invariant.1 c.up.ensures in
    partly_all (under c.args.blocks.now c.args.d) c.args.at (get_or c.args.blocks.now c.args.d 0) c.args.t c.args.v _ _ _ (omega arith) w.partly
