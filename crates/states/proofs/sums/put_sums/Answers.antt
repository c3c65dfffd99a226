-- `states::sums::put_sums` meets its contract.
use Rattle.states.proofs.Prelude.{arith, ◌≡◌, refl, ◌∙◌, ◌+◌, get_or}
use Rattle.states.proofs.Carries.{blocks_rise, sums_first, sums_more, sums_small, fewer_blocks}
use Rattle.states.proofs.sums.put_sums.Goals as goal

pub add_steps-requires : goal.add_steps-requires
add_steps-requires c = let given = c.requires in
    (omega arith, omega (arith, given.0.digits.some 0 (omega arith)), omega (arith, given.1, given.0.states, blocks_rise (λ i. get_or c.args.blocks.now i 0) _ 0 given.0.digits (omega arith)), λ s h. (let z : s ≡ 0 = omega arith in rw z (omega (arith, given.2))))

pub loop-e-init : goal.loop-e-init
loop-e-init c = let given = c.requires in
    let done = c.add_steps in
    (omega arith, refl, sums_first c.args.blocks.now _ _ _ refl given.2 done.ensures, λ i h. refl)

pub add_steps-requires-in-loop-e : goal.add_steps-requires-in-loop-e
add_steps-requires-in-loop-e c = let given = c.requires in
    let loop = c.loop-e in
    let blocks = c.args.blocks.now in
    let fewer = fewer_blocks blocks _ (loop.e + 1) given.0.digits (omega arith) in
    (omega (arith, given.0.digits.some loop.e (omega arith)), omega (arith, blocks_rise (λ i. get_or blocks i 0) (loop.e + 1) loop.e fewer (omega arith)), omega (arith, loop.invariant.1, c.add_steps.auto.table, given.1, given.0.states, blocks_rise (λ i. get_or blocks i 0) _ (loop.e + 1) given.0.digits (omega arith)), λ s h. sums_small blocks loop.e loop.table (fewer_blocks blocks _ loop.e given.0.digits loop.invariant.0) loop.invariant.2 s (omega arith))

pub loop-e-preserved : goal.loop-e-preserved
loop-e-preserved c = let given = c.requires in
    let loop = c.loop-e in
    let blocks = c.args.blocks.now in
    let done = c.add_steps-in-loop-e in (
      omega arith,
      done.auto.table ∙ loop.invariant.1,
      sums_more blocks _ _ _ _ _ (fewer_blocks blocks _ (loop.e + 1) given.0.digits (omega arith)) refl refl loop.invariant.2 done.ensures,
      λ i h. done.ensures.rest i (omega (arith, given.0.states, blocks_rise (λ i. get_or blocks i 0) _ (loop.e + 1) given.0.digits (omega arith))) ∙ loop.invariant.3 i h,
    )

pub returns : goal.returns
returns c = let given = c.requires in
    let loop = c.loop-e in
    let blocks = c.args.blocks.now in
    let e : loop.e ≡ c.args.d = omega (arith, loop.invariant.0) in (
      λ s h. rw (← e) (loop.invariant.2 s (rw e (omega (arith, given.0.states)))),
      λ i h. loop.invariant.3 i h ∙ c.add_steps.ensures.rest i (omega (arith, given.0.states, blocks_rise (λ i. get_or blocks i 0) _ 0 given.0.digits (omega arith))),
    )
