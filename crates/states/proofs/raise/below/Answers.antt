-- `states::raise::below` meets its contract.
use Rattle.states.proofs.Prelude.{arith, refl, ◌≡◌, sym, ◌∙◌, ap, under}
use Rattle.states.proofs.Lifting.{below_zero, below_digit, below_not}
use Rattle.states.proofs.raise.below.Goals as goal

pub returns-then-high-size : goal.returns-then-high-size
returns-then-high-size c = sym (c.loop-e.invariant.1 ∙ below_not c.args.blocks.now _ _ _ _ (omega arith) refl c.if-high-size.true)

pub loop-e-preserved : goal.loop-e-preserved
loop-e-preserved c = (omega arith, c.loop-e.invariant.1 ∙ below_digit c.args.blocks.now _ _ _ _ (omega arith) refl (omega arith))

pub returns : goal.returns
returns c = let e : c.loop-e.e ≡ 0 = omega arith in sym (c.loop-e.invariant.1 ∙ (ap (λ e. under c.args.blocks.now e c.loop-e.low c.loop-e.high) e ∙ below_zero c.args.blocks.now c.loop-e.low c.loop-e.high))
