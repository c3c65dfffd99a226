-- `weight_steps::root` meets its contract.
use Rattle.weight_steps.proofs.Prelude.{◌≡◌, sym, ◌*◌, ◌≤◌, arith}
use Rattle.weight_steps.proofs.Roots.{root_found}
use Rattle.weight_steps.proofs.root.Goals as goal

pub returns-then-p-y : goal.returns-then-p-y
returns-then-p-y c = sym (root_found 255 c.args.p c.args.q c.loop-x.x (omega arith) c.loop-x.invariant.1 (λ z. rw c.from-y.ensures at c.if-p-y.true))

pub returns : goal.returns
returns c = let e : c.loop-x.x ≡ 255 = omega arith in
    let h : 255 * 255 * c.args.q ≤ c.args.p = rw e at c.loop-x.invariant.1 in
    sym (root_found 255 c.args.p c.args.q 255 (omega arith) h (λ z. absurd (omega arith)))
