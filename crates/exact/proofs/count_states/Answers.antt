-- `exact::count_states` meets its contract. The loop's invariant: the product and the entries of the kinds passed.
use Rattle.exact.proofs.Prelude.{◌≡◌, refl, sym, ◌∙◌, ap, subst, suc, ◌+◌, ◌*◌, add-one, arith, get_or, length-set, states, job_of, Multiplied}
use Rattle.exact.proofs.States.{zero_one, states_some}
use Rattle.exact.proofs.Counting.{product_more, product_small, multiplied_none, multiplied_more, counted_many, counted_few}
use Rattle.job.proofs.Checks.{passed_least}
use Rattle.exact.proofs.count_states.Goals as goal

pub loop-k-init : goal.loop-k-init
loop-k-init c = (omega arith, refl, sym (zero_one (job_of c.args.job).demand), omega arith, c.requires.1, multiplied_none (job_of c.args.job) c.args.blocks.now)

pub overflow_mul-product : goal.overflow_mul-product
overflow_mul-product c = let turn = c.loop-k in
    omega (arith, product_small turn.product (get_or c.args.job.demands turn.k 0) turn.invariant.3 (c.requires.0.demands turn.k (omega (arith, turn.invariant.1))))

pub returns-in_err-refuse_if : goal.returns-in_err-refuse_if
returns-in_err-refuse_if c = let turn = c.loop-k in
    counted_many (job_of c.args.job) turn.k (product_more (job_of c.args.job).demand turn.k turn.invariant.2 refl) (omega (arith, turn.invariant.1)) c.refuse_if.ensures c.in_err-refuse_if.was c.from_residual.ensures.1

pub loop-k-preserved : goal.loop-k-preserved
loop-k-preserved c = let turn = c.loop-k in
    let J = job_of c.args.job in
    let v = turn.product * (J.demand turn.k + 1) in
    let more : v ≡ states J.demand (suc turn.k) = product_more J.demand turn.k turn.invariant.2 refl in (
      omega (arith, turn.invariant.1),
      turn.invariant.1,
      more ∙ ap (states J.demand) (sym (add-one turn.k)),
      passed_least 4096 v _ c.refuse_if.ensures c.in_ok-refuse_if.was,
      length-set turn.blocks turn.k v ∙ turn.invariant.4,
      multiplied_more J turn.k v turn.blocks turn.invariant.5 (omega (arith, turn.invariant.1, turn.invariant.4, c.requires.0.kinds.1)) more,
    )

pub overflow_sub-result : goal.overflow_sub-result
overflow_sub-result c = omega (arith, c.loop-k.invariant.2, states_some (job_of c.args.job).demand c.loop-k.k)

pub returns : goal.returns
returns c = let turn = c.loop-k in
    let J = job_of c.args.job in
    let k : turn.k ≡ J.count = omega (arith, turn.invariant.0, turn.invariant.1) in
    counted_few J (turn.invariant.2 ∙ ap (states J.demand) k) turn.invariant.3 turn.invariant.4 (subst (λ n. Multiplied J n turn.blocks) k turn.invariant.5)
