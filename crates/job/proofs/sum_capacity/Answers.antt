-- `job::sum_capacity` meets its contract.
use Rattle.std.proofs.Common.{rules}
use Rattle.job.proofs.Prelude.{◌∙◌, ap, ap₂, ℕ, ◌+◌, ◌*◌, arith, rect_of, turns, copies_on, counted_of, counted, job_of, weight_in}
use Rattle.job.proofs.Weights.{sum_none, sum_more}
use Rattle.job.proofs.sum_capacity.Goals as goal

pub loop-i-init : goal.loop-i-init
loop-i-init c = let e = c.args in (search rules, sum_none (λ k. counted (job_of e.job) k * weight_in e.weights.now k), search rules)

pub loop-i-preserved : goal.loop-i-preserved
loop-i-preserved c = let e = c.args in
    let J = job_of e.job in
    let i = c.loop-i.i in
    let f : ℕ → ℕ = λ k. counted J k * weight_in e.weights.now k in
    let copies = c.counted_copies-copies.ensures.0
    ∙ ap (λ b. counted_of J.full_demand (J.demand i) (copies_on b (rect_of c.widen-plate.result) (rect_of c.widen-size.result))) c.may_turn-turns.ensures
    ∙ ap₂ (λ r q. counted_of J.full_demand (J.demand i) (copies_on (turns J i) (rect_of r) (rect_of q))) c.widen-plate.ensures c.widen-size.ensures in (
      search rules,
      ap₂ ◌+◌ c.loop-i.invariant.1 (c.weigh-q.ensures.0 ∙ ap (λ n. n * weight_in e.weights.now i) copies) ∙ sum_more f i,
      omega (arith, c.loop-i.invariant.2, c.weigh-q.ensures.1),
    )
