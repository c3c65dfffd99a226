-- `weight_steps::sum_squares` meets its contract.
use Rattle.std.proofs.Common.{rules}
use Rattle.weight_steps.proofs.Prelude.{◌∙◌, ap₂, ℕ, ◌+◌, ◌*◌, arith, get_or, sum_none, sum_more, distance}
use Rattle.weight_steps.proofs.Sums.{product_most}
use Rattle.weight_steps.proofs.sum_squares.Goals as goal

pub loop-i-init : goal.loop-i-init
loop-i-init c = (search rules, sum_none (λ k. distance (get_or c.args.copies.now k 0) (get_or c.args.demands.now k 0) * distance (get_or c.args.copies.now k 0) (get_or c.args.demands.now k 0)), search rules)

pub loop-i-preserved : goal.loop-i-preserved
loop-i-preserved c = let f : ℕ → ℕ = λ k. distance (get_or c.args.copies.now k 0) (get_or c.args.demands.now k 0) * distance (get_or c.args.copies.now k 0) (get_or c.args.demands.now k 0) in
    let e = c.from-d.ensures ∙ c.abs_diff.ensures in
    (search rules, ap₂ ◌+◌ c.loop-i.invariant.1 (ap₂ ◌*◌ e e) ∙ sum_more f c.loop-i.i, omega (arith, c.loop-i.invariant.2, product_most c.from-d.result c.from-d.result 65535 65535 (omega arith) (omega arith)))
