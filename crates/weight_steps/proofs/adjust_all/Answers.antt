-- `weight_steps::adjust_all` meets its contract.
use Rattle.std.proofs.Common.{rules}
use Rattle.weight_steps.proofs.Prelude.{ℕ, ◌*◌, arith, ltb, get_or, entries_none, entries_more, distance, root_below, stepped}
use Rattle.weight_steps.proofs.adjust_all.Goals as goal

pub loop-i-init : goal.loop-i-init
loop-i-init c = (search rules, entries_none (λ k. stepped (ltb (get_or c.args.demands.now k 0) (get_or c.args.copies.now k 0)) (get_or c.args.weights.now k 0) (root_below 255 (distance (get_or c.args.copies.now k 0) (get_or c.args.demands.now k 0) * c.args.top) c.args.q)))

pub loop-i-preserved : goal.loop-i-preserved
loop-i-preserved c = let f : ℕ → ℕ = λ k. stepped (ltb (get_or c.args.demands.now k 0) (get_or c.args.copies.now k 0)) (get_or c.args.weights.now k 0) (root_below 255 (distance (get_or c.args.copies.now k 0) (get_or c.args.demands.now k 0) * c.args.top) c.args.q) in
    (search rules, entries_more f c.loop-i.i c.loop-i.adjusted c.adjust.result (omega arith) c.adjust.ensures c.loop-i.invariant.1)
