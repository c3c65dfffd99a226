-- `orders::worth` meets its contract: before each kind the total is the sum over the kinds below it.
use mathlib.Core.Path.{subst}
use Rattle.orders.proofs.Prelude.{◌≡◌, arith}
use Rattle.orders.proofs.Sums.{Summing, summing_begins, summing_goes, summing_ends}
use Rattle.orders.proofs.worth.Goals as goal

pub loop-k-init : goal.loop-k-init
loop-k-init c = let a = c.args in summing_begins a.demands.now a.amounts.now

pub loop-k-preserved : goal.loop-k-preserved
loop-k-preserved c = let a = c.args in
    summing_goes a.demands.now a.amounts.now c.loop-k.k c.loop-k.total c.times-total.result c.loop-k.invariant c.times-total.ensures

pub returns : goal.returns
returns c = let a = c.args in
    let e : c.loop-k.k ≡ a.count = omega arith in
    summing_ends a.count c.loop-k.total a.demands.now a.amounts.now c.requires (subst (λ k. Summing a.demands.now a.amounts.now k c.loop-k.total) e c.loop-k.invariant)
