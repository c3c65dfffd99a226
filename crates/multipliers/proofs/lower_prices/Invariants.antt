use Rattle.multipliers.proofs.Prices.{Lowering}
use Rattle.multipliers.proofs.lower_prices.Given as goal

abbrev pub invariant-loop-i : goal.invariant-loop-i
invariant-loop-i l = Lowering l.multipliers l.initial.prices l.prices l.i
