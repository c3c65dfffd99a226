use Rattle.orders.proofs.Sums.{Summing}
use Rattle.orders.proofs.worth.Given as goal

abbrev pub invariant-loop-k : goal.invariant-loop-k
invariant-loop-k l = Summing l.demands l.amounts l.k l.total
