use Rattle.true_plan.proofs.Prelude.{get_or, lying, Scanning}
use Rattle.true_plan.proofs.used_size.Given as goal

abbrev pub invariant-loop-k : goal.invariant-loop-k
invariant-loop-k l = Scanning l.kerf (λ p. lying (λ i. (get_or l.lengths i 0, get_or l.widths i 0)) p) l.kinds l.operands l.used_lengths l.used_widths l.n l.k

abbrev pub decreases-loop-k : goal.decreases-loop-k
decreases-loop-k l = l.k
