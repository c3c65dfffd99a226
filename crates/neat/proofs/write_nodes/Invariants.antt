use Rattle.neat.proofs.Prelude.{get_or, lying}
use Rattle.neat.proofs.Scan.{Writing}
use Rattle.neat.proofs.write_nodes.Given as goal

abbrev pub invariant-loop-k : goal.invariant-loop-k
invariant-loop-k l = Writing l.kerf (λ p. lying (λ i. (get_or l.lengths i 0, get_or l.widths i 0)) p) l.kinds l.operands l.initial.neat_kinds l.initial.neat_operands l.needed l.neat_kinds l.neat_operands l.used_lengths l.used_widths l.n l.o l.k

abbrev pub decreases-loop-k : goal.decreases-loop-k
decreases-loop-k l = l.k
