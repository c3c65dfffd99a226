use Rattle.neat.proofs.Scan.{Counted}
use Rattle.neat.proofs.count_pieces.Given as goal

abbrev pub invariant-loop-k : goal.invariant-loop-k
invariant-loop-k l = Counted l.kinds l.pieces l.k

abbrev pub decreases-loop-k : goal.decreases-loop-k
decreases-loop-k l = l.k
