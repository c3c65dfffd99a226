use Rattle.idle.proofs.Scan.{Scanned}
use Rattle.idle.proofs.idle_cut.Given as goal

abbrev pub invariant-loop-k : goal.invariant-loop-k
invariant-loop-k l = Scanned l.first l.kinds l.verdict l.pieceless l.k

abbrev pub decreases-loop-k : goal.decreases-loop-k
decreases-loop-k l = l.k
