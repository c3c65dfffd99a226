use Rattle.pieces.proofs.Prelude.{widened, job_of, weight_in, Listed}
use Rattle.pieces.proofs.Growing.{kinds_below}
use Rattle.pieces.proofs.list_pieces.Given as goal

abbrev pub invariant-loop-i : goal.invariant-loop-i
invariant-loop-i l = Listed (widened (job_of l.job)) (weight_in l.weights) (kinds_below (widened (job_of l.job)) l.i) l.n l.pieces
