use Rattle.plan.proofs.Prelude.{◌≡◌, ◌-◌, length, job_of}
use Rattle.plan.proofs.Walk.{Walking}
use Rattle.plan.proofs.walk_tree.Given as goal

abbrev pub invariant-loop-k : goal.invariant-loop-k
invariant-loop-k l = (l.k-end ≡ length l.kinds) × Walking (job_of l.job) l.kinds l.operands l.first l.copies l.waiting_lengths l.waiting_widths l.n l.t l.k

abbrev pub decreases-loop-k : goal.decreases-loop-k
decreases-loop-k l = l.k-end - l.k
