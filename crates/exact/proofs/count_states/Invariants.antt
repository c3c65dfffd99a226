use Rattle.exact.proofs.Prelude.{◌≡◌, ◌-◌, ◌≤◌, length, states, job_of, Multiplied}
use Rattle.exact.proofs.count_states.Given as goal

abbrev pub invariant-loop-k : goal.invariant-loop-k
invariant-loop-k l = (l.k ≤ l.job.count) × (l.k-end ≡ l.job.count) × (l.product ≡ states (job_of l.job).demand l.k) × (l.product ≤ 4096) × (length l.blocks ≡ 64) × Multiplied (job_of l.job) l.k l.blocks

abbrev pub decreases-loop-k : goal.decreases-loop-k
decreases-loop-k l = l.k-end - l.k
