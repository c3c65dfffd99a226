use Rattle.job.proofs.Prelude.{◌≡◌, ◌*◌, ◌≤◌, sum, counted, job_of, weight_in}
use Rattle.job.proofs.sum_capacity.Given as goal

abbrev pub invariant-loop-i : goal.invariant-loop-i
invariant-loop-i l = (l.i ≤ l.job.count) × (l.q ≡ sum l.i (λ k. counted (job_of l.job) k * weight_in l.weights k)) × (l.q ≤ 65025 * l.i)
