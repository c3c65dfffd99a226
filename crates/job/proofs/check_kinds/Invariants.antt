use Rattle.job.proofs.Prelude.{◌≡◌, List, ℕ, ◌<◌, Check, first_refusal, Checked}
use Rattle.job.proofs.Checks.{Decides}
use Rattle.job.proofs.check_kinds.Given as goal

abbrev pub invariant-loop-i : goal.invariant-loop-i
invariant-loop-i g l = (f : ℕ → List Check) → ((k : ℕ) (r : Checked) → k < l.n → goal.F-post g l.check k r → r ≡ first_refusal (f k)) → Decides f l.n l.i
