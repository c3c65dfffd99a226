use Rattle.model.proofs.Prelude.{◌≡◌, length, least, job_of, true_job, Tabled}
use Rattle.model.proofs.add_kinds.Given as goal

abbrev pub invariant-loop-i : goal.invariant-loop-i
invariant-loop-i l = (length l.table ≡ length l.initial.table) × Tabled (least (true_job (job_of l.model) l.sizes) (job_of l.model) l.d l.i) l.table
