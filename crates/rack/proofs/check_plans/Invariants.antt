use Rattle.rack.proofs.Prelude.{◌≡◌, ◌-◌, length, job_of, plate_at}
use Rattle.plan.specs.Walk.{Held}
use Rattle.rack.proofs.Plans.{Racking}
use Rattle.rack.proofs.check_plans.Given as goal

abbrev pub invariant-loop-i : goal.invariant-loop-i
invariant-loop-i l = (l.i-end ≡ length l.lengths) × Held l.waiting_lengths l.waiting_widths × Racking (job_of l.job) (plate_at l.lengths l.widths) (length l.lengths) l.kinds l.operands l.totals l.profits l.k l.i

abbrev pub decreases-loop-i : goal.decreases-loop-i
decreases-loop-i l = l.i-end - l.i
