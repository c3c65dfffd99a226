use Rattle.job.proofs.Prelude.{◌≡◌, ◌+◌, ◌*◌, entries, u16_at}
use Rattle.job.proofs.read_fields.Given as goal

abbrev pub invariant-loop-i : goal.invariant-loop-i
invariant-loop-i l = l.fields ≡ entries (λ k. u16_at l.block (l.from + l.step * k)) l.i
