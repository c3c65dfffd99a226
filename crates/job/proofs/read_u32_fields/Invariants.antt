use Rattle.job.proofs.Prelude.{◌≡◌, ◌+◌, ◌*◌, entries, u32_at}
use Rattle.job.proofs.read_u32_fields.Given as goal

abbrev pub invariant-loop-i : goal.invariant-loop-i
invariant-loop-i l = l.fields ≡ entries (λ k. u32_at l.block (l.from + l.step * k)) l.i
