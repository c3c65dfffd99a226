use Rattle.job.proofs.Prelude.{◌≡◌, ◌+◌, entries, get_or}
use Rattle.job.proofs.read_bytes.Given as goal

abbrev pub invariant-loop-i : goal.invariant-loop-i
invariant-loop-i l = l.bytes ≡ entries (λ k. get_or l.block (l.from + k) 0) l.i
