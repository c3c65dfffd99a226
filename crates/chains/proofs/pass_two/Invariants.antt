use Rattle.chains.proofs.Prelude.{◌≡◌, true, ◌≤◌, length}
use Rattle.chains.proofs.Table.{Halfway, Still}
use Rattle.chains.proofs.pass_two.Given as goal

abbrev pub invariant-loop-s : goal.invariant-loop-s
invariant-loop-s l = (l.s ≤ length l.initial.table) × Halfway l.initial.table l.m l.t l.o l.u l.s l.table × (l.same ≡ true → Still l.initial.table l.m l.t l.o l.u l.s)
