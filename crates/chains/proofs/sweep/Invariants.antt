use Rattle.chains.proofs.Prelude.{◌≡◌, true, ◌≤◌, Swept, Unmoved}
use Rattle.chains.proofs.sweep.Given as goal

abbrev pub invariant-loop-s : goal.invariant-loop-s
invariant-loop-s l = (l.lo ≤ l.s) × (l.s ≤ l.hi) × Swept l.initial.table l.m l.t l.s l.hi l.table × (l.same ≡ true → Unmoved l.initial.table l.m l.t l.s l.hi)
