use Rattle.chains.proofs.Prelude.{◌≡◌, true, ◌+◌, ◌≤◌, entry, Swept, Unmoved}
use Rattle.chains.proofs.sweep_first.Given as goal

abbrev pub invariant-loop-s : goal.invariant-loop-s
invariant-loop-s l = (l.s ≤ l.hi) × (l.most ≡ entry l.initial.table 0 + l.t) × Swept l.initial.table l.m l.t l.s l.hi l.table × (l.same ≡ true → Unmoved l.initial.table l.m l.t l.s l.hi)
