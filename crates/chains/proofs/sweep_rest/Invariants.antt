use Rattle.chains.proofs.Prelude.{◌≡◌, true, ◌≤◌, length, Swept, Unmoved}
use Rattle.chains.proofs.sweep_rest.Given as goal

abbrev pub invariant-loop-hi : goal.invariant-loop-hi
invariant-loop-hi l = (l.m ≤ l.hi) × (l.hi ≤ length l.initial.table) × Swept l.initial.table l.m l.t l.hi (length l.initial.table) l.table × (l.same ≡ true → Unmoved l.initial.table l.m l.t l.hi (length l.initial.table))

abbrev pub decreases-loop-hi : goal.decreases-loop-hi
decreases-loop-hi l = l.hi
