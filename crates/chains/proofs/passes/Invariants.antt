use Rattle.chains.proofs.Prelude.{◌≤◌, Repeated}
use Rattle.chains.proofs.passes.Given as goal

abbrev pub invariant-loop-c : goal.invariant-loop-c
invariant-loop-c l = (l.c ≤ l.copies) × Repeated l.c l.initial.table l.m l.t l.o l.u l.table
