use Rattle.rounds.proofs.Prelude.{◌-◌, lent_all}
use Rattle.rounds.proofs.Run.{State}
use Rattle.rounds.proofs.run_rounds.Given as goal

abbrev pub invariant-loop-k : goal.invariant-loop-k
invariant-loop-k l = State l.block l.choices l.lower (lent_all l.initial.lengths l.initial.widths l.initial.table l.initial.kinds l.initial.operands) l.k (lent_all l.lengths l.widths l.table l.kinds l.operands) l.weights l.found

abbrev pub decreases-loop-k : goal.decreases-loop-k
decreases-loop-k l = 18 - l.k
