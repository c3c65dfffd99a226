use Rattle.stages.proofs.Prelude.{◌-◌, length}
use Rattle.stages.proofs.Steps.{Going}
use Rattle.stages.proofs.along.Given as goal

abbrev pub invariant-loop-s : goal.invariant-loop-s
invariant-loop-s l = Going l.kinds l.left l.own l.initial.s l.s

abbrev pub decreases-loop-s : goal.decreases-loop-s
decreases-loop-s l = length l.kinds - l.s.next
