use Rattle.rack.proofs.Prelude.{◌-◌}
use Rattle.rack.proofs.Totals.{Adding}
use Rattle.rack.proofs.add_copies.Given as goal

abbrev pub invariant-loop-j : goal.invariant-loop-j
invariant-loop-j l = Adding l.count l.demands l.plate l.initial.totals l.own l.totals l.j

abbrev pub decreases-loop-j : goal.decreases-loop-j
decreases-loop-j l = l.count - l.j
