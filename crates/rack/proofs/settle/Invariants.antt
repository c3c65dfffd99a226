-- Before plate i the plates below it are paid.
use Rattle.rack.proofs.Prelude.{◌≡◌, ◌-◌, ◌≤◌, length, paid}
use Rattle.rack.proofs.settle.Given as goal

abbrev pub invariant-loop-i : goal.invariant-loop-i
invariant-loop-i l = record {
  inside : l.i ≤ length l.initial.rack;
  end : l.i-end ≡ length l.initial.rack;
  written : l.rack ≡ paid l.initial.rack l.profits l.i;
}

abbrev pub decreases-loop-i : goal.decreases-loop-i
decreases-loop-i l = l.i-end - l.i
