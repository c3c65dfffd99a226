-- Before plate i the sides of the plates below it are read.
use Rattle.rack.proofs.Prelude.{◌≡◌, ◌-◌, ◌≤◌, length, take, map}
use Rattle.rack.proofs.read_sides.Given as goal

abbrev pub invariant-loop-i : goal.invariant-loop-i
invariant-loop-i l = record {
  inside : l.i ≤ length l.rack;
  end : l.i-end ≡ length l.rack;
  lengths : take l.i l.lengths ≡ map (λ p. p.length) (take l.i l.rack);
  widths : take l.i l.widths ≡ map (λ p. p.width) (take l.i l.rack);
}

abbrev pub decreases-loop-i : goal.decreases-loop-i
decreases-loop-i l = l.i-end - l.i
