use Rattle.rack.proofs.Prelude.{◌≡◌, ◌-◌, ◌≤◌, length, Decides, plate_at, plate_check}
use Rattle.rack.proofs.check_sides.Given as goal

abbrev pub invariant-loop-i : goal.invariant-loop-i
invariant-loop-i l = (l.i ≤ length l.lengths) × (l.i-end ≡ length l.lengths) × Decides (plate_check (plate_at l.lengths l.widths)) (length l.lengths) l.i

abbrev pub decreases-loop-i : goal.decreases-loop-i
decreases-loop-i l = l.i-end - l.i
