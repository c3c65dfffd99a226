use Rattle.table.proofs.Prelude.{◌≡◌, ℕ, ◌-◌, ◌*◌, ◌≤◌, ◌<◌, get_or}
use Rattle.table.proofs.half.Given as goal

abbrev pub invariant-loop-half_end : goal.invariant-loop-half_end
invariant-loop-half_end l = (1 ≤ l.half_end) × (l.half_end ≤ l.b) × (l.whole ≡ get_or l.positions l.b 0) × (l.whole < 65536) × ((i : ℕ) → 1 ≤ i → i < l.half_end → 2 * get_or l.positions i 0 ≤ get_or l.positions l.b 0)

abbrev pub decreases-loop-half_end : goal.decreases-loop-half_end
decreases-loop-half_end l = l.b - l.half_end
