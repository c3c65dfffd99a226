use Rattle.rounds.proofs.Prelude.{◌≡◌, ℕ, ◌-◌, ◌≤◌, ◌<◌, length, get_or, pieces_in}
use Rattle.rounds.proofs.copies.count_copies.Given as goal

abbrev pub invariant-loop-i : goal.invariant-loop-i
invariant-loop-i l = (l.i ≤ l.nodes) × (length l.copies ≡ 64) × ((k : ℕ) → k < 64 → get_or l.copies k 0 ≡ pieces_in l.kinds l.operands l.i k)

abbrev pub decreases-loop-i : goal.decreases-loop-i
decreases-loop-i l = l.nodes - l.i
