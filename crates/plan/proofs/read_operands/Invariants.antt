use Rattle.plan.proofs.Prelude.{◌≡◌, map, ◌+◌, ◌*◌, ◌-◌, ◌≤◌, length, take, range, u16_at}
use Rattle.plan.proofs.read_operands.Given as goal

abbrev pub invariant-loop-i : goal.invariant-loop-i
invariant-loop-i l = (l.i ≤ l.count) × (length l.operands ≡ 4095) × (take l.i l.operands ≡ map (λ k. u16_at l.plan (2 + l.count + 2 * k)) (range 0 l.i))

abbrev pub decreases-loop-i : goal.decreases-loop-i
decreases-loop-i l = l.count - l.i
