use Rattle.positions.proofs.Prelude.{◌+◌, ◌≤◌, ◌<◌, get_or, Floors}
use Rattle.positions.proofs.map_floors.Given as goal

abbrev pub invariant-loop-y : goal.invariant-loop-y
invariant-loop-y l = (l.i < l.count) × (get_or l.positions l.i 0 ≤ l.y) × (l.i + 1 < l.count → l.y ≤ get_or l.positions (l.i + 1) 0) × Floors l.positions l.count l.y l.floors
