use Rattle.positions.proofs.Prelude.{◌≤◌, ◌≡◌, length, range, filter, normal?, Holds, Marked}
use Rattle.positions.proofs.list_sums.Given as goal

abbrev pub invariant-loop-x : goal.invariant-loop-x
invariant-loop-x l = (l.n ≤ l.x) × (length l.marks ≡ 1021) × Marked l.fit l.x l.marks × Holds (filter (normal? l.fit) (range 0 l.x)) l.n l.initial.out l.out
