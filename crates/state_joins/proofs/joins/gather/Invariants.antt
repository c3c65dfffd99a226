-- The loop's invariant: of the first k entries, those to be read are gathered.
use Rattle.state_joins.proofs.Prelude.{◌≡◌, ◌≤◌, length}
use Rattle.state_joins.proofs.Joining.{Gathering}
use Rattle.state_joins.proofs.joins.gather.Given as goal

abbrev pub invariant-loop-k : goal.invariant-loop-k
invariant-loop-k l = (l.k ≤ l.words) × (length l.list ≡ 512) × Gathering l.skip l.second l.k l.n l.table l.list
