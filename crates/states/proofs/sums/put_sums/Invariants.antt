-- The loop's invariant: the sums of the digits up to e stand in the table's first words.
use Rattle.states.proofs.Prelude.{◌≡◌, ℕ, ◌≤◌, length, get_or, Sums}
use Rattle.states.proofs.sums.put_sums.Given as goal

abbrev pub invariant-loop-e : goal.invariant-loop-e
invariant-loop-e l = (l.e ≤ l.d) × (length l.table ≡ length l.initial.table) × Sums l.blocks l.e (get_or l.blocks l.e 0) l.table × ((i : ℕ) → l.words ≤ i → get_or l.table i 0 ≡ get_or l.initial.table i 0)
