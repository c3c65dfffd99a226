-- The loop's invariant: the words below s are written, and each is at most its index.
use Rattle.states.proofs.Prelude.{◌≡◌, ℕ, ◌≤◌, ◌<◌, length, get_or, Stepped}
use Rattle.states.proofs.sums.add_steps.Given as goal

abbrev pub invariant-loop-s : goal.invariant-loop-s
invariant-loop-s l = (l.size ≤ l.s) × (l.s ≤ l.end) × (length l.table ≡ length l.initial.table) × ((j : ℕ) → j < l.s → get_or l.table j 0 ≤ j) × Stepped l.size l.s l.initial.table l.table
