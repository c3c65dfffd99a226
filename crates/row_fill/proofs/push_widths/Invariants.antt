use Rattle.row_fill.proofs.Prelude.{◌≡◌, ◌≤◌, length, Capped}
use Rattle.row_fill.proofs.Pushing.{Widening}
use Rattle.row_fill.proofs.push_widths.Given as goal

abbrev pub invariant-loop-b : goal.invariant-loop-b
invariant-loop-b l = (1 ≤ l.b) × (l.b ≤ l.columns) × (length l.table ≡ length l.initial.table) × (length l.unit ≡ length l.initial.unit) × Widening l.normal_widths l.columns l.start l.b l.initial.unit l.unit l.initial.table l.table × Capped l.unit
