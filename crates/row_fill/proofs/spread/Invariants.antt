use Rattle.row_fill.proofs.Prelude.{◌≡◌, ◌≤◌, length, Spread}
use Rattle.row_fill.proofs.spread.Given as goal

abbrev pub invariant-loop-b : goal.invariant-loop-b
invariant-loop-b l = (l.b ≤ l.columns) × (length l.unit ≡ length l.initial.unit) × Spread l.normal_widths l.start l.b l.table l.initial.unit l.unit
