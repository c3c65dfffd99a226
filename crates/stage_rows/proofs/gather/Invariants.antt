use Rattle.stage_rows.proofs.Prelude.{◌≡◌, ◌≤◌, length, Gathered}
use Rattle.stage_rows.proofs.gather.Given as goal

abbrev pub invariant-loop-b : goal.invariant-loop-b
invariant-loop-b l = (1 ≤ l.b) × (l.b ≤ l.columns) × (length l.table ≡ length l.initial.table) × Gathered l.normal_widths l.b l.start l.unit l.initial.table l.table
