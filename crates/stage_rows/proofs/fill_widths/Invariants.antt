use Rattle.stage_rows.proofs.Prelude.{◌≡◌, ◌≤◌, length, Capped, WidthBlock}
use Rattle.stage_rows.proofs.fill_widths.Given as goal

abbrev pub invariant-loop-a : goal.invariant-loop-a
invariant-loop-a l = (l.a ≤ l.a-end) × (length l.table ≡ length l.initial.table) × (length l.unit ≡ 1021) × Capped l.unit × WidthBlock l.normal_widths l.a l.columns l.source l.at l.initial.table l.table
