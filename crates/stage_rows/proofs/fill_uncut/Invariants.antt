use Rattle.stage_rows.proofs.Prelude.{◌≡◌, ◌≤◌, length, Capped, UncutBlock}
use Rattle.stage_rows.proofs.fill_uncut.Given as goal

abbrev pub invariant-loop-a : goal.invariant-loop-a
invariant-loop-a l = (1 ≤ l.a) × (l.a ≤ l.size.rows) × (length l.table ≡ length l.initial.table) × (length l.unit ≡ 1021) × Capped l.unit
    × UncutBlock l.size.width l.pieces l.size.count l.normal_lengths l.normal_widths l.a l.size.columns l.initial.table l.table
