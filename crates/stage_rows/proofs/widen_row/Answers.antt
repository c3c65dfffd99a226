-- `stage_rows::widen_row` meets its contract.
use Rattle.stage_rows.proofs.Widths.{widened_row}
use Rattle.stage_rows.proofs.widen_row.Goals as goal

pub returns : goal.returns
returns c = let pushed = c.push_widths.ensures in
    let row = widened_row c.requires c.spread.ensures pushed.0 in
    (row.0, row.1, pushed.1)
