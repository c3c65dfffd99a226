-- `row_fill::fill_row` meets its contract.
use Rattle.row_fill.proofs.Prelude.{◌∙◌}
use Rattle.row_fill.proofs.Pushing.{widths_ready, widths_taken}
use Rattle.row_fill.proofs.fill_row.Goals as goal

pub push_widths-requires : goal.push_widths-requires
push_widths-requires c = let spread = c.spread in
    let kinds = c.place_pieces in
    widths_ready c.requires spread.ensures kinds.ensures (kinds.auto.unit ∙ spread.auto.unit)

pub returns : goal.returns
returns c = let pushed = c.push_widths.ensures in (widths_taken c.requires c.spread.ensures c.place_pieces.ensures pushed.0, pushed.1)
