-- `stage_rows::uncut_row` meets its contract.
use Rattle.stage_rows.proofs.Prelude.{◌∙◌, widths_ready}
use Rattle.stage_rows.proofs.Uncut.{uncut_row}
use Rattle.stage_rows.proofs.uncut_row.Goals as goal

pub gather-requires : goal.gather-requires
gather-requires c = let spread = c.spread in
    let kinds = c.place_pieces in
    widths_ready c.requires spread.ensures kinds.ensures (kinds.auto.unit ∙ spread.auto.unit)

pub returns : goal.returns
returns c = let spread = c.spread in
    let kinds = c.place_pieces in
    let ready = c.requires in
    (uncut_row ready spread.ensures kinds.ensures c.gather.ensures, (widths_ready ready spread.ensures kinds.ensures (kinds.auto.unit ∙ spread.auto.unit)).laid.capped)
