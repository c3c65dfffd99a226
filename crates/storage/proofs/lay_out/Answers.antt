-- `storage::lay_out` meets its contract.
use Rattle.storage.proofs.Prelude.{◌≡◌, ◌∙◌, ap₂, List, ℕ, ◌*◌, length, Length, Width, rect_of, Job, normal_positions, pieces_job, Holds, cell_words}
use Rattle.storage.proofs.Storage.{lists_long, lists_short, table_short, laid_out}
use Rattle.storage.proofs.Filled.{lengths_ready, widths_ready, lengths_listed, widths_listed, map_ready, size_is, both_mapped}
use Rattle.storage.proofs.lay_out.Goals as goal

pub returns-in_err-refuse_if : goal.returns-in_err-refuse_if
returns-in_err-refuse_if c = lists_short _ _ _ _ _ _ _ c.lists_short-short.ensures c.refuse_if.ensures c.in_err-refuse_if.was c.from_residual.ensures.1

pub normal_positions-rows-requires : goal.normal_positions-rows-requires
normal_positions-rows-requires c = let e = c.args in
    let room = lists_long (length e.normal_lengths.now) (length e.normal_widths.now) e.plate.length e.plate.width c.lists_short-short.ensures c.refuse_if.ensures c.in_ok-refuse_if.was in
    lengths_ready (rect_of e.plate) e.count e.pieces.now c.requires.0 room.0

pub normal_positions-columns-requires : goal.normal_positions-columns-requires
normal_positions-columns-requires c = let e = c.args in
    let room = lists_long (length e.normal_lengths.now) (length e.normal_widths.now) e.plate.length e.plate.width c.lists_short-short.ensures c.refuse_if.ensures c.in_ok-refuse_if.was in
    widths_ready (rect_of e.plate) e.count e.pieces.now c.requires.0 room.1

-- the words counted are those needed
counted : (J : Job) {p n : ℕ} {a b new_a new_b : List ℕ} (per_cell : ℕ) → Holds (normal_positions J Length) p a new_a → Holds (normal_positions J Width) n b new_b → p * n * per_cell ≡ cell_words J per_cell
counted J per_cell h w = ap₂ (λ p n. p * n * per_cell) h.number w.number

pub returns-in_err-refuse_if-2 : goal.returns-in_err-refuse_if-2
returns-in_err-refuse_if-2 c =
    let e = c.args in
    let h = lengths_listed (rect_of e.plate) e.count e.pieces.now c.normal_positions-rows.ensures in
    let w = widths_listed (rect_of e.plate) e.count e.pieces.now c.normal_positions-columns.ensures in
    table_short _ _ _ _ _ _ _ c.lists_short-short.ensures c.refuse_if.ensures c.in_ok-refuse_if.was h.contents w.contents (c.words-needed.ensures ∙ counted _ e.per_cell h w)
    c.refuse_if-2.ensures c.in_err-refuse_if-2.was c.from_residual-in_err-refuse_if-2.ensures.1

pub map_sides-requires : goal.map_sides-requires
map_sides-requires c =
    let e = c.args in
    let J = pieces_job (rect_of e.plate) e.count e.pieces.now in
    let h = lengths_listed (rect_of e.plate) e.count e.pieces.now c.normal_positions-rows.ensures in
    let w = widths_listed (rect_of e.plate) e.count e.pieces.now c.normal_positions-columns.ensures in
    (map_ready J Length h c.requires.0, map_ready J Width w c.requires.0, c.requires.1)

pub returns : goal.returns
returns c =
    let e = c.args in
    let r = rect_of e.plate in
    let h = lengths_listed r e.count e.pieces.now c.normal_positions-rows.ensures in
    let w = widths_listed r e.count e.pieces.now c.normal_positions-columns.ensures in
    laid_out _ _ _ _ _ _ _ c.lists_short-short.ensures c.refuse_if.ensures c.in_ok-refuse_if.was h.contents w.contents (c.words-needed.ensures ∙ counted _ e.per_cell h w)
    c.refuse_if-2.ensures c.in_ok-refuse_if-2.was (size_is r e.count e.pieces.now h w e.capacity) (both_mapped r e.count e.pieces.now h w e.capacity c.map_sides.ensures)
