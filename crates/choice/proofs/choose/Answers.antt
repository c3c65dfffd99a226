-- `choice::choose` meets its contract.
use Rattle.choice.proofs.Choice.{sizes, there, cuts_searchable, none_chosen, piece_chosen, cut_taken}
use Rattle.choice.proofs.Prelude.{arith, get_or-drop, get_or, drop, List, ℕ, ◌+◌, ◌≡◌, refl, ◌∙◌, sym}
use Rattle.choice.proofs.choose.Goals as goal

-- the index of the tabled width stands past those of the lengths
column : (floors : List ℕ) (w : ℕ) → get_or floors (1021 + w) 0 ≡ get_or (drop 1021 floors) w 0
column floors w = sym (get_or-drop 1021 floors w 0)

pub overflow_add-value-2 : goal.overflow_add-value-2
overflow_add-value-2 c = rw (column c.args.floors.now c.args.cell.sides.width) (omega (arith, sizes c.requires.0 c.requires.1))

pub offset_bounds-table-a : goal.offset_bounds-table-a
offset_bounds-table-a c = rw (column c.args.floors.now c.args.cell.sides.width) (omega (arith, sizes c.requires.0 c.requires.1))

pub bounds-table-a : goal.bounds-table-a
bounds-table-a c = rw (column c.args.floors.now c.args.cell.sides.width) (there c.requires.0 c.requires.1)

pub returns-then-value-eq0 : goal.returns-then-value-eq0
returns-then-value-eq0 c = none_chosen c.requires.0 c.requires.1 refl (column c.args.floors.now c.args.cell.sides.width) refl c.if-value-eq0.true

pub returns-in-Some : goal.returns-in-Some
returns-in-Some c = piece_chosen c.requires.0 c.requires.1 refl (column c.args.floors.now c.args.cell.sides.width) refl c.if-value-eq0.false (sym c.find_piece.ensures ∙ c.in-Some.is)

pub choose_cut-requires : goal.choose_cut-requires
choose_cut-requires c =
    let ready = cuts_searchable c.requires.0 c.requires.1 _ refl (column c.args.floors.now c.args.cell.sides.width) in
    (ready.0, ready.1, c.requires.0.ordered)

pub returns : goal.returns
returns c = cut_taken c.requires.0 c.requires.1 refl (column c.args.floors.now c.args.cell.sides.width) refl c.if-value-eq0.false (sym c.find_piece.ensures ∙ c.in_default.is) c.choose_cut.ensures
