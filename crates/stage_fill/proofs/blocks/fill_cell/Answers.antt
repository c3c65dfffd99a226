-- `stage_fill::blocks::fill_cell` meets its contract: each kind of cell is one law.
use Rattle.stage_fill.proofs.Prelude.{arith, refl, inl, inr, second_floors}
use Rattle.stage_fill.proofs.Numbers.{cell_room, few_cells, few_blocks, few_words, zero_done, uncut_asks, uncut_done, few_source, few_source_words, length_line, length_fits, length_asks, length_done, width_line, width_fits, width_asks, width_done}
use Rattle.stage_fill.proofs.blocks.fill_cell.Goals.{then-a-eq0-via-then-a-eq0, then-a-eq0-via-else-a-eq0+then-b-eq0}
use Rattle.stage_fill.proofs.blocks.fill_cell.Goals as goal

pub overflow_mul-cells : goal.overflow_mul-cells
overflow_mul-cells c = omega (arith, few_cells c.requires.0.lent c.requires.0.counted)

pub overflow_mul-at : goal.overflow_mul-at
overflow_mul-at c = omega (arith, few_blocks c.requires.0 c.requires.1 c.requires.2 c.number.result c.number.ensures)

pub overflow_add-at : goal.overflow_add-at
overflow_add-at c = omega (arith, few_blocks c.requires.0 c.requires.1 c.requires.2 c.number.result c.number.ensures, few_cells c.requires.0.lent c.requires.0.counted)

pub overflow_mul-at-2 : goal.overflow_mul-at-2
overflow_mul-at-2 c = omega (arith, few_words c.requires.0 c.requires.1 c.requires.2 c.number.result c.number.ensures)

pub set_run-requires : goal.set_run-requires
set_run-requires c = rw c.number.ensures (cell_room c.requires.0 c.requires.1 c.requires.2)

pub returns-then-a-eq0 : goal.returns-then-a-eq0
returns-then-a-eq0 c = zero_done c.requires.0 c.requires.1 c.requires.2 c.number.result c.number.ensures _ _ refl refl (elim c.then-a-eq0.branch [
  | then-a-eq0-via-then-a-eq0 w ↦ inl w.if-a-eq0.true
  | then-a-eq0-via-else-a-eq0+then-b-eq0 w ↦ inr w.if-b-eq0.true
]) c.set_run.ensures

pub make_uncut-requires : goal.make_uncut-requires
make_uncut-requires c = uncut_asks c.requires.0 c.requires.1 c.requires.2 c.number.result c.number.ensures _ _ refl refl c.if-block-eq0.true c.if-a-eq0.false c.if-b-eq0.false c.requires.0.lent.range.kinds

pub returns-then-block-eq0 : goal.returns-then-block-eq0
returns-then-block-eq0 c = uncut_done c.requires.0 c.requires.1 c.requires.2 c.number.result c.number.ensures _ _ refl refl c.if-block-eq0.true c.if-a-eq0.false c.if-b-eq0.false (rw (c.from-l.ensures, c.from-w.ensures) at c.make_uncut.ensures)

pub overflow_mul-source : goal.overflow_mul-source
overflow_mul-source c = omega (arith, few_source c.requires.0 c.requires.1 c.requires.2 c.number.result c.number.ensures _ _ refl refl c.number-2.result (rw c.other.ensures at c.number-2.ensures) (omega (arith, c.if-block-eq0.false)) c.if-a-eq0.false c.if-b-eq0.false)

pub overflow_add-source : goal.overflow_add-source
overflow_add-source c = omega (arith, few_source c.requires.0 c.requires.1 c.requires.2 c.number.result c.number.ensures _ _ refl refl c.number-2.result (rw c.other.ensures at c.number-2.ensures) (omega (arith, c.if-block-eq0.false)) c.if-a-eq0.false c.if-b-eq0.false)

pub overflow_mul-source-2 : goal.overflow_mul-source-2
overflow_mul-source-2 c = omega (arith, few_source_words c.requires.0 c.requires.1 c.requires.2 c.number.result c.number.ensures _ _ refl refl c.number-2.result (rw c.other.ensures at c.number-2.ensures) (omega (arith, c.if-block-eq0.false)) c.if-a-eq0.false c.if-b-eq0.false)

pub line_to-line-requires : goal.line_to-line-requires
line_to-line-requires c = length_line c.requires.0 c.requires.1 c.requires.2 c.number.result c.number.ensures _ _ refl refl c.number-2.result (rw c.other.ensures at c.number-2.ensures) (omega (arith, c.if-block-eq0.false)) c.if-a-eq0.false c.if-b-eq0.false c.in-Length.is

pub overflow_sub-narrower : goal.overflow_sub-narrower
overflow_sub-narrower c = length_fits c.requires.0 c.requires.1 c.requires.2 c.number.result c.number.ensures _ _ refl refl c.number-2.result (rw c.other.ensures at c.number-2.ensures) (omega (arith, c.if-block-eq0.false)) c.if-a-eq0.false c.if-b-eq0.false c.in-Length.is

pub make_later-requires : goal.make_later-requires
make_later-requires c = length_asks c.requires.0 c.requires.1 c.requires.2 c.number.result c.number.ensures _ _ refl refl c.number-2.result (rw c.other.ensures at c.number-2.ensures) (omega (arith, c.if-block-eq0.false)) c.if-a-eq0.false c.if-b-eq0.false c.in-Length.is c.line_to-line.ensures

pub returns-in-Length : goal.returns-in-Length
returns-in-Length c = length_done c.requires.0 c.requires.1 c.requires.2 c.number.result c.number.ensures _ _ refl refl c.number-2.result (rw c.other.ensures at c.number-2.ensures) (omega (arith, c.if-block-eq0.false)) c.if-a-eq0.false c.if-b-eq0.false c.in-Length.is c.line_to-line.ensures c.make_later.ensures

pub line_to-line-requires-in-Width : goal.line_to-line-requires-in-Width
line_to-line-requires-in-Width c = width_line c.requires.0 c.requires.1 c.requires.2 c.number.result c.number.ensures _ _ refl refl c.number-2.result (rw c.other.ensures at c.number-2.ensures) (omega (arith, c.if-block-eq0.false)) c.if-a-eq0.false c.if-b-eq0.false c.in-Width.is

pub overflow_sub-shorter : goal.overflow_sub-shorter
overflow_sub-shorter c = width_fits c.requires.0 c.requires.1 c.requires.2 c.number.result c.number.ensures _ _ refl refl c.number-2.result (rw c.other.ensures at c.number-2.ensures) (omega (arith, c.if-block-eq0.false)) c.if-a-eq0.false c.if-b-eq0.false c.in-Width.is

pub make_later-requires-in-Width : goal.make_later-requires-in-Width
make_later-requires-in-Width c = rw (second_floors c.args.floors.now) (width_asks c.requires.0 c.requires.1 c.requires.2 c.number.result c.number.ensures _ _ refl refl c.number-2.result (rw c.other.ensures at c.number-2.ensures) (omega (arith, c.if-block-eq0.false)) c.if-a-eq0.false c.if-b-eq0.false c.in-Width.is c.line_to-line-in-Width.ensures)

pub returns-in-Width : goal.returns-in-Width
returns-in-Width c = width_done c.requires.0 c.requires.1 c.requires.2 c.number.result c.number.ensures _ _ refl refl c.number-2.result (rw c.other.ensures at c.number-2.ensures) (omega (arith, c.if-block-eq0.false)) c.if-a-eq0.false c.if-b-eq0.false c.in-Width.is c.line_to-line-in-Width.ensures (rw (second_floors c.args.floors.now) at c.make_later-in-Width.ensures)
