-- `exact::states_of_pieces` meets its contract.
use Rattle.exact.proofs.Prelude.{refl, ◌∙◌, ap, subst, ◌+◌, ◌-◌, ◌*◌, arith, get_or, Length, Width, rect_of, listed_weight, pieces_job, position_count, Kept, size_job, under, Figures, digits_order, ready_laid, last_laid, fillable, report_is}
use Rattle.exact.proofs.Storage.{refused, reported, states_last}
use Rattle.exact.proofs.states_of_pieces.Goals as goal

pub fill_states-requires : goal.fill_states-requires
fill_states-requires c =
    let is = ready_laid c.lay_out.ensures c.in_ok-size.was in
    (fillable c.lay_out.ensures c.in_ok-size.was c.requires.in_range c.requires.most (omega arith), c.requires.digits, rw is.size_is (omega (arith, is.words_are, is.room_there)))

pub overflow_sub-result : goal.overflow_sub-result
overflow_sub-result c = let last = last_laid c.lay_out.ensures c.in_ok-size.was (omega arith) in omega (arith, last.0)

pub offset_bounds-table-words : goal.offset_bounds-table-words
offset_bounds-table-words c = let last = last_laid c.lay_out.ensures c.in_ok-size.was (omega arith) in omega (arith, last.1)

pub bounds-table-words : goal.bounds-table-words
bounds-table-words c = let last = last_laid c.lay_out.ensures c.in_ok-size.was (omega arith) in omega (arith, c.fill_states.ensures.1.0, last.1)

pub returns-in_err-size : goal.returns-in_err-size
returns-in_err-size c = refused _ _ _ c.lay_out.ensures c.in_err-size.was c.from_residual.ensures.1

pub returns : goal.returns
returns c = let e = c.args in
    let J = pieces_job (rect_of e.plate) e.count e.pieces.now in
    let is = ready_laid c.lay_out.ensures c.in_ok-size.was in
    let table = c.fill_states.new.table in
    let f = subst (λ z. Figures (size_job z e.pieces.now) (under e.blocks.now e.last.digit) (listed_weight e.pieces.now) (e.last.state + 1) table
    × Kept (position_count (size_job z e.pieces.now) Length * position_count (size_job z e.pieces.now) Width * (e.last.state + 1)) e.table.now table) is.size_is c.fill_states.ensures in
    let order = digits_order (λ i. get_or e.blocks.now i 0) e.last.digit c.requires.digits.digits in
    reported _ _ _ c.lay_out.ensures c.in_ok-size.was
    (report_is (ap (λ n. get_or table (n - 1) 0) is.words_are ∙ states_last J (under e.blocks.now e.last.digit) order (listed_weight e.pieces.now) c.requires.in_range e.last.state table f.0) refl (ap (λ z. z.rows) is.size_is) (ap (λ z. z.columns) is.size_is)) f
