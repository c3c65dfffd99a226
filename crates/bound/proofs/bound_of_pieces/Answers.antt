-- `bound::bound_of_pieces` meets its contract.
use Rattle.bound.proofs.Prelude.{refl, ◌∙◌, ap, subst, ◌-◌, arith, get_or, rect_of, listed_weight, pieces_job, size_job, FilledBy, ready_laid, last_laid, fillable}
use Rattle.bound.proofs.Storage.{reported, report_is}
use Rattle.bound.proofs.Last.{bound_last}
use Rattle.bound.proofs.bound_of_pieces.Goals as goal

pub fill_table-requires : goal.fill_table-requires
fill_table-requires c = fillable c.lay_out.ensures c.in_ok-size.was c.requires.in_range c.requires.most (omega arith)

pub overflow_sub-result : goal.overflow_sub-result
overflow_sub-result c = let last = last_laid c.lay_out.ensures c.in_ok-size.was (omega arith) in omega (arith, last.0)

pub offset_bounds-table-words : goal.offset_bounds-table-words
offset_bounds-table-words c = let last = last_laid c.lay_out.ensures c.in_ok-size.was (omega arith) in omega (arith, last.1)

pub bounds-table-words : goal.bounds-table-words
bounds-table-words c = let last = last_laid c.lay_out.ensures c.in_ok-size.was (omega arith) in omega (arith, c.fill_table.ensures.1.0, last.1)

pub returns : goal.returns
returns c =
    let e = c.args in
    let J = pieces_job (rect_of e.plate) e.count e.pieces.now in
    let is = ready_laid c.lay_out.ensures c.in_ok-size.was in
    let table = c.fill_table.new.table in
    let f = subst (λ s. FilledBy (size_job s e.pieces.now) (listed_weight e.pieces.now) s.capacity e.table.now table) is.size_is c.fill_table.ensures in
    reported _ _ _ c.lay_out.ensures c.in_ok-size.was
    (report_is (ap (λ n. get_or table (n - 1) 0) is.words_are ∙ bound_last J (listed_weight e.pieces.now) c.requires.in_range e.q table f.0) refl (ap (λ s. s.rows) is.size_is) (ap (λ s. s.columns) is.size_is)) f
