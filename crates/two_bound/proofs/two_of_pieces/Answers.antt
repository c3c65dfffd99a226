-- `two_bound::two_of_pieces` meets its contract.
use Rattle.two_bound.proofs.Prelude.{refl, ◌∙◌, ap, subst, ◌-◌, arith, get_or, rect_of, listed_weight, pieces_job, figure_pair, size_job, TwoBy, ready_laid, last_laid, fillable}
use Rattle.two_bound.proofs.Storage.{report_is, pair_words, reported}
use Rattle.two_bound.proofs.Listed.{pair_last}
use Rattle.two_bound.proofs.two_of_pieces.Goals as goal

pub fill_pairs-requires : goal.fill_pairs-requires
fill_pairs-requires c =
    let e = c.args in
    let J = pieces_job (rect_of e.plate) e.count e.pieces.now in
    let is = ready_laid c.lay_out.ensures c.in_ok-size.was in
    record {
      fillable = fillable c.lay_out.ensures c.in_ok-size.was c.requires.in_range c.requires.most (omega arith);
      pairs = rw is.size_is c.requires.pairs;
      all = rw is.size_is (omega (arith, is.words_are, is.room_there, pair_words J e.most.first e.most.second));
    }

pub overflow_sub-result : goal.overflow_sub-result
overflow_sub-result c = (last_laid c.lay_out.ensures c.in_ok-size.was (omega arith)).0

pub offset_bounds-table-words : goal.offset_bounds-table-words
offset_bounds-table-words c = let last = last_laid c.lay_out.ensures c.in_ok-size.was (omega arith) in omega (arith, last.1)

pub bounds-table-words : goal.bounds-table-words
bounds-table-words c = let last = last_laid c.lay_out.ensures c.in_ok-size.was (omega arith) in omega (arith, c.fill_pairs.ensures.1.0, last.1)

pub returns : goal.returns
returns c =
    let e = c.args in
    let J = pieces_job (rect_of e.plate) e.count e.pieces.now in
    let is = ready_laid c.lay_out.ensures c.in_ok-size.was in
    let table = c.fill_pairs.new.table in
    let f = subst (λ z. TwoBy (size_job z e.pieces.now) (figure_pair (size_job z e.pieces.now) z.capacity e.most.second (listed_weight e.pieces.now)) z.capacity e.most.second e.table.now table) is.size_is c.fill_pairs.ensures in
    reported _ _ _ _ c.lay_out.ensures c.in_ok-size.was
    (report_is (ap (λ n. get_or table (n - 1) 0) (is.words_are ∙ pair_words J e.most.first e.most.second) ∙ pair_last J c.requires.in_range (listed_weight e.pieces.now) e.most.first e.most.second table f.0) refl refl (ap (λ z. z.rows) is.size_is) (ap (λ z. z.columns) is.size_is)) f
