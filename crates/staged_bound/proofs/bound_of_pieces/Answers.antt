-- `staged_bound::bound_of_pieces` meets its contract.
use Rattle.staged_bound.proofs.Prelude.{◌≡◌, refl, ◌∙◌, ap, ap₂, subst, ◌+◌, ◌-◌, ◌*◌, max, arith, get_or, Length, Width, rect_of, block, listed_weight, pieces_job, words_needed, staged_words, size_job, StagedBy, ready_laid, last_laid, fillable, report_is}
use Rattle.staged_bound.proofs.Storage.{all_words, reported}
use Rattle.staged_bound.proofs.Listed.{block_last, last_word, before_word, one_less}
use Rattle.staged_bound.proofs.bound_of_pieces.Goals as goal

pub fill_table-requires : goal.fill_table-requires
fill_table-requires c =
    let J = pieces_job (rect_of c.args.plate) c.args.count c.args.pieces.now in
    let is = ready_laid c.lay_out.ensures c.in_ok-size.was in
    let counted : c.in_ok-size.field-0.words ≡ staged_words J c.args.q c.args.limit = is.words_are ∙ all_words J c.args.limit c.args.q in
    record {
      fillable = fillable c.lay_out.ensures c.in_ok-size.was c.requires.0.in_range c.requires.0.most (omega arith);
      within = c.requires.0.limit;
      all = rw is.size_is (omega (arith, counted, is.room_there));
    }

pub overflow_sub-last : goal.overflow_sub-last
overflow_sub-last c = (last_laid c.lay_out.ensures c.in_ok-size.was (omega arith)).0

pub overflow_sub-before : goal.overflow_sub-before
overflow_sub-before c =
    let J = pieces_job (rect_of c.args.plate) c.args.count c.args.pieces.now in
    let is = ready_laid c.lay_out.ensures c.in_ok-size.was in
    let counted : c.in_ok-size.field-0.words ≡ staged_words J c.args.q c.args.limit = is.words_are ∙ all_words J c.args.limit c.args.q in
    let one : c.words.result ≡ words_needed J c.args.q = c.words.ensures ∙ ap (λ z. z.rows * z.columns * (c.args.q + 1)) is.size_is in
    omega (arith, one, counted, one_less J c.args.limit c.args.q c.requires.0.limit.0)

pub offset_bounds-table-before : goal.offset_bounds-table-before
offset_bounds-table-before c = let last = last_laid c.lay_out.ensures c.in_ok-size.was (omega arith) in omega (arith, last.1)

pub bounds-table-before : goal.bounds-table-before
bounds-table-before c = let last = last_laid c.lay_out.ensures c.in_ok-size.was (omega arith) in omega (arith, c.fill_table.ensures.1.0, last.1)

pub offset_bounds-table-last : goal.offset_bounds-table-last
offset_bounds-table-last c = let last = last_laid c.lay_out.ensures c.in_ok-size.was (omega arith) in omega (arith, last.1)

pub bounds-table-last : goal.bounds-table-last
bounds-table-last c = let last = last_laid c.lay_out.ensures c.in_ok-size.was (omega arith) in omega (arith, c.fill_table.ensures.1.0, last.1)

pub returns : goal.returns
returns c =
    let e = c.args in
    let J = pieces_job (rect_of e.plate) e.count e.pieces.now in
    let is = ready_laid c.lay_out.ensures c.in_ok-size.was in
    let table = c.fill_table.new.table in
    let counted : c.in_ok-size.field-0.words ≡ staged_words J e.q e.limit = is.words_are ∙ all_words J e.limit e.q in
    let one : c.words.result ≡ words_needed J e.q = c.words.ensures ∙ ap (λ z. z.rows * z.columns * (e.q + 1)) is.size_is in
    let filled = subst (λ z. StagedBy (size_job z e.pieces.now) (listed_weight e.pieces.now) e.limit z.capacity e.table.now table) is.size_is c.fill_table.ensures in
    let width_first : get_or table (c.in_ok-size.field-0.words - 1) 0 ≡ block J (listed_weight e.pieces.now) e.limit Width e.plate.length e.plate.width e.q =
    ap (λ n. get_or table (n - 1) 0) counted ∙ ap (λ i. get_or table i 0) (last_word J e.limit e.q c.requires.0.limit.0)
    ∙ block_last J (listed_weight e.pieces.now) c.requires.0.in_range e.limit e.q table filled.0 Width in
    let length_first : get_or table (c.in_ok-size.field-0.words - 1 - c.words.result) 0 ≡ block J (listed_weight e.pieces.now) e.limit Length e.plate.length e.plate.width e.q =
    ap₂ (λ n m. get_or table (n - 1 - m) 0) counted one ∙ ap (λ i. get_or table i 0) (before_word J e.limit e.q c.requires.0.limit.0)
    ∙ block_last J (listed_weight e.pieces.now) c.requires.0.in_range e.limit e.q table filled.0 Length in
    reported _ _ _ _ c.lay_out.ensures c.in_ok-size.was (report_is (c.max.ensures ∙ ap₂ max length_first width_first) refl (ap (λ z. z.rows) is.size_is) (ap (λ z. z.columns) is.size_is)) filled
