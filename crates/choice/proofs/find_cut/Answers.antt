-- `choice::find_cut` meets its contract.
use Rattle.std.proofs.Common.{rules}
use Rattle.choice.proofs.Search.{row_starts, rows_end, row_ends, second_word, pair_fails, pair_passes}
use Rattle.choice.proofs.Prelude.{first_index, cut_found, under, arith, refl, ◌∙◌, sym, ap}
use Rattle.choice.proofs.find_cut.Goals as goal

pub search-init : goal.search-init
unfolding first_index
search-init c = (refl, refl)

pub overflow_mul-first : goal.overflow_mul-first
overflow_mul-first c = omega (arith, c.requires.0.rows c.search.i (omega arith) 0 (omega arith))

pub overflow_add-first : goal.overflow_add-first
overflow_add-first c = omega (arith, c.requires.0.rows c.search.i (omega arith) 0 (omega arith))

pub overflow_mul-second : goal.overflow_mul-second
overflow_mul-second c = omega (arith, second_word c.requires.0 c.search.i 0 refl refl (omega arith))

pub overflow_add-second : goal.overflow_add-second
overflow_add-second c = omega (arith, second_word c.requires.0 c.search.i 0 refl refl (omega arith))

pub overflow_add-second-in-search : goal.overflow_add-second-in-search
overflow_add-second-in-search c = omega (arith, second_word c.requires.0 c.search.i 0 refl refl (omega arith))

pub loop-k-init : goal.loop-k-init
loop-k-init c = (c.search.invariant.0, c.search.invariant.1 ∙ row_starts _ _ _ _ (search rules))

pub overflow_add-sum : goal.overflow_add-sum
overflow_add-sum c = omega (arith, c.requires.0.rows c.search.i (omega arith) c.loop-k.k (omega arith))

pub offset_bounds-table-first : goal.offset_bounds-table-first
offset_bounds-table-first c = omega (arith, c.requires.0.rows c.search.i (omega arith) c.loop-k.k (omega arith))

pub bounds-table-first : goal.bounds-table-first
bounds-table-first c = omega (arith, c.requires.0.rows c.search.i (omega arith) c.loop-k.k (omega arith))

pub offset_bounds-table-second : goal.offset_bounds-table-second
offset_bounds-table-second c = omega (arith, second_word c.requires.0 c.search.i c.loop-k.k refl refl (omega arith))

pub bounds-table-second : goal.bounds-table-second
bounds-table-second c = (second_word c.requires.0 c.search.i c.loop-k.k refl refl (omega arith)).1

pub overflow_add-sum-in-loop-k : goal.overflow_add-sum-in-loop-k
overflow_add-sum-in-loop-k c = omega (arith, c.requires.0.rows c.search.i (omega arith) c.loop-k.k (omega arith), second_word c.requires.0 c.search.i c.loop-k.k refl refl (omega arith))

pub loop-k-preserved : goal.loop-k-preserved
loop-k-preserved c = (c.loop-k.invariant.0, c.loop-k.invariant.1 ∙ pair_fails c.requires.0 (under c.args.blocks.now c.args.d) c.search.i c.loop-k.k refl refl (search rules) (sym c.pair_earns.ensures ∙ c.if-pair_earns.false))

pub search-preserved : goal.search-preserved
search-preserved c = (c.loop-k.invariant.0, c.loop-k.invariant.1 ∙ row_ends _ _ _ _ _ (search rules))

pub returns-after-search : goal.returns-after-search
returns-after-search c = c.search.invariant.0 ∙ sym (ap (cut_found c.args.positions.now) (c.search.invariant.1 ∙ rows_end _ _ _ _ (search rules)))

pub returns-then-pair_earns : goal.returns-then-pair_earns
returns-then-pair_earns c = sym (ap (cut_found c.args.positions.now)
    (c.loop-k.invariant.1 ∙ pair_passes c.requires.0 (under c.args.blocks.now c.args.d) c.search.i c.loop-k.k refl refl (search rules) (sym c.pair_earns.ensures ∙ c.if-pair_earns.true)))
