-- What the proofs of this crate take from libraries and from other crates, named once.
pub use Prim.Native.Nat.{◌%◌, ◌*◌, ◌+◌, ◌-◌, ◌/◌, ◌<◌, ◌≤◌, max, suc, zero, ℕ}
pub use borrow.Author.Rules.{rules}
pub use borrow.Author.Tests.{eq-eqb, le-leb, le-ltb, lt-leb, lt-ltb, ne_eqb}
pub use lib.Dec.{T, eqb, eqb→eq, leb, leb→le, le→leb, ltb}
pub use lib.ListN.{get_or, length, length-set, set}
pub use lib.Seq.{get_or-set_other, get_or-set_same}
pub use mathlib.Core.Bool.{Bool, ◌&&◌, false, true}
pub use mathlib.Core.List.{List, [], ◌∷◌}
pub use mathlib.Core.Logic.{◌⊎◌, inl, inr}
pub use mathlib.Core.Path.{◌∙◌, ◌≡◌, ap, ap₂, refl, subst, sym}
pub use native.Mathlib.Decide.{dec_le, ℕ_discrete}
pub use native.Mathlib.Nat.{div-add-mod', div-eq_of_lt, div-lt_iff_lt-mul, mod-eq_of_lt, mod-le, mod-lt, mul-add-div_right, mul-add-mod_self_right, mul-le-mul_right}
pub use native.Mathlib.Omega.{arith}
pub use Rattle.cutting.proofs.Exact.{figure_within}
pub use Rattle.cutting.proofs.Pairs.{exact_within, paired_within, within_exact, within_paired}
pub use Rattle.cutting.proofs.Saws.{saw_proper}
pub use Rattle.cutting.proofs.Tests.{T_and, and_T, eqb_same}
pub use Rattle.cutting.proofs.Weights.{weight_within, within_weight}
pub use Rattle.cutting.specs.Figure.{figure}
pub use Rattle.cutting.specs.Job.{Job, by_kind, figure_of, pieces}
pub use Rattle.cutting.specs.Lists.{only}
pub use Rattle.cutting.specs.Pieces.{Piece, kind}
pub use Rattle.cutting.specs.Saws.{saw}
pub use Rattle.cutting.specs.Shares.{by_weight, exact, paired, state}
pub use Rattle.cutting.specs.Tree.{Tree, Within, cut, piece, waste}
unfoldable pub use Rattle.cutting.specs.Tree.{total}
pub use Rattle.promises.specs.declared.Direction.TheVariants.{Length, Width}
pub use Rattle.table.proofs.Shares.{split_state, state_split}
pub use Rattle.table.proofs.Weighed.{figure_one, one_within, within_one}
pub use Rattle.table.specs.Clauses.{TwoBy}
pub use Rattle.table.specs.States.{Blocks, Covers, Order, figure_pair, pair_blocks, pair_state, two_weights}
unfoldable pub use Rattle.table.specs.States.{below, by_state, digit, figure_at, own_state}
pub use Rattle.table.specs.Table.{Figures, Kept, position, position_count, word, words_needed}
pub use Rattle.table.specs.Two.{pair_count, two_word, two_words}
pub use Rattle.table.specs.Words.{Outside, Run}
pub use Rattle.states.specs.States.{Digits, FirstRow, Flagged, Growing, Grown, Lift, Lifted, Low, Raised, Rises, Stepped, Summed, Sums, Taken, Topped, held, under}
unfoldable pub use Rattle.states.specs.States.{digit_sum, figure_in, mark_in, note_in}
