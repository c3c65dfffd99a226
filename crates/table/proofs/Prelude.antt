-- What the proofs of this crate take from libraries and from other crates, named once.
pub use Prim.Native.Nat.{◌%◌, ◌*◌, ◌+◌, ◌-◌, ◌/◌, ◌<◌, ◌≤◌, max, suc, zero, ℕ}
pub use borrow.Author.Count.{below_more}
pub use borrow.Author.Rules.{rules}
pub use lib.Dec.{T, leb, leb→le, le→leb}
pub use lib.ListN.{drop, get_or, length, length-drop, length-set, length-take, set, take}
pub use lib.Seq.{ext_get_or, get_or-drop, get_or-set_other, get_or-set_same, get_or-take, take_all}
pub use mathlib.Core.Bool.{Bool, ◌&&◌}
pub use mathlib.Core.List.{List, Memᴰ as List-as-Memᴰ}
pub use mathlib.Core.Logic.{◌⊎◌, inl, inr}
pub use mathlib.Core.Path.{◌∙◌, ◌≡◌, ap, refl, subst, sym}
pub use native.Mathlib.Decide.{dec_le, ℕ_discrete}
pub use native.Mathlib.Nat.{add-mul-mod_self_left, div-eq_of_lt-le, mod-eq_of_lt, mul-le-mul_right, not-suc-le-zero}
pub use native.Mathlib.Omega.{arith}
pub use Rattle.cutting.proofs.Ceiling.{figure_area}
pub use Rattle.cutting.proofs.Enlarge.{Enlarges, figure_mono}
pub use Rattle.cutting.proofs.Exact.{best_ge, figure_attained, figure_upper, figure_within, leaf_ge, step_ge}
pub use Rattle.cutting.proofs.Floor.{floor_le}
pub use Rattle.cutting.proofs.Greatest.{greatest_le}
pub use Rattle.cutting.proofs.Half.{half_figure}
pub use Rattle.cutting.proofs.Lists.{filter_mem, map_mem, mem_filter, mem_map, mem_range, range_mem}
pub use Rattle.cutting.proofs.Members.{lie_member, member_kind, member_lies, members_solid, table_solid, table_upright}
pub use Rattle.cutting.proofs.Pieces.{fits_in_true, true_fits_in, units_enlarge}
pub use Rattle.cutting.proofs.Recursion.{figure_eq}
pub use Rattle.cutting.proofs.Saws.{saw_cut, saw_proper}
pub use Rattle.cutting.proofs.Staged.{block_figure}
pub use Rattle.cutting.proofs.Stages.{staged_eq, staged_fewer, staged_half, staged_none, staged_within, within_staged}
pub use Rattle.cutting.proofs.Table.{positions_entry, positions_first, positions_normal, positions_rise, sides_suffice}
pub use Rattle.cutting.proofs.Tests.{T_and, only_positive}
pub use Rattle.cutting.proofs.Weights.{weight_within, within_weight}
pub use Rattle.cutting.specs.Figure.{figure}
unfoldable pub use Rattle.cutting.specs.Figure.{best, leaf, step}
pub use Rattle.cutting.specs.Job.{Job, MayLie, by_kind, laid, members, normal_floor, normal_side}
unfoldable pub use Rattle.cutting.specs.Job.{figure_of, pieces}
pub use Rattle.cutting.specs.Listed.{InTableRange}
pub use Rattle.cutting.specs.Lists.{filter, greatest, only, range}
pub use Rattle.cutting.specs.Pieces.{Piece, ◌⊑◌, fits_in, kind}
unfoldable pub use Rattle.cutting.specs.Pieces.{sized}
unfoldable pub use Rattle.cutting.specs.Saws.{saw, saw_half}
pub use Rattle.cutting.specs.Shares.{other, staged}
pub use Rattle.cutting.specs.Staged.{block}
pub use Rattle.cutting.specs.Tree.{Monotone, Pieces, Proper, Rect, Saw, Shares, Symmetric, Tree, Within, cut, part, piece, side, waste}
unfoldable pub use Rattle.cutting.specs.Tree.{total}
pub use Rattle.promises.specs.declared.Direction.{Direction}
pub use Rattle.promises.specs.declared.Direction.TheVariants.{Length, Width}
pub use Rattle.table.specs.Clauses.{Positions}
pub use Rattle.table.specs.Staged.{block_number}
pub use Rattle.table.specs.States.{Covers, Order}
unfoldable pub use Rattle.table.specs.States.{block_at, by_state, figure_at}
pub use Rattle.table.specs.Table.{Kept, position}
pub use Rattle.table.specs.Words.{Axis, Cuts, Half, HalfReady, Outside, Run, remainder}
