-- What the proofs of this crate take from libraries and from other crates, named once.
pub use Prim.Native.Nat.{◌*◌, ◌+◌, ◌-◌, ◌<◌, ◌≤◌, max, min, suc, zero, ℕ}
pub use borrow.Author.Count.{below_more}
pub use borrow.Author.Rules.{rules}
pub use lib.Dec.{T, leb, leb→le, le→leb}
pub use lib.ListN.{get_or-eq_default as List·getD-eq-default, drop, get_or, get_or-replicate, length, length-replicate, length-set, replicate, set}
pub use lib.Seq.{get_or-set_other, get_or-set_same}
pub use mathlib.Core.List.{List}
pub use mathlib.Core.Logic.{◌⊎◌, inl, inr, ⊎_elim}
pub use mathlib.Core.Path.{◌∙◌, ◌≡◌, ap, ap₂, refl, sym}
pub use native.Mathlib.Decide.{dec_le, ℕ_discrete}
pub use native.Mathlib.Nat.{mul-le-mul_right}
pub use native.Mathlib.Omega.{arith}
pub use Rattle.cutting.proofs.Members.{table_lies}
pub use Rattle.cutting.proofs.Table.{positions_first, positions_length, positions_some}
pub use Rattle.cutting.specs.Job.{Job, figure_of}
pub use Rattle.cutting.specs.Listed.{InTableRange, listed_weight, price_in, size_in}
pub use Rattle.cutting.specs.Pieces.{upright}
pub use Rattle.cutting.specs.Tree.{side}
pub use Rattle.promises.specs.declared.Direction.{Direction}
pub use Rattle.promises.specs.declared.Direction.TheVariants.{Length, Width}
pub use Rattle.table.proofs.Across.{across, across_joins, more_side, no_side, piece_most, state_low, two_parts}
pub use Rattle.table.proofs.Complete.{complete, side_covered}
pub use Rattle.table.proofs.Figures.{entry_is, entry_side, positions_axis}
pub use Rattle.table.proofs.Halves.{half_below, half_cuts, half_more, half_next, half_parts, half_ready, remainder_is}
pub use Rattle.table.proofs.Weighed.{figure_one, plain_order}
pub use Rattle.table.proofs.Words.{cell_before, outside_none, run_more, run_none, words_past}
pub use Rattle.table.specs.Clauses.{Fillable, FilledBy, Positions, size_job}
pub use Rattle.table.specs.States.{Covers, figure_at}
pub use Rattle.table.specs.Table.{Figures, Kept, words_needed}
pub use Rattle.table.specs.Words.{Axis, Half, HalfReady, Outside, Run, remainder}
pub use Rattle.table.specs.declared.TableSize.{TableSize}
pub use Rattle.row_fill.specs.Raised.{Alone, CellPush, LengthCuts, Pieces, Pushed, Raised, Single, Sums}
pub use Rattle.row_fill.specs.Ready.{Capped, Laid, LengthsReady, RowReady, SumsReady, WidthsReady, ceiling}
pub use Rattle.row_fill.specs.Rows.{Entries, Joins, LengthsTaken, Rows, Spread, Widened, WidthCuts, WidthsTaken}
