-- What the proofs of this crate take from libraries and from other crates, named once.
pub use Prim.Native.Nat.{◌*◌, ◌+◌, ◌-◌, ◌<◌, ◌≤◌, max, suc, ℕ}
pub use borrow.Author.Count.{below_more}
pub use borrow.Author.Rules.{rules}
pub use lib.Dec.{leb, leb→le, le→leb}
pub use lib.ListN.{drop, get_or, length, length-set, set}
pub use lib.Seq.{get_or-set_other, get_or-set_same}
pub use mathlib.Core.List.{List}
pub use mathlib.Core.Path.{◌∙◌, ◌≡◌, ap, ap₂, refl, subst, sym}
pub use native.Mathlib.Decide.{ℕ_discrete}
pub use native.Mathlib.Nat.{mul-le-mul, mul-le-mul_right}
pub use native.Mathlib.Omega.{arith}
pub use Rattle.cutting.proofs.Members.{table_lies}
pub use Rattle.cutting.specs.Job.{Job}
pub use Rattle.cutting.specs.Listed.{InTableRange, listed_weight}
pub use Rattle.cutting.specs.Pieces.{upright}
pub use Rattle.cutting.specs.Staged.{block}
pub use Rattle.promises.specs.declared.Direction.{Direction}
pub use Rattle.promises.specs.declared.Direction.TheVariants.{Length, Width}
pub use Rattle.row_fill.proofs.Filling.{zeros_capped}
pub use Rattle.row_fill.proofs.Pushing.{joins_more, widths_ready}
pub use Rattle.row_fill.proofs.Taken.{cut_low, cut_taken, each, half_found, positions_entries, push_taken, side_taken}
pub use Rattle.row_fill.specs.Raised.{Pieces, Raised}
pub use Rattle.row_fill.specs.Ready.{Capped, Laid, LengthsReady, RowReady, WidthsReady, ceiling}
pub use Rattle.row_fill.specs.Rows.{Entries, Joins, LengthsTaken, Rows, Spread, Widened}
pub use Rattle.table.proofs.Complete.{singles}
pub use Rattle.table.proofs.Figures.{entry_is, entry_side, positions_axis}
pub use Rattle.table.proofs.Halves.{half_cuts, half_next, half_ready}
pub use Rattle.table.proofs.Staged.{block_ceiling, block_complete, block_larger, block_low, block_number_apart, block_number_below, block_one, block_prior, block_single, block_uncut, sided, sided_joins}
pub use Rattle.table.proofs.Weighed.{plain_order}
pub use Rattle.table.proofs.Words.{cell_before, outside_none, run_more, run_none, words_past}
pub use Rattle.table.specs.Clauses.{Fillable, Positions, StagedBy, StagedFillable, size_job}
pub use Rattle.table.specs.Staged.{StagedFigures, block_number, staged_word, staged_words}
pub use Rattle.table.specs.States.{block_at}
pub use Rattle.table.specs.Words.{Half, HalfReady, Outside, Run}
pub use Rattle.table.specs.declared.TableSize.{TableSize}
pub use Rattle.stage_rows.specs.Blocks.{Gathered, GreaterReady, LengthBlock, LengthRow, LengthsLent, Rising, UncutBlock, UncutCells, UncutLent, UncutRow, WidenReady, WidenedRow, WidthBlock, WidthsLent}
