-- What the proofs of this crate take from libraries and from other crates, named once.
pub use Prim.Native.Nat.{◌%◌, ◌*◌, ◌+◌, ◌-◌, ◌/◌, ◌<◌, ◌≤◌, max, suc, zero, ℕ}
pub use borrow.Author.Rules.{rules}
pub use lib.Dec.{T, leb, leb→le, le→leb}
pub use lib.ListN.{drop, get_or, length}
pub use mathlib.Core.List.{List, [], ◌∷◌}
pub use mathlib.Core.Logic.{◌⊎◌, inl, inr, ⊎_elim}
pub use mathlib.Core.Path.{◌∙◌, ◌≡◌, ap, ap₂, refl, subst, sym}
pub use native.Mathlib.Decide.{dec_le, ℕ_discrete}
pub use native.Mathlib.Nat.{div-add-mod', div-lt_iff_lt-mul, mod-lt, mul-le-mul, mul-le-mul_right}
pub use native.Mathlib.Omega.{arith}
pub use Rattle.cutting.proofs.Members.{table_lies}
pub use Rattle.cutting.proofs.Table.{positions_first, positions_length, positions_some}
pub use Rattle.cutting.specs.Job.{Job}
pub use Rattle.cutting.specs.Limits.{most_pieces, most_wide_figure}
pub use Rattle.cutting.specs.Listed.{InTableRange, listed_weight}
pub use Rattle.cutting.specs.Pieces.{upright}
pub use Rattle.cutting.specs.Shares.{other}
pub use Rattle.cutting.specs.Staged.{block}
pub use Rattle.cutting.specs.Tree.{side}
pub use Rattle.promises.specs.declared.Direction.{Direction}
pub use Rattle.promises.specs.declared.Direction.TheVariants.{Length, Width}
pub use Rattle.state_cells.proofs.Making.{covers_more, covers_same, covers_steps, level_later, level_past, side_low, side_taken, start_covers}
pub use Rattle.state_cells.specs.Cells.{Finished, FlaggedBelow, Level, Levelled, Steps}
pub use Rattle.state_cells.specs.Places.{CellsLent, job_in, shape_of}
pub use Rattle.state_cells.specs.declared.shape.Shape.{Shape}
pub use Rattle.state_fill.proofs.Filling.{lent_kept, lent_of}
pub use Rattle.state_fill.specs.Tables.{Bare, Counted, Plain}
pub use Rattle.state_joins.proofs.Joining.{held_kept, listed_kept, note_kept, ready_kept}
pub use Rattle.state_joins.specs.Joins.{Listed, Ready, Served}
pub use Rattle.state_joins.specs.declared.cuts.Line.{Line}
pub use Rattle.states.proofs.Growing.{outside_chain}
pub use Rattle.states.proofs.Noted.{figure_plain, figure_small, note_plain}
pub use Rattle.states.proofs.Ties.{one_digit}
pub use Rattle.states.proofs.Topping.{topped_then}
pub use Rattle.states.specs.States.{Flagged, Growing, Low, Rises, Summed, Topped, figure_in, held, note_in, under}
pub use Rattle.table.proofs.Complete.{singles}
pub use Rattle.table.proofs.Figures.{entry_is, entry_side, positions_axis}
pub use Rattle.table.proofs.Halves.{half_cuts, half_ready}
pub use Rattle.table.proofs.Staged.{block_above, block_ceiling, block_complete, block_larger, block_low, block_number_apart, block_number_below, block_number_source, block_one, block_single, block_uncut, sided, sided_above, sided_joins, sided_larger, sided_prior}
pub use Rattle.table.proofs.Weighed.{plain_order}
pub use Rattle.table.proofs.Words.{cell_before, second_floors, words_past}
pub use Rattle.table.specs.Clauses.{Positions, StagedBy, StagedFillable, size_job}
pub use Rattle.table.specs.Staged.{block_number, staged_word, staged_words}
pub use Rattle.table.specs.States.{Covers, block_at}
unfoldable pub use Rattle.table.specs.States.{below}
pub use Rattle.table.specs.Table.{position, position_count}
pub use Rattle.table.specs.Words.{Axis, Half, HalfReady, Outside, Run}
pub use Rattle.table.specs.declared.TableSize.{TableSize}
pub use Rattle.stage_fill.specs.Blocks.{Below, BlockLent, BlockMade, LineTo, Numbered, StagesLent, StagesMade, block_start, cell_number, staged_tabled}
pub use Rattle.stage_fill.specs.Cells.{LaterReady, LaterSteps, Made, States, UncutReady, UncutSteps}
pub use Rattle.stage_fill.specs.declared.blocks.Block.{Block}
