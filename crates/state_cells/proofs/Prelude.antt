-- What the proofs of this crate take from libraries and from other crates, named once.
pub use Prim.Native.Nat.{◌*◌, ◌+◌, ◌-◌, ◌<◌, ◌≤◌, max, min, suc, zero, ℕ}
pub use borrow.Author.Rules.{rules}
pub use lib.Dec.{T}
pub use lib.ListN.{get_or, length, length-drop, length-set, set}
pub use lib.Seq.{get_or-set_other, get_or-set_same}
pub use mathlib.Core.Bool.{Bool}
pub use mathlib.Core.List.{List, [], ◌∷◌}
pub use mathlib.Core.Logic.{◌⊎◌, inl, inr, ⊎_elim}
pub use mathlib.Core.Path.{◌∙◌, ◌≡◌, ap, ap₂, refl, subst, sym}
pub use native.Mathlib.Decide.{dec_le, ℕ_discrete}
pub use native.Mathlib.Nat.{mul-le-mul}
pub use native.Mathlib.Omega.{arith}
pub use Rattle.cutting.proofs.Members.{table_lies}
pub use Rattle.cutting.proofs.Table.{positions_length}
pub use Rattle.cutting.specs.Job.{Job}
pub use Rattle.cutting.specs.Limits.{most_wide_figure}
pub use Rattle.cutting.specs.Listed.{InTableRange, listed_weight}
pub use Rattle.cutting.specs.Pieces.{upright}
pub use Rattle.promises.specs.declared.Direction.{Direction}
pub use Rattle.promises.specs.declared.Direction.TheVariants.{Length, Width}
pub use Rattle.state_joins.proofs.Joining.{entry_state, held_kept, listed_kept, note_kept, past_end}
pub use Rattle.state_joins.specs.Joins.{CutAt, Cuttable, Marked, Ready, Served}
pub use Rattle.states.proofs.Carries.{summed_kept}
pub use Rattle.states.proofs.Growing.{growing_kept, grown_none, grown_then, last_state, order_of, outside_chain, outside_same, under_zero}
pub use Rattle.states.proofs.Noted.{figure_flagged, figure_noted, figure_plain, figure_small, mark_noted, note_flagged, note_noted, note_plain}
pub use Rattle.states.proofs.Ties.{one_digit}
pub use Rattle.states.proofs.Topping.{topped_set, topped_then}
pub use Rattle.states.specs.States.{Digits, Flagged, Growing, Grown, Low, Rises, Summed, Taken, Topped, cell, figure_in, held, mark, mark_in, note, note_in, under}
pub use Rattle.table.proofs.Across.{across, across_joins, more_side, piece_most, state_above, state_low}
pub use Rattle.table.proofs.Complete.{along, complete, side_covered}
pub use Rattle.table.proofs.Covered.{Joins}
pub use Rattle.table.proofs.Figures.{positions_axis}
pub use Rattle.table.proofs.Halves.{half_cuts, half_parts}
pub use Rattle.table.proofs.Words.{cell_before, run_more, run_none, second_floors}
pub use Rattle.table.specs.Clauses.{Positions}
pub use Rattle.table.specs.States.{Covers, Order}
unfoldable pub use Rattle.table.specs.States.{below}
pub use Rattle.table.specs.Table.{position_count}
pub use Rattle.table.specs.Words.{Cuts, Half, Outside, Run, remainder}
pub use Rattle.state_cells.specs.Cells.{Finished, FlaggedBelow, Inherited, Level, Levelled, Placed, Startable, Steps, Told}
pub use Rattle.state_cells.specs.Places.{Made, MadeTo, Short, Spot, SpotTo, job_in, reach_of, tabled}
