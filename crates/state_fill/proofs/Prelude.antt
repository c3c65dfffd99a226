-- What the proofs of this crate take from libraries and from other crates, named once.
pub use Prim.Native.Nat.{◌%◌, ◌*◌, ◌+◌, ◌-◌, ◌/◌, ◌<◌, ◌≤◌, ℕ}
pub use borrow.Author.Rules.{rules}
pub use lib.ListN.{get_or, length, length-set}
pub use mathlib.Core.List.{List}
pub use mathlib.Core.Logic.{inl}
pub use mathlib.Core.Path.{◌∙◌, ◌≡◌, ap, ap₂, refl, subst, sym}
pub use native.Mathlib.Decide.{dec_le, ℕ_discrete}
pub use native.Mathlib.Nat.{div-add-mod', div-lt_iff_lt-mul, mod-lt, mul-le-mul_right}
pub use native.Mathlib.Omega.{arith}
pub use Rattle.cutting.proofs.Table.{positions_first, positions_some}
pub use Rattle.cutting.specs.Job.{Job}
pub use Rattle.cutting.specs.Listed.{InTableRange, listed_weight}
pub use Rattle.promises.specs.declared.Direction.TheVariants.{Length, Width}
pub use Rattle.state_cells.proofs.Making.{level_later, made_kept, made_later, made_same}
pub use Rattle.state_cells.specs.Cells.{Level, Levelled}
pub use Rattle.state_cells.specs.Places.{Cells, CellsLent, FlatState, LevelCells, LevelRows, Made, Rows, Spot, job_in, tabled}
pub use Rattle.states.proofs.Carries.{summed_before}
pub use Rattle.states.proofs.Growing.{order_of, outside_same}
pub use Rattle.states.proofs.Noted.{figure_plain, note_plain, plain_word}
pub use Rattle.states.proofs.Ties.{figures_one, figures_two, one_digit, two_digit}
pub use Rattle.states.specs.States.{Digits, Figures, FirstRow, Summed, cell, figure_in, held, note, note_in, under}
pub use Rattle.table.proofs.Across.{no_side}
pub use Rattle.table.proofs.Figures.{entry_is, positions_axis}
pub use Rattle.table.proofs.Halves.{half_next, half_ready}
pub use Rattle.table.proofs.Words.{cell_before, run_more, run_none, words_past}
pub use Rattle.table.specs.Clauses.{Positions, size_job}
pub use Rattle.table.specs.States.{figure_at}
pub use Rattle.table.specs.Table.{Kept, position_count}
pub use Rattle.table.specs.Words.{Axis, Half, HalfReady, Outside, Run}
pub use Rattle.state_fill.specs.Tables.{Bare, Counted, PastPieces, Plain, RowSpot}
