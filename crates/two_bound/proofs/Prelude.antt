-- What the proofs of this crate take from libraries and from other crates, named once.
pub use Prim.Native.Nat.{◌*◌, ◌+◌, ◌-◌, ◌/◌, ◌<◌, ◌≤◌, ℕ}
pub use borrow.Author.Tests.{eqb-true, le-ltb, lt-ltb, ltb-false, not-false}
pub use lib.Dec.{eqb, ltb}
pub use lib.ListN.{get_or, length, length-set, set}
pub use lib.Seq.{get_or-set_other, get_or-set_same}
pub use mathlib.Core.Bool.{Bool, ◌||◌, false, not, true}
pub use mathlib.Core.List.{List, [], ◌∷◌}
pub use mathlib.Core.Path.{◌∙◌, ◌≡◌, ap, ap₂, refl, subst, sym}
pub use native.Mathlib.Decide.{ℕ_discrete}
pub use native.Mathlib.Nat.{mul-le-mul}
pub use native.Mathlib.Omega.{arith}
pub use Rattle.bound.proofs.Last.{last_position, word_last, words_some}
pub use Rattle.bound.proofs.Listed.{pieces_range, same_count, same_position, same_positions, same_words}
pub use Rattle.bound.specs.Bound.{BoundLeaves, Memory, TableAfter, accept_verdict, block_capacity, block_report, bound_answer, bound_verdict, lent, list_after, list_check, wide_job}
pub use Rattle.cutting.proofs.Bound.{capacity_less}
pub use Rattle.cutting.proofs.Finer.{none_finer, two_finer}
pub use Rattle.cutting.proofs.Listed.{greatest_listed}
pub use Rattle.cutting.proofs.Members.{member_kind, members_solid, range_solid, table_solid, widened_solid}
pub use Rattle.cutting.proofs.Positions.{get_or_mem}
pub use Rattle.cutting.proofs.Promises.{normal_listed}
pub use Rattle.cutting.proofs.Recursion.{figure_same}
pub use Rattle.cutting.proofs.Reduction.{floor_figure}
pub use Rattle.cutting.proofs.Table.{positions_some, sides_suffice}
pub use Rattle.cutting.proofs.Two.{capacity_none, two_ceiling, two_figures, two_floor, two_holds, two_most, two_one, two_recursion}
unfoldable pub use Rattle.cutting.specs.Figure.{leaf}
pub use Rattle.cutting.specs.Job.{InRange, Job, SolidKinds, at_full_demand, capacity, laid, normal_floor, normal_positions, normal_side, widened}
unfoldable pub use Rattle.cutting.specs.Job.{members, ordered, pieces}
pub use Rattle.cutting.specs.Listed.{InTableRange, Listing, PieceArray, listed_weight, member_at, node_in, node_number, pieces_job, plain, price_in, size_in}
pub use Rattle.cutting.specs.Pieces.{Piece, kind, turned, upright}
unfoldable pub use Rattle.cutting.specs.Pieces.{sized}
pub use Rattle.cutting.specs.Saws.{saw}
pub use Rattle.cutting.specs.Sides.{rect_of, sides_of}
pub use Rattle.cutting.specs.Tree.{Rect}
pub use Rattle.cutting.specs.Two.{TwoFiguresMost, two_bound}
unfoldable pub use Rattle.cutting.specs.Two.{figure_two}
pub use Rattle.cutting.specs.declared.Sides.{Sides}
pub use Rattle.job.proofs.Checks.{append_passed, check_last, check_passes, check_stops, cons_passed, first_append, passed_append, passed_both, passed_false}
pub use Rattle.job.proofs.Read.{answered, or_false, read_in_range, refused}
pub use Rattle.job.proofs.Weights.{weights_passed}
pub use Rattle.job.specs.Block.{job_checks, job_of, read_of, record_of}
pub use Rattle.job.specs.Weights.{block_job, weight_checks, weight_in, weights_answer}
pub use Rattle.promises.specs.declared.BoundReport.{BoundReport}
pub use Rattle.promises.specs.declared.Choices.{Choices}
pub use Rattle.promises.specs.declared.Direction.TheVariants.{Length, Width}
pub use Rattle.promises.specs.declared.JobRecord.{JobRecord}
pub use Rattle.promises.specs.declared.Refusal.{Refusal}
pub use Rattle.promises.specs.declared.Refusal.TheVariants.{Capacity, CapacityProduct, SecondCount, TableShort, WeightCount}
pub use Rattle.promises.specs.declared.TwoReport.{TwoReport}
pub use Rattle.refusal.specs.Refusals.{next, refuse_when}
unfoldable pub use Rattle.refusal.specs.Refusals.{first_refusal}
pub use Rattle.states.proofs.Digits.{digits_order}
pub use Rattle.states.proofs.Ties.{figures_pairs, pair_blocked}
pub use Rattle.storage.proofs.Filled.{fillable}
pub use Rattle.storage.proofs.Storage.{last_laid, ready_laid, refused_laid}
pub use Rattle.storage.specs.Clauses.{LaidOut, cell_words, storage_verdict}
pub use Rattle.storage.specs.declared.Layout.{Layout}
pub use Rattle.table.proofs.Shares.{by_state_monotone}
pub use Rattle.table.specs.Clauses.{TwoBy, size_job}
pub use Rattle.table.specs.States.{below, figure_pair, pair_blocks, pair_state}
unfoldable pub use Rattle.table.specs.States.{by_state, figure_at, own_state}
pub use Rattle.table.specs.Table.{Figures, Kept, position, position_count, word, words_needed}
pub use Rattle.table.specs.Two.{TwoFigures, pair_count, two_word, two_words}
pub use Rattle.two_bound.specs.Clauses.{weighed_two, Pairable, Paired, Statable, Stated}
pub use Rattle.two_bound.specs.Two.{BothAccepted, TwoAfter, TwoHolds, TwoLeaves, TwoPromises, block_figure, two_answer, two_block_report, two_checks, two_outcome, two_report, two_storage_checks, two_values, two_verdict, weighed_verdict, with_second_none}
pub use Rattle.std.proofs.Common.{Ok, Err}
pub use Rattle.promises.specs.Refusals.{Checked, Answer, answer_by, passed}
pub use Rattle.two_bound.specs.declared.Capacities.{Capacities}
