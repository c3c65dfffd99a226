-- What the proofs of this crate take from libraries and from other crates, named once.
pub use Prim.Native.Nat.{◌*◌, ◌+◌, ◌-◌, ◌<◌, ◌≤◌, ℕ}
pub use lib.Dec.{ltb}
pub use lib.ListN.{drop, get_or, length}
pub use mathlib.Core.List.{List, [], ◌++◌, ◌∷◌}
pub use mathlib.Core.Path.{◌∙◌, ◌≡◌, ap, ap₂, refl, subst, sym}
pub use native.Mathlib.Nat.{mul-le-mul}
pub use native.Mathlib.Omega.{arith}
pub use Rattle.cutting.proofs.Bound.{bound_ceiling, bound_less, capacity_less}
pub use Rattle.cutting.proofs.Finer.{none_finer, within_finer}
pub use Rattle.cutting.proofs.Listed.{listed_figure, listed_normal, listed_positions, listed_range}
pub use Rattle.cutting.proofs.Members.{range_solid, table_solid}
pub use Rattle.cutting.proofs.Promises.{bound_exact, figures_most, floor_figures, none_above, none_heavier, normal_listed, plate_holds, recursion}
pub use Rattle.cutting.proofs.Table.{figure_floor, positions_floor, positions_normal, positions_some}
pub use Rattle.cutting.specs.Job.{InRange, Job, bound_of, capacity, figure_of, normal_floor, normal_positions, widened}
pub use Rattle.cutting.specs.Limits.{most_capacity}
pub use Rattle.cutting.specs.Listed.{InTableRange, PieceArray, listed_weight, pieces_job, price_in, size_in}
pub use Rattle.cutting.specs.Saws.{floor}
pub use Rattle.cutting.specs.Sides.{rect_of, sides_of}
pub use Rattle.cutting.specs.Tree.{side}
pub use Rattle.cutting.specs.declared.Sides.{Sides}
pub use Rattle.job.proofs.Checks.{passed_both}
pub use Rattle.job.proofs.Kerf.{kerf_none_read}
pub use Rattle.job.proofs.Taken.{Taken, refused_both, taken}
pub use Rattle.job.proofs.Weights.{accepted_both, accepted_in_range, weights_passed}
pub use Rattle.job.specs.Block.{ReadAlike, job_of}
pub use Rattle.job.specs.Weights.{acceptance_of, Accepted, block_job, weight_checks, weight_in}
pub use Rattle.promises.specs.declared.BoundReport.{BoundReport}
pub use Rattle.promises.specs.declared.Choices.{Choices}
pub use Rattle.promises.specs.declared.Direction.{Direction}
pub use Rattle.promises.specs.declared.Direction.TheVariants.{Length, Width}
pub use Rattle.promises.specs.declared.JobRecord.{JobRecord}
pub use Rattle.promises.specs.declared.Refusal.{Refusal}
pub use Rattle.promises.specs.declared.Refusal.TheVariants.{TableShort}
pub use Rattle.refusal.specs.Refusals.{Check, first_refusal, next}
pub use Rattle.storage.proofs.Filled.{fillable}
pub use Rattle.storage.proofs.Storage.{last_laid, ready_laid, refused_laid}
pub use Rattle.storage.specs.Clauses.{BothMapped, LaidOut}
pub use Rattle.storage.specs.declared.Layout.{Layout}
pub use Rattle.table.specs.Clauses.{FilledBy, Mapped, size_job}
pub use Rattle.table.specs.Table.{Figures, Kept, position, position_count, words_needed}
pub use Rattle.bound.specs.Bound.{BoundHolds, BoundLeaves, BoundPromises, BoundSaid, Leaves, Memory, TableAfter, accept_verdict, answer_by, block_capacity, block_report, bound_answer, bound_outcome, bound_report, bound_verdict, lent, list_after, list_check, memory_checks, bound_values, wide_job}
pub use Rattle.bound.specs.Clauses.{Boundable, Bounded, RecordBoundable}
pub use Rattle.std.proofs.Common.{Ok, Err}
pub use Rattle.promises.specs.Refusals.{Checked, Answer}
pub use Rattle.job.specs.declared.Acceptance.{Acceptance}
