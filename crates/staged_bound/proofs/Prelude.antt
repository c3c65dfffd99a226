-- What the proofs of this crate take from libraries and from other crates, named once.
pub use Prim.Native.Nat.{◌*◌, ◌+◌, ◌-◌, ◌≤◌, max, ℕ}
pub use lib.Dec.{ltb}
pub use lib.ListN.{get_or, length}
pub use mathlib.Core.Bool.{Bool, false}
pub use mathlib.Core.List.{List, [], ◌∷◌}
pub use mathlib.Core.Path.{◌∙◌, ◌≡◌, ap, ap₂, refl, subst, sym}
pub use native.Mathlib.Nat.{mul-le-mul_right}
pub use native.Mathlib.Omega.{arith}
pub use Rattle.bound.proofs.Calls.{range_taken, weights_there}
pub use Rattle.bound.proofs.Last.{last_position, word_last, words_some}
pub use Rattle.bound.proofs.Listed.{pieces_range, same_count, same_position, same_positions, same_words}
pub use Rattle.bound.proofs.Storage.{report_is}
pub use Rattle.bound.specs.Bound.{Memory, accept_verdict, block_capacity, bound_outcome, lent, list_after, list_check, bound_values, wide_job}
pub use Rattle.cutting.proofs.Bound.{capacity_less}
pub use Rattle.cutting.proofs.Finer.{staged_finer, stages_finer}
pub use Rattle.cutting.proofs.Members.{range_solid, table_solid, widened_solid}
pub use Rattle.cutting.proofs.Promises.{normal_listed}
pub use Rattle.cutting.proofs.Staged.{block_figure, block_floor, block_most, block_recursion, listed_block, staged_ceiling, staged_holds, staged_less, staged_more, staged_most, staged_under_earned, staged_under_most}
pub use Rattle.cutting.proofs.Table.{positions_some}
pub use Rattle.cutting.specs.Job.{InRange, Job, SolidKinds, at_full_demand, capacity, widened}
unfoldable pub use Rattle.cutting.specs.Job.{members, ordered, pieces}
pub use Rattle.cutting.specs.Limits.{most_limit}
pub use Rattle.cutting.specs.Listed.{InTableRange, PieceArray, listed_weight, pieces_job, price_in, size_in}
pub use Rattle.cutting.specs.Sides.{rect_of, sides_of}
pub use Rattle.cutting.specs.Staged.{block, staged_bound}
pub use Rattle.cutting.specs.declared.Sides.{Sides}
pub use Rattle.job.proofs.Checks.{check_last, passed_both, passed_false}
pub use Rattle.job.proofs.Taken.{Taken, refused_both, taken}
pub use Rattle.job.proofs.Weights.{accepted_both, accepted_in_range, weights_passed}
pub use Rattle.job.specs.Block.{job_of, outside}
pub use Rattle.job.specs.Weights.{Accepted, acceptance_of, block_job, weight_in}
pub use Rattle.promises.specs.declared.BoundReport.{BoundReport}
pub use Rattle.promises.specs.declared.Choices.{Choices}
pub use Rattle.promises.specs.declared.Direction.{Direction}
pub use Rattle.promises.specs.declared.Direction.TheVariants.{Length, Width}
pub use Rattle.promises.specs.declared.JobRecord.{JobRecord}
pub use Rattle.promises.specs.declared.Refusal.{Refusal}
pub use Rattle.promises.specs.declared.Refusal.TheVariants.{StageLimit, TableShort}
pub use Rattle.refusal.specs.Refusals.{first_refusal, refuse_when}
pub use Rattle.stages.proofs.Limit.{limit_inside}
pub use Rattle.stages.specs.Stages.{limit_check}
pub use Rattle.storage.proofs.Filled.{fillable}
pub use Rattle.storage.proofs.Storage.{last_laid, ready_laid, refused_laid}
pub use Rattle.storage.specs.Clauses.{LaidOut, cell_words, storage_verdict}
pub use Rattle.storage.specs.declared.Layout.{Layout}
pub use Rattle.table.specs.Clauses.{StagedBy, size_job}
pub use Rattle.table.specs.Staged.{StagedFigures, block_number, staged_words}
pub use Rattle.table.specs.Table.{Kept, position, position_count, words_needed}
pub use Rattle.staged_bound.specs.Clauses.{Stageable, Staged}
pub use Rattle.staged_bound.specs.Staged.{StagedAfter, StagedHolds, StagedLeaves, StagedPromises, limit_verdict, staged_answer, staged_block_report, staged_checks, staged_report, staged_verdict}
pub use Rattle.std.proofs.Common.{Ok, Err}
pub use Rattle.promises.specs.Refusals.{Checked, Answer, answer_by, passed}
pub use Rattle.job.specs.declared.Acceptance.{Acceptance}
