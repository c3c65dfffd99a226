-- What the proofs of this crate take from libraries and from other crates, named once.
pub use Prim.Native.Nat.{◌*◌, ◌+◌, ◌-◌, ◌<◌, ◌≤◌, suc, zero, ℕ}
pub use borrow.Author.Tests.{eq-eqb, eqb-true, ltb-false, not-false}
pub use lib.Dec.{eqb}
pub use lib.ListN.{get_or-eq_default as List·getD-eq-default, get_or, length, length-set, set}
pub use lib.Seq.{get_or-set_other, get_or-set_same}
pub use mathlib.Core.Bool.{not}
pub use mathlib.Core.List.{List, [], ◌∷◌}
pub use mathlib.Core.Path.{◌∙◌, ◌≡◌, ap, ap₂, refl, subst, sym}
pub use native.Mathlib.Decide.{dec_lt, ℕ_discrete}
pub use native.Mathlib.Omega.{arith}
pub use Rattle.bound.proofs.Calls.{record_ready}
pub use Rattle.bound.proofs.Holds.{bound_held}
pub use Rattle.bound.specs.Bound.{BoundLeaves, Leaves, Memory, accept_verdict, block_capacity, bound_answer, bound_report, lent, memory_checks}
pub use Rattle.bound.specs.Clauses.{RecordBoundable, RecordBounded}
pub use Rattle.cutting.proofs.AnyKinds.{ordered_on}
pub use Rattle.cutting.proofs.Bound.{bound_ceiling}
pub use Rattle.cutting.proofs.Demands.{keeps_weight}
pub use Rattle.cutting.proofs.Finer.{none_finer}
pub use Rattle.cutting.proofs.Job.{plain_guillotine}
pub use Rattle.cutting.proofs.Members.{member_kind, range_solid}
pub use Rattle.cutting.proofs.Promises.{figures_most}
pub use Rattle.cutting.proofs.Relaxation.{relaxed_none}
pub use Rattle.cutting.specs.Job.{AnyTree, InRange, Job, KeepsDemands, OnPlate, bound_of, capacity, weight_of, widened}
unfoldable pub use Rattle.cutting.specs.Job.{pieces}
pub use Rattle.cutting.specs.Limits.{most_figure, most_kinds}
unfoldable pub use Rattle.cutting.specs.Lists.{sum}
pub use Rattle.cutting.specs.Pieces.{Piece, kind, turned, upright}
unfoldable pub use Rattle.cutting.specs.Pieces.{sized}
pub use Rattle.cutting.specs.Promises.{NoneAbove}
pub use Rattle.cutting.specs.Saws.{saw}
pub use Rattle.cutting.specs.Tree.{Tree, cut, piece, waste}
unfoldable pub use Rattle.cutting.specs.Tree.{total}
pub use Rattle.job.proofs.Checks.{Decides, begins, check_last, check_passes, check_stops, cons_passed, each_passed, ends, next_passed, passed_both, passed_false, passes, stops}
pub use Rattle.job.proofs.Entries.{entries_length}
pub use Rattle.job.proofs.Taken.{Taken, refused_both, taken}
pub use Rattle.job.proofs.Weights.{accepted_in_range}
pub use Rattle.job.specs.Block.{each_kind, job_of, priced}
unfoldable pub use Rattle.job.specs.Block.{record_of}
pub use Rattle.job.specs.Weights.{acceptance_of, block_job, weight_in}
pub use Rattle.orders.specs.Orders.{Summable}
pub use Rattle.promises.specs.declared.BoundReport.{BoundReport}
pub use Rattle.promises.specs.declared.Choices.{Choices}
pub use Rattle.promises.specs.declared.Direction.TheVariants.{Length, Width}
pub use Rattle.promises.specs.declared.JobRecord.{JobRecord}
pub use Rattle.promises.specs.declared.LagrangianReport.{LagrangianReport}
pub use Rattle.promises.specs.declared.Refusal.{Refusal}
pub use Rattle.promises.specs.declared.Refusal.TheVariants.{MultiplierCount}
pub use Rattle.refusal.specs.Refusals.{Check, next, refuse_when}
unfoldable pub use Rattle.refusal.specs.Refusals.{first_refusal}
pub use Rattle.multipliers.specs.Clauses.{Multipliable, Multiplied, PricesLowered}
pub use Rattle.multipliers.specs.Multipliers.{AllAccepted, LagrangianHolds, LagrangianLeaves, LagrangianPromises, as_lagrangian, block_lagrangian, lagrangian_answer, lagrangian_outcome, lagrangian_values, lagrangian_verdict, lowered, lowered_job, most_multiplier, multiplied_verdict, multiplier_check, multiplier_checks, multiplier_in, multiplier_worth, repriced}
pub use Rattle.std.proofs.Common.{Ok, Err}
pub use Rattle.promises.specs.Refusals.{Checked, Answer, answer_by, passed}
pub use Rattle.job.specs.declared.Acceptance.{Acceptance}
