-- What the proofs of this crate take from libraries and from other crates, named once.
pub use Prim.Native.Nat.{◌+◌, ◌-◌, ◌≤◌, ℕ}
pub use borrow.Author.Tests.{eqb-false, eqb-true}
pub use lib.Dec.{eqb, ltb}
pub use lib.ListN.{length}
pub use mathlib.Core.Bool.{Bool, ◌||◌, false, true}
pub use mathlib.Core.List.Memᴰ.{head as List·Memᴰ·head, not-nil as List·Memᴰ·not-nil, tail as List·Memᴰ·tail}
pub use mathlib.Core.List.{List, [], ◌∷◌}
pub use mathlib.Core.Path.{◌∙◌, ◌≡◌, ap, ap₂, refl, subst, sym}
pub use native.Mathlib.Omega.{arith}
pub use Rattle.bound.proofs.Calls.{block_bounded, exact_by, range_taken, record_ready}
pub use Rattle.bound.proofs.Holds.{bound_held}
pub use Rattle.bound.specs.Bound.{Leaves, Memory, TableAfter, accept_verdict, block_capacity, block_report, lent, list_after, memory_checks, wide_job}
pub use Rattle.bound.specs.Clauses.{Bounded}
pub use Rattle.cutting.proofs.AnyKinds.{any_on}
pub use Rattle.cutting.proofs.Finer.{none_finer}
pub use Rattle.cutting.proofs.Members.{range_solid}
pub use Rattle.cutting.proofs.Plan.{plan_bound, plan_idle}
pub use Rattle.cutting.proofs.Weights.{by_weight_monotone}
pub use Rattle.cutting.specs.Job.{InRange, Job, bound_of, by_kind, normal_positions, profit}
pub use Rattle.cutting.specs.Lists.{over}
pub use Rattle.cutting.specs.Promises.{NoneBetter}
pub use Rattle.job.proofs.Checks.{append_passed, passed_both}
pub use Rattle.job.proofs.Read.{answered, read_in_range, refused}
pub use Rattle.job.proofs.Taken.{Taken, job_refused, taken_apart, weights_refused}
pub use Rattle.job.proofs.Weights.{accepted_both, accepted_in_range}
pub use Rattle.job.specs.Block.{job_checks, job_of}
pub use Rattle.job.specs.Weights.{block_job, weight_checks, weight_in}
pub use Rattle.plan.proofs.Drawn.{drawn_is, plan_is}
pub use Rattle.plan.proofs.Plans.{plans_checked}
pub use Rattle.plan.specs.Plan.{plan_answer}
pub use Rattle.plan.specs.Trees.{tree_in}
pub use Rattle.promises.specs.declared.BoundReport.{BoundReport}
pub use Rattle.promises.specs.declared.Certificate.{Certificate}
pub use Rattle.promises.specs.declared.Choices.{Choices}
pub use Rattle.promises.specs.declared.Direction.TheVariants.{Length, Width}
pub use Rattle.promises.specs.declared.JobRecord.{JobRecord}
pub use Rattle.promises.specs.declared.Refusal.{Refusal}
pub use Rattle.promises.specs.declared.Refusal.TheVariants.{ListShort, TableShort}
pub use Rattle.promises.specs.declared.Report.{Report}
pub use Rattle.refusal.specs.Refusals.{Check, next, number_of, outcome_by, refuse_when}
unfoldable pub use Rattle.refusal.specs.Refusals.{first_refusal}
pub use Rattle.table.specs.Table.{words_needed}
pub use Rattle.certificate.specs.Certificate.{certificate_of, certificate_outcome, certificate_values, certify_verdict, compared, compared_values, plan_profit, plan_verdict}
pub use Rattle.certificate.specs.Promises.{BestAmong, BoundExact, BoundsHold, CertificatesHold, CertifyPromises, Earns, FirstDecides, GapAmong, MemoryKept, NoneHolds, PlansEarn, PlansJudged}
pub use Rattle.std.proofs.Common.{Ok, Err}
pub use Rattle.promises.specs.Refusals.{Checked, Answer, passed, answer_by, verdict_of}
pub use Rattle.refusal.proofs.Results.{before_passes, before_refuses, given_answer, refusal_answered, refused_answer, value_answered}
