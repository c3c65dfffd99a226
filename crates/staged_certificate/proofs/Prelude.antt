-- What the proofs of this crate take from libraries and from other crates, named once.
pub use Prim.Native.Nat.{◌≤◌, ℕ}
pub use mathlib.Core.List.{List, [], ◌∷◌}
pub use mathlib.Core.Path.{◌∙◌, ◌≡◌, ap, ap₂, refl, sym}
pub use native.Mathlib.Omega.{arith}
pub use Rattle.bound.proofs.Calls.{range_taken, weights_there}
pub use Rattle.bound.specs.Bound.{Memory, accept_verdict, block_capacity, wide_job}
pub use Rattle.certificate.proofs.Comparison.{best_among, certificate_says, gap_among}
pub use Rattle.certificate.proofs.Promises.{value_of}
pub use Rattle.certificate.specs.Certificate.{certificate_outcome, compared, plan_profit}
pub use Rattle.cutting.proofs.AnyKinds.{any_on}
pub use Rattle.cutting.proofs.Finer.{staged_finer}
pub use Rattle.cutting.proofs.Members.{range_solid}
pub use Rattle.cutting.proofs.Staged.{staged_holds}
pub use Rattle.cutting.specs.Job.{Job, profit}
pub use Rattle.cutting.specs.Staged.{NoneStagedBetter, staged_bound}
pub use Rattle.job.proofs.Checks.{passed_both}
pub use Rattle.job.proofs.Read.{read_in_range}
pub use Rattle.job.proofs.Taken.{Taken, refused_both, taken}
pub use Rattle.job.proofs.Weights.{accepted_both, accepted_in_range}
pub use Rattle.job.specs.Block.{job_of}
pub use Rattle.job.specs.Weights.{acceptance_of, block_job, weight_in}
pub use Rattle.job.specs.declared.Acceptance.{Acceptance}
pub use Rattle.plan.specs.Calls.{JobPasses}
pub use Rattle.plan.proofs.Drawn.{drawn_is}
pub use Rattle.promises.specs.declared.BoundReport.{BoundReport}
pub use Rattle.promises.specs.declared.Certificate.{Certificate}
pub use Rattle.promises.specs.declared.Choices.{Choices}
pub use Rattle.promises.specs.declared.JobRecord.{JobRecord}
pub use Rattle.promises.specs.declared.Refusal.{Refusal}
pub use Rattle.promises.specs.declared.Report.{Report}
pub use Rattle.refusal.specs.Refusals.{first_refusal}
pub use Rattle.staged_bound.proofs.Calls.{job_staged, limit_passed, limited, stageable}
pub use Rattle.staged_bound.specs.Clauses.{Staged}
pub use Rattle.staged_bound.specs.Staged.{StagedLeaves, limit_verdict, staged_block_report, staged_checks}
pub use Rattle.staged_plan.proofs.Calls.{check_met}
pub use Rattle.staged_plan.proofs.Within.{staged_tree, within_is}
pub use Rattle.staged_plan.specs.Check.{within_answer, within_verdict}
pub use Rattle.stages.proofs.Limit.{limit_inside}
pub use Rattle.stages.specs.Stages.{limit_check}
pub use Rattle.staged_certificate.specs.Certificate.{CertifyStagedPromises, EarnsStaged, certify_staged_verdict, staged_certificate, staged_plan_verdict}
pub use Rattle.std.proofs.Common.{Ok, Err}
pub use Rattle.promises.specs.Refusals.{Checked, Answer, passed, verdict_of}
pub use Rattle.refusal.proofs.Results.{before_passes, before_refuses, given_answer, refusal_answered, refused_answer, value_answered}
pub use Rattle.promises.specs.declared.StagedReport.{StagedReport}
