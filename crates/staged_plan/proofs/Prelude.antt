-- What the proofs of this crate take from libraries and from other crates, named once.
pub use Prim.Native.Nat.{◌≤◌, ℕ}
pub use lib.ListN.{length}
pub use mathlib.Core.Bool.{Bool}
pub use mathlib.Core.List.{List, [], ◌∷◌}
pub use mathlib.Core.Path.{◌∙◌, ◌≡◌, ap, ap₂, refl, subst, sym}
pub use Rattle.cutting.proofs.Staged.{stages_paths}
pub use Rattle.cutting.specs.Job.{Job}
pub use Rattle.cutting.specs.Limits.{most_limit, most_nodes}
pub use Rattle.cutting.specs.Pieces.{Piece}
pub use Rattle.cutting.specs.Shares.{stages}
pub use Rattle.cutting.specs.Tree.{Tree}
pub use Rattle.job.proofs.Checks.{check_last, passed_both, passed_false}
pub use Rattle.job.specs.Block.{job_checks, job_of, outside, read_of}
pub use Rattle.job.specs.Weights.{block_job}
pub use Rattle.plan.proofs.Calls.{read_range}
pub use Rattle.plan.proofs.Drawn.{drawn_is, plan_is}
pub use Rattle.plan.proofs.Parse.{no_pass}
pub use Rattle.plan.proofs.Plans.{plans_checked, walked_counts}
pub use Rattle.plan.proofs.Whole.{verdict_is}
pub use Rattle.plan.specs.Plan.{plan_answer, proceed}
pub use Rattle.plan.specs.Trees.{PlanOf, Reports, tree_in}
pub use Rattle.promises.specs.declared.Choices.{Choices}
pub use Rattle.promises.specs.declared.JobRecord.{JobRecord}
pub use Rattle.promises.specs.declared.Refusal.{Refusal}
pub use Rattle.promises.specs.declared.Refusal.TheVariants.{StageLimit}
pub use Rattle.promises.specs.declared.Report.{Report}
pub use Rattle.refusal.proofs.Results.{handed, refusal_answered, value_answered}
pub use Rattle.refusal.specs.Refusals.{Answer, Checked, answer_by, by_check, first_refusal, next, passed, refuse_when, refused_as, verdict_of}
pub use Rattle.stages.proofs.Limit.{limit_inside, passed_within, within_passed}
pub use Rattle.stages.specs.Stages.{limit_check, path_checks}
pub use Rattle.stages.specs.Walks.{StagesOf, staged_as}
pub use Rattle.staged_plan.specs.Check.{ChecksStaged, LimitPasses, StagedPlanOf, read_verdict, stage_verdict, staged_before_idle, staged_check_answer, staged_check_outcome, staged_check_said, staged_of, within_answer, within_verdict, without_idle}
pub use Rattle.std.proofs.Common.{Ok, Err}
pub use Rattle.std.specs.Result.{ForOk}
pub use Rattle.promises.specs.declared.StagedReport.{StagedReport}
