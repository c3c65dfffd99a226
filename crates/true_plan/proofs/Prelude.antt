-- What the proofs of this crate take from libraries and from other crates, named once.
pub use Prim.Native.Nat.{◌<◌, ◌≤◌, ℕ}
pub use borrow.Author.Rules.{rules}
pub use borrow.Author.Tests.{le-ltb, lt-ltb, ltb-false}
pub use lib.Dec.{ltb}
pub use lib.ListN.{get_or, length, length-replicate}
pub use mathlib.Core.List.{List, [], ◌++◌, ◌∷◌}
pub use mathlib.Core.Path.{◌∙◌, ◌≡◌, ap, refl, subst, sym}
pub use native.Mathlib.Omega.{arith}
pub use Rattle.cutting.proofs.Members.{range_solid}
pub use Rattle.cutting.proofs.Neat.{neat_nodes, neat_stages, neat_used}
pub use Rattle.cutting.proofs.Relaxation.{neat_copies, neat_earns, relaxed_none, relaxed_staged, returned, same_relaxes}
pub use Rattle.cutting.specs.Job.{InRange, Job, KeepsDemands, OnPlate, SolidKinds, laid, profit}
pub use Rattle.cutting.specs.Lists.{over}
pub use Rattle.cutting.specs.Neat.{neat_of, used_of}
pub use Rattle.cutting.specs.Pieces.{◌⊑◌, lying}
pub use Rattle.cutting.specs.Preorder.{kinds_of, node_count, operands_of}
pub use Rattle.cutting.specs.Relaxation.{ChainsFit, Relaxes}
pub use Rattle.cutting.specs.Tree.{Rect, Tree}
pub use Rattle.job.proofs.Checks.{cons_passed, passed_both}
pub use Rattle.job.specs.Block.{job_checks, job_of, read_of}
pub use Rattle.job.specs.Weights.{block_job}
pub use Rattle.neat.proofs.Plans.{first_stored, kinds_written, needed, operands_written, plan_most}
pub use Rattle.neat.proofs.Scan.{Scanning, Writing, begins, ends, few_kept, goes_on, numbered, one_kept, one_used, ready, room, same_kinds, same_operands, scan_begins, scan_on}
pub use Rattle.neat.proofs.Steps.{remains_some}
pub use Rattle.neat.specs.Neat.{neat_tree, output_check}
pub use Rattle.neat.specs.Scan.{Known, Scannable, Writable, as_used, nodes_for, pieces_in, told_of, told_side, used_rect}
pub use Rattle.neat.specs.declared.Used.{Used}
pub use Rattle.plan.proofs.Drawn.{drawn_is, plan_is, trees_are}
pub use Rattle.plan.specs.Plan.{nodes_in, plan_answer}
pub use Rattle.plan.specs.Trees.{DrawnAs, PlanOf, tree_in, trees_in}
pub use Rattle.promises.specs.declared.Choices.{Choices}
pub use Rattle.promises.specs.declared.JobRecord.{JobRecord}
pub use Rattle.promises.specs.declared.Refusal.{Refusal}
pub use Rattle.promises.specs.declared.Refusal.TheVariants.{PlanLong, TrueMisfit}
pub use Rattle.refusal.specs.Refusals.{next, outcome_by}
unfoldable pub use Rattle.refusal.specs.Refusals.{first_refusal}
pub use Rattle.sizes.specs.Sizes.{TrueRange, sizes_checks, sizes_of, sizes_read, true_job}
pub use Rattle.sizes.specs.declared.TrueSizes.{TrueSizes}
pub use Rattle.true_plan.specs.Calls.{TruePlanned, true_laid, true_plate}
pub use Rattle.true_plan.specs.TruePlan.{SizesPass, TrueJudged, TruePlan, TruePromises, block_neat, block_true, block_used, fit_checks, report_of, true_checked, true_values, true_verdict}
pub use Rattle.std.proofs.Common.{Ok, Err}
pub use Rattle.promises.specs.Refusals.{Checked, Answer, passed, answer_by, verdict_of, outcome_of}
pub use Rattle.promises.specs.declared.Report.{Report}
pub use Rattle.promises.specs.declared.TrueReport.{TrueReport}
pub use Rattle.std.specs.Result.{IsErrAnd}
pub use Rattle.refusal.proofs.Results.{handed, said_by, value_answered, refusal_answered}
