-- What the proofs of this crate take from libraries and from other crates, named once.
pub use Prim.Native.Nat.{◌*◌, ◌+◌, ◌-◌, ◌<◌, ◌≤◌, suc, zero, ℕ}
pub use borrow.Author.Rules.{rules}
pub use borrow.Author.Tests.{eq-eqb, eqb-false, le-ltb, lt-ltb, ltb-false, ltb-true, ne_eqb, not-false, not-true}
pub use lib.Dec.{eqb, eqb-suc-zero as eqb·suc-zero, ltb}
pub use lib.ListN.{get_or-append as List·getD-append, get_or-eq_default as List·getD-eq-default, get_or-map as List·getD-map, drop, get_or, get_or-replicate, length, length-map, length-replicate, length-set, replicate, set, take}
pub use lib.Seq.{get_or-set_other, get_or-set_same, get_or-take, length-take-le}
pub use mathlib.Core.Bool.{Bool, ◌||◌, false, not, true}
pub use mathlib.Core.List.{List, [], ◌++◌, ◌∷◌, map}
pub use mathlib.Core.Path.{◌∙◌, ◌≡◌, ap, ap₂, fun_ext, refl, subst, sym}
pub use native.Mathlib.Decide.{dec_lt, ℕ_discrete}
pub use native.Mathlib.Omega.{arith}
pub use Rattle.bound.proofs.Holds.{bound_held}
pub use Rattle.bound.specs.Bound.{BoundLeaves, Leaves, accept_verdict, bound_report, list_after, memory_checks, storage_checks}
pub use Rattle.cutting.proofs.AnyKinds.{any_on}
pub use Rattle.cutting.proofs.Finer.{none_finer}
pub use Rattle.cutting.proofs.Members.{range_solid}
pub use Rattle.cutting.proofs.Plan.{plan_idle}
pub use Rattle.cutting.proofs.Promises.{none_above}
pub use Rattle.cutting.proofs.Weights.{by_weight_monotone}
pub use Rattle.cutting.specs.Job.{InRange, Job, profit, bound_of, bound_plan, by_kind, capacity, copies_of, counted, widened}
pub use Rattle.cutting.specs.Lists.{any, only, over, range}
unfoldable pub use Rattle.cutting.specs.Lists.{sum}
pub use Rattle.cutting.specs.Preorder.{kind_of, operand_of}
unfoldable pub use Rattle.cutting.specs.Preorder.{kinds_of, node_count, operands_of, preorder}
pub use Rattle.cutting.specs.Promises.{NoneAbove}
pub use Rattle.cutting.specs.Tree.{Tree, cut, piece, waste}
unfoldable pub use Rattle.cutting.specs.Tree.{total}
pub use Rattle.job.proofs.Checks.{passed_both}
pub use Rattle.job.proofs.Entries.{entries_in, entries_length, entries_none, entries_past}
pub use Rattle.job.proofs.Read.{answered, read_in_range, refused}
pub use Rattle.job.proofs.Weights.{both_accepted, sum_more, sum_none, weights_passed}
pub use Rattle.job.specs.Block.{job_checks, job_of, record_of}
unfoldable pub use Rattle.job.specs.Block.{entries}
pub use Rattle.job.specs.Weights.{block_job, weight_checks, weight_in, weights_answer}
pub use Rattle.plan.proofs.Drawn.{drawn_is, plan_is}
pub use Rattle.plan.proofs.Plans.{plans_checked}
pub use Rattle.plan.specs.Plan.{plan_answer, proceed}
pub use Rattle.plan.specs.Trees.{tree_in}
pub use Rattle.promises.specs.declared.Choices.{Choices}
pub use Rattle.promises.specs.declared.Direction.TheVariants.{Length, Width}
pub use Rattle.promises.specs.declared.JobRecord.{JobRecord}
pub use Rattle.promises.specs.declared.Node.{Node}
pub use Rattle.promises.specs.declared.Node.TheVariants.{Waste}
pub use Rattle.promises.specs.declared.Refusal.{Refusal}
pub use Rattle.promises.specs.declared.Report.{Report}
pub use Rattle.promises.specs.declared.WeightsFound.{WeightsFound}
pub use Rattle.promises.specs.declared.WriteReport.{WriteReport}
pub use Rattle.refusal.specs.Refusals.{Answer, Checked, passed, answer_by, next, verdict_of}
unfoldable pub use Rattle.refusal.specs.Refusals.{first_refusal}
pub use Rattle.weight_steps.proofs.Rules.{step_rules}
pub use Rattle.weight_steps.proofs.Sums.{any_more, any_none, any_same, any_some, none_passes, sum_same}
pub use Rattle.weight_steps.specs.Clauses.{summed_squares}
pub use Rattle.weight_steps.specs.Step.{adjusted, distance, factor, pick_number}
pub use Rattle.writer.proofs.Call.{written_fits}
pub use Rattle.writer.specs.Write.{array_after, block_plan, nodes_check, nodes_verdict, reported, write_answer, write_report, write_verdict}
pub use Rattle.rounds.specs.Clauses.{Made, better, following, lays, piece_here, pieces_in, stops_with}
pub use Rattle.rounds.specs.Rounds.{BoundAgain, FindLeaves, FindPromises, LeastMet, Lent, RoundHolds, RoundLeaves, RoundsLeave, RunLeaves, StopRules, before_verdict, bound_at, find_answer, find_found, find_verdict, found_values, gap, last_round, lent_all, lower_figure, plan_copies, refuses, rounds_by, rounds_run, run_answer, stops_after}
unfoldable pub use Rattle.rounds.specs.Rounds.{best_round, found, last_from, last_here, next_weight, round_verdict, squares, weight_at, within}
pub use Rattle.std.proofs.Common.{Ok, Err, Option, None, Some}
