-- What the proofs of this crate take from libraries and from other crates, named once.
pub use Prim.Native.Nat.{◌*◌, ◌+◌, ◌-◌, ◌/◌, ◌<◌, ◌≤◌, max, suc, zero, ℕ}
pub use borrow.Author.Rules.{rules}
pub use borrow.Author.Tests.{eq-eqb, le-ltb, ltb-false, ltb-true, not-false, not-true}
pub use denote.Ref.{Bor, MutBor}
pub use lib.Dec.{eqb, ltb}
pub use lib.ListN.{drop, get_or, length, replicate, set, take, take-append-drop}
pub use lib.Seq.{ext_get_or, take_all}
pub use mathlib.Core.Bool.{Bool, ◌&&◌, ◌||◌, false, not, true}
pub use mathlib.Core.List.Memᴰ.{head as List·Memᴰ·head, tail as List·Memᴰ·tail}
pub use mathlib.Core.List.{List, Memᴰ as List-as-Memᴰ, [], ◌++◌, ◌∷◌, append-nil, map}
pub use mathlib.Core.Option.{Option, none, some}
pub use mathlib.Core.Path.{◌∙◌, ◌≡◌, ap, ap₂, refl, subst, sym}
pub use native.Mathlib.Decide.{ℕ_discrete}
pub use native.Mathlib.Nat.{sub-zero, zero-add}
pub use native.Mathlib.Omega.{arith}
pub use Rattle.bound.proofs.Calls.{exact_by}
pub use Rattle.bound.proofs.Holds.{bound_held}
pub use Rattle.bound.specs.Bound.{BoundHolds, Memory, accept_verdict, block_report, list_check, memory_checks}
pub use Rattle.certificate.proofs.Promises.{compares, plans_judged}
pub use Rattle.cutting.proofs.AnyKinds.{any_on, ordered_on}
pub use Rattle.cutting.proofs.Bound.{bound_ceiling, capacity_less, demands_weight, share_figure}
pub use Rattle.cutting.proofs.Finer.{none_finer, staged_finer, stages_finer}
pub use Rattle.cutting.proofs.Floor.{floor_le}
pub use Rattle.cutting.proofs.Greatest.{greatest_append, greatest_cong, greatest_map}
pub use Rattle.cutting.proofs.Job.{areas_sum, plain_guillotine}
pub use Rattle.cutting.proofs.Lists.{mem_filter, mem_pairs, mem_range}
pub use Rattle.cutting.proofs.Members.{range_solid, widened_solid}
pub use Rattle.cutting.proofs.Pairs.{paired_monotone, paired_within, within_paired}
pub use Rattle.cutting.proofs.Promises.{figures_most, floor_figures, normal_listed, recursion}
pub use Rattle.cutting.proofs.Recursion.{figure_eq}
pub use Rattle.cutting.proofs.Saws.{saw_proper}
pub use Rattle.cutting.proofs.Staged.{block_figure, staged_ceiling, staged_holds, staged_less, staged_more, staged_most, staged_under_earned, staged_under_most, stages_paths}
pub use Rattle.cutting.proofs.Stages.{staged_eq, staged_monotone, staged_none, staged_within, within_staged}
pub use Rattle.cutting.proofs.Table.{floor_under}
pub use Rattle.cutting.proofs.Weights.{by_weight_monotone, weight_within, within_weight}
pub use Rattle.cutting.specs.Chains.{chains_fit}
pub use Rattle.cutting.specs.Choice.{Choice, as_cut, as_piece, as_waste, cut_remains, or_first, or_length, or_piece, or_waste, or_zero}
pub use Rattle.cutting.specs.Exact.{by_copies, full_state, state_count}
unfoldable pub use Rattle.cutting.specs.Exact.{exact_figure}
pub use Rattle.cutting.specs.Job.{GuillotineTree, InRange, Job, KeepsDemands, OnPlate, SolidKinds, at_full_demand, by_kind, capacity, copies_of, finer, laid, normal_floor, normal_positions, normal_side, profit, widened}
unfoldable pub use Rattle.cutting.specs.Job.{figure_of, members, ordered, pieces}
pub use Rattle.cutting.specs.Lists.{any, filter, only, over, pairs, range}
unfoldable pub use Rattle.cutting.specs.Lists.{first, greatest, sum}
pub use Rattle.cutting.specs.Neat.{neat_of, used_of}
pub use Rattle.cutting.specs.Pieces.{Piece, ◌⊑◌, fits_in, kind, turned, upright}
unfoldable pub use Rattle.cutting.specs.Pieces.{sized}
unfoldable pub use Rattle.cutting.specs.Preorder.{kinds_of, node_count, operands_of, preorder}
pub use Rattle.cutting.specs.Relaxation.{ChainsFit}
unfoldable pub use Rattle.cutting.specs.Saws.{saw}
pub use Rattle.cutting.specs.Shares.{change, other, staged, stages}
unfoldable pub use Rattle.cutting.specs.Shares.{stages_below}
pub use Rattle.cutting.specs.Staged.{NoneStaged, block, path_stages, staged_bound, staged_under}
unfoldable pub use Rattle.cutting.specs.Staged.{changes, paths}
pub use Rattle.cutting.specs.Tree.{IdleFree, Monotone, Rect, Shares, Tree, Within, cut, piece, side, waste}
pub use Rattle.cutting.specs.Two.{two_bound}
unfoldable pub use Rattle.cutting.specs.Two.{figure_two}
pub use Rattle.exact.proofs.Remaining.{copies_within, within_copies}
pub use Rattle.exact.proofs.States.{copies_monotone}
pub use Rattle.exact.specs.Exact.{OptimumHolds}
pub use Rattle.idle.proofs.Idle.{free_passed, idle_tree, passed_free}
pub use Rattle.idle.specs.Idle.{idle_checks, tree_checks}
pub use Rattle.job.proofs.Checks.{append_passed, cons_passed, next_passed, passed_both}
pub use Rattle.job.proofs.Entries.{entries_in}
pub use Rattle.job.proofs.Kerf.{kerf_none_read}
pub use Rattle.job.proofs.Read.{read_in_range}
pub use Rattle.job.proofs.Weights.{accepted_in_range}
pub use Rattle.job.specs.Block.{entries, job_checks, job_of, read_of}
unfoldable pub use Rattle.job.specs.Block.{each_kind, record_of}
pub use Rattle.job.specs.Weights.{Accepted, block_job, weight_checks, weight_in}
pub use Rattle.multipliers.proofs.Lagrange.{lowered_range}
pub use Rattle.orders.proofs.Needed.{fewest}
pub use Rattle.orders.specs.Racks.{plated}
pub use Rattle.plan.proofs.Among.{drawn_tree, tree_drawn}
pub use Rattle.plan.proofs.Calls.{arrays_met, block_met}
pub use Rattle.plan.proofs.Drawn.{drawn_is, nodes_are, trees_tree}
pub use Rattle.plan.proofs.Ends.{walk_ends}
pub use Rattle.plan.proofs.Plans.{empty_copies, empty_length, plans_checked}
pub use Rattle.plan.proofs.Preorder.{kinds_length, operands_length, written, written_kinds, written_operands}
pub use Rattle.plan.proofs.Walk.{nodes_length}
pub use Rattle.plan.proofs.Whole.{verdict_is, whole_counts, whole_passes}
pub use Rattle.plan.specs.Calls.{BlockPasses, JobPasses, arrays_answer, arrays_before_idle, arrays_said, block_answer, block_before_idle, block_checks, block_said, plan_kinds, plan_operands, plan_outcome}
unfoldable pub use Rattle.plan.specs.Calls.{plan_block_answer}
pub use Rattle.plan.specs.Plan.{empty_report, left_check, node_checks, node_of, nodes_in, only_tree, parts, plan_answer, plan_checks, proceed, report_after, tree_passed}
unfoldable pub use Rattle.plan.specs.Plan.{walk_answer}
pub use Rattle.plan.specs.Trees.{ChecksPlan, DrawnAs, PlanOf, Reports, first_tree, tree_in, trees_in}
pub use Rattle.plan.specs.declared.TreeWalk.{TreeWalk}
pub use Rattle.promises.specs.Block.{KerfNoneRead, saw_job, saw_record, with_full_demand, with_old_block}
pub use Rattle.promises.specs.Call.{Answers, Arrays, ArraysLeft, Certifies, Fills, Leaves, Writes, lent, list_after, nodes_check, storage_checks}
pub use Rattle.promises.specs.Calls.{BlockPromises, BoundPromises, CertifyPromises, CheckPromises, Checks, ExactPromises, NeatPlan, NeatPromises, PlanPromises, ReadPromises, StagedCheckPromises, StagedPromises, TwoPromises, WritePromises, accepts_two, bound_values, bound_report, certificate_values, certify_verdict, compared, exact_values, job_values, limit_checks, neat_values, plan_values, reads, short, staged_values, two_values, write_values}
pub use Rattle.promises.specs.Check.{Judges, plan_verdict, walk_verdict, walked}
unfoldable pub use Rattle.promises.specs.Check.{tree_walk}
pub use Rattle.promises.specs.Figure.{choice_tree, divided, step}
unfoldable pub use Rattle.promises.specs.Figure.{after, figure, first_pair, plan_choice, plan_deep, plan_of, single}
pub use Rattle.promises.specs.Job.{WithinLimit}
pub use Rattle.promises.specs.Orders.{AllAccepted, CheaperNotHeld, Fewest, LagrangianPromises, NeededPromises, NoFewer, NotHeldBeside, OfPlans, as_lagrangian, lagrangian_values, lagrangian_of, lowered_job, multiplied_verdict, multiplier_in, order_worth, plates_for, plates_values, worth_at}
pub use Rattle.promises.specs.Plan.{kind_of, operand_of, stage_checks, tree_report}
unfoldable pub use Rattle.promises.specs.Plan.{sawdust_area, trim_area, waste_area}
pub use Rattle.promises.specs.Rack.{PlansOf, PlatesPromises, Rack, RackChecks, RackPromises, paid, plate_at, plates, profits_values, rack_of, rack_verdict, rack_walked, total_checks}
unfoldable pub use Rattle.promises.specs.Rack.{rack_checks, rack_walk}
pub use Rattle.promises.specs.Refusals.{line_of, outcome_by, refused_as, Checked, Answer, passed, answer_by, verdict_of, outcome_of}
pub use Rattle.promises.specs.Rounds.{FindPromises, LeastMet, Lent, RoundHolds, RoundsLeave, StopRules, bound_at, found_values, last_round, plan_copies, rounds_run}
unfoldable pub use Rattle.promises.specs.Rounds.{best_round, found, last_from, last_here, round_verdict, squares, weight_at, within}
pub use Rattle.promises.specs.Saw.{HandsBack, NeverSix, PartPromises, SawPromises, SawReadPromises, node_part, part_if, saw_values, saw_verdict, without_profit}
pub use Rattle.promises.specs.Systems.{BlockRecursion, FiguresMost, Floors, Holds, NoneAbove, NoneFiner, PlanFollows, Recursion, System, below_cut, bound_in, bound_of, bound_plan, one_weight, optimum, optimum_plan, remaining_copies, table_words, two_weights, within_stages}
pub use Rattle.promises.specs.True.{ModelPromises, NoneBetter, Relaxes, StandsFor, TruePlan, TruePromises, block_true_job, true_values, true_plan_verdict, true_verdict}
pub use Rattle.promises.specs.declared.BoundReport.{BoundReport}
pub use Rattle.promises.specs.declared.Certificate.{Certificate}
pub use Rattle.promises.specs.declared.Choices.{Choices}
pub use Rattle.promises.specs.declared.Direction.{Direction}
pub use Rattle.promises.specs.declared.Direction.TheVariants.{Length, Width}
pub use Rattle.promises.specs.declared.ExactReport.{ExactReport}
pub use Rattle.promises.specs.declared.JobRecord.{JobRecord}
pub use Rattle.promises.specs.declared.LagrangianReport.{LagrangianReport}
pub use Rattle.promises.specs.declared.Part.{Part}
pub use Rattle.promises.specs.declared.Plate.{Plate}
pub use Rattle.promises.specs.declared.PlatesReport.{PlatesReport}
pub use Rattle.promises.specs.declared.Refusal.{Refusal}
pub use Rattle.promises.specs.declared.Refusal.TheVariants.{ListShort, NodeLeft, NodeMissing, PlanLong, RackDemand, TableShort, TrueMisfit}
pub use Rattle.promises.specs.declared.Report.{Report}
pub use Rattle.promises.specs.declared.TwoReport.{TwoReport}
pub use Rattle.promises.specs.declared.WeightsFound.{WeightsFound}
pub use Rattle.promises.specs.declared.WriteReport.{WriteReport}
pub use Rattle.rack.proofs.Before.{before_passed}
pub use Rattle.rack.proofs.Calls.{order_few, plates_met}
pub use Rattle.rack.proofs.Own.{own_stops}
pub use Rattle.rack.proofs.Totals.{with_own_in, with_own_length}
pub use Rattle.rack.proofs.Trees.{own_tree}
unfoldable pub use Rattle.rack.specs.Check.{order_checks}
pub use Rattle.refusal.specs.Refusals.{Check, Outcome, by_check, next, refuse_when}
unfoldable pub use Rattle.refusal.specs.Refusals.{first_refusal}
pub use Rattle.rounds.specs.Rounds.{lent_all}
pub use Rattle.saw.proofs.Calls.{saw_range}
pub use Rattle.saw.proofs.Parts.{listed_length, part_tree}
pub use Rattle.saw.proofs.Prices.{same_answer}
unfoldable pub use Rattle.saw.specs.Saw.{saw_checks}
unfoldable pub use Rattle.sizes.specs.Sizes.{sizes_checks, sizes_of}
pub use Rattle.staged_bound.specs.Staged.{StagedHolds}
pub use Rattle.staged_certificate.specs.Certificate.{CertifyStagedPromises}
pub use Rattle.staged_plan.specs.Check.{read_verdict, staged_check_answer, staged_check_verdict, within_verdict}
pub use Rattle.stages.proofs.Limit.{passed_within, within_passed}
pub use Rattle.stages.specs.Stages.{limit_check, path_checks}
pub use Rattle.table.specs.Staged.{StagedFigures, staged_words}
pub use Rattle.table.specs.Table.{Figures, Kept, position, position_count, words_needed}
pub use Rattle.table.specs.Two.{TwoFigures, two_words}
pub use Rattle.two_bound.specs.Two.{TwoHolds}
pub use Rattle.weight_steps.proofs.Sums.{any_more, any_none, none_passes}
pub use Rattle.weight_steps.specs.Step.{distance, factor, pick_number, stepped, weight_step}
pub use Rattle.std.proofs.Common.{Ok, Err}
pub use Rattle.std.specs.Result.{ForOk, result_unwrap_or}
pub use Rattle.refusal.proofs.Results.{said_by, value_answered, refusal_answered}
pub use Rattle.promises.specs.declared.SawReport.{SawReport}
pub use Rattle.promises.specs.declared.StagedReport.{StagedReport}
pub use Rattle.promises.specs.declared.TrueReport.{TrueReport}
