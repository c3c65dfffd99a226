-- What the proofs of this crate take from libraries and from other crates, named once.
pub use Prim.Native.Nat.{◌%◌, ◌*◌, ◌+◌, ◌-◌, ◌/◌, ◌<◌, ◌≤◌, suc, zero, ℕ}
pub use borrow.Author.Tests.{eq-eqb, le-ltb, lt-ltb, ltb-false, ltb-true, ne_eqb}
pub use lib.Dec.{T, eqb, leb, leb→le, le→leb, ltb}
pub use lib.ListN.{get_or, length, length-set, set}
pub use lib.Seq.{get_or-set_other, get_or-set_same}
pub use mathlib.Core.Bool.{Bool, ◌&&◌, false, true}
pub use mathlib.Core.List.{List, Memᴰ as List-as-Memᴰ, [], ◌∷◌}
pub use mathlib.Core.Path.{◌∙◌, ◌≡◌, ap, ap₂, refl, subst, sym}
pub use native.Mathlib.Decide.{dec_lt, ℕ_discrete}
pub use native.Mathlib.Nat.{add-sub_cancel, div-add-mod', div-lt_iff_lt-mul, mod-eq_of_lt, mod-lt, mul-add-mod_self_right, mul-le-mul, mul-le-mul_right, sub-zero}
pub use native.Mathlib.Numerals.{add-one}
pub use native.Mathlib.Omega.{arith}
pub use Rattle.bound.proofs.Last.{last_position, word_last}
pub use Rattle.bound.proofs.Listed.{pieces_range, same_count, same_position, same_positions, same_words}
pub use Rattle.bound.proofs.Storage.{report_is, unreported}
pub use Rattle.bound.specs.Bound.{lent}
pub use Rattle.choice.proofs.Numbers.{array_numbered}
pub use Rattle.choice.specs.Choice.{ChoiceInput}
pub use Rattle.cutting.proofs.AnyKinds.{any_on, none_any}
pub use Rattle.cutting.proofs.Bound.{bound_less, capacity_less, share_figure, share_most}
pub use Rattle.cutting.proofs.Finer.{none_finer}
pub use Rattle.cutting.proofs.Greatest.{greatest_map}
pub use Rattle.cutting.proofs.Job.{plain_guillotine}
pub use Rattle.cutting.proofs.Laid.{laid_plan}
pub use Rattle.cutting.proofs.Listed.{listed_above, state_figure}
pub use Rattle.cutting.proofs.Members.{member_kind, member_lies, members_count, range_solid, table_solid, widened_above, widened_solid}
pub use Rattle.cutting.proofs.Plan.{plan_idle, plan_recursion, plan_saw, plan_within}
pub use Rattle.cutting.proofs.Positions.{get_or_mem}
pub use Rattle.cutting.proofs.Promises.{none_above, none_heavier, normal_listed}
pub use Rattle.cutting.proofs.Recursion.{figure_eq}
pub use Rattle.cutting.proofs.Saws.{saw_proper}
pub use Rattle.cutting.proofs.Table.{floor_under, positions_some}
pub use Rattle.cutting.proofs.Two.{two_holds, two_most}
pub use Rattle.cutting.specs.Exact.{EarnsExactly, ExactFiguresMost, ExactFloors, ExactRecursion, MostExact, OfState, by_copies, copies_left, full_state, no_more, one_copy, optimum, optimum_plan, state_count}
unfoldable pub use Rattle.cutting.specs.Exact.{exact_figure, states}
unfoldable pub use Rattle.cutting.specs.Figure.{best, leaf, step}
pub use Rattle.cutting.specs.Job.{AnyOnPlate, InRange, Job, KeepsDemands, MayLie, at_full_demand, bound_of, capacity, figure_under, normal_positions, plan_of, profit, weight_of, widened}
unfoldable pub use Rattle.cutting.specs.Job.{members, ordered, pieces}
pub use Rattle.cutting.specs.Listed.{InTableRange, PieceArray, listed_weight, member_at, node_in, node_number, pieces_job, price_in, size_in}
pub use Rattle.cutting.specs.Lists.{only, over}
pub use Rattle.cutting.specs.Pieces.{Piece, kind, turned, upright}
unfoldable pub use Rattle.cutting.specs.Pieces.{sized}
pub use Rattle.cutting.specs.Preorder.{kinds_of, node_count, operands_of}
pub use Rattle.cutting.specs.Promises.{NoneAbove, NoneFiner, PlanFollows}
unfoldable pub use Rattle.cutting.specs.Saws.{saw}
pub use Rattle.cutting.specs.Sides.{rect_of, sides_of}
pub use Rattle.cutting.specs.Tree.{Guillotine, IdleFree, Monotone, Pieces, Rect, Saw, Tree, Within, cut, piece, waste}
pub use Rattle.cutting.specs.Two.{two_bound}
unfoldable pub use Rattle.cutting.specs.Two.{figure_two}
pub use Rattle.cutting.specs.declared.Sides.{Sides}
pub use Rattle.job.proofs.Checks.{append_passed, cons_passed, first_append, passed_both}
pub use Rattle.job.proofs.Read.{answered, read_in_range, refused}
pub use Rattle.job.specs.Block.{job_checks, job_of, read_of, record_of}
pub use Rattle.job.specs.Weights.{block_job}
pub use Rattle.plan.proofs.Calls.{read_range}
pub use Rattle.plan.proofs.Plans.{plans_checked}
pub use Rattle.plan.specs.Trees.{PlanOf}
pub use Rattle.promises.specs.declared.BoundReport.{BoundReport}
pub use Rattle.promises.specs.declared.Choices.{Choices}
pub use Rattle.promises.specs.declared.Direction.TheVariants.{Length, Width}
pub use Rattle.promises.specs.declared.ExactReport.{ExactReport}
pub use Rattle.promises.specs.declared.JobRecord.{JobRecord}
pub use Rattle.promises.specs.declared.Refusal.{Refusal}
pub use Rattle.promises.specs.declared.Refusal.TheVariants.{DemandProduct, TableShort}
pub use Rattle.refusal.specs.Refusals.{next, refuse_when}
unfoldable pub use Rattle.refusal.specs.Refusals.{first_refusal}
pub use Rattle.states.proofs.Digits.{below_parts, digits_order, parts_below, quotient, rest}
pub use Rattle.states.proofs.Ties.{digit_last, digit_lower, digits_within, within_digits}
pub use Rattle.states.specs.States.{Digits, Figures, under}
pub use Rattle.storage.proofs.Filled.{fillable}
pub use Rattle.storage.proofs.Storage.{last_laid, ready_laid, refused_laid}
pub use Rattle.storage.specs.Clauses.{LaidOut}
pub use Rattle.table.proofs.Shares.{by_state_monotone}
pub use Rattle.table.specs.Clauses.{size_job}
pub use Rattle.table.specs.States.{Blocks, Order}
unfoldable pub use Rattle.table.specs.States.{below, by_state, digit, figure_at, own_state}
pub use Rattle.table.specs.Table.{Kept, position_count, words_needed}
pub use Rattle.writer.proofs.Write.{listed_over, none_long, one_passed}
pub use Rattle.writer.specs.Clauses.{Planned, Thick, table_of, whole_plan}
pub use Rattle.writer.specs.Write.{nodes_check, nodes_verdict, reported}
pub use Rattle.exact.specs.Clauses.{Countable, Drawn, Filled, Multiplied, Short, Statable, Stated, StatesCounted, exact_of, job_plan, job_report, room_verdict, state_report, stride}
pub use Rattle.exact.specs.Exact.{CopiesByDigits, ExactLeaves, ExactPromises, OptimumHolds, OptimumPlanned, OptimumWritten, ShortOrder, StateFigures, StatesAfter, exact_outcome, exact_report, exact_values, exact_verdict, short_verdict, state_check}
pub use Rattle.std.proofs.Common.{Ok, Err}
pub use Rattle.promises.specs.Refusals.{Checked, Answer, passed, answer_by}
pub use Rattle.promises.specs.declared.WriteReport.{WriteReport}
