-- What the proofs of this crate take from libraries and from other crates, named once.
pub use Prim.Native.Nat.{◌%◌, ◌*◌, ◌+◌, ◌-◌, ◌/◌, ◌<◌, ◌≤◌, suc, zero, ℕ}
pub use borrow.Author.Tests.{le-ltb, lt-ltb, ltb-false}
pub use lib.Dec.{T, eqb, leb, leb→le, le→leb, ltb}
pub use lib.ListN.{get_or-append as List·getD-append, drop, get_or, length, length-append, length-map, length-set, replicate, set, take}
pub use lib.Seq.{get_or-set_other, get_or-set_same, sets, take_at}
pub use mathlib.Core.Bool.{Bool, ◌||◌, false, true}
pub use mathlib.Core.List.{List, [], ◌++◌, ◌∷◌, append_assoc, append-nil, map}
pub use mathlib.Core.Path.{◌∙◌, ◌≡◌, ap, ap₂, refl, subst, sym}
pub use native.Mathlib.Decide.{dec_le, ℕ_discrete}
pub use native.Mathlib.Nat.{mul-le-mul, mul-le-mul_right}
pub use native.Mathlib.Numerals.{add-one}
pub use native.Mathlib.Omega.{arith}
pub use Rattle.bound.proofs.Calls.{range_taken, weights_there}
pub use Rattle.bound.proofs.Holds.{bound_held}
pub use Rattle.bound.proofs.Listed.{pieces_bounded, pieces_range}
pub use Rattle.bound.specs.Clauses.{Boundable, Bounded}
pub use Rattle.choice.proofs.Numbers.{array_numbered}
pub use Rattle.choice.specs.Choice.{ChoiceInput, Inside, chosen_at, chosen_of}
pub use Rattle.choice.specs.Search.{Numbered, node_way, numbered_node}
pub use Rattle.choice.specs.declared.Cell.{Cell}
pub use Rattle.choice.specs.declared.Chosen.{Chosen}
pub use Rattle.cutting.proofs.Laid.{array_after, array_recursion, laid_plan, plain_states}
pub use Rattle.cutting.proofs.Listed.{listed_above}
pub use Rattle.cutting.proofs.Lists.{over_sets}
pub use Rattle.cutting.proofs.Members.{range_solid, table_solid, widened_above}
pub use Rattle.cutting.proofs.Plan.{lossless_tree, plan_bound, plan_idle}
pub use Rattle.cutting.proofs.Preorder.{count_cut}
pub use Rattle.cutting.proofs.Promises.{plan_follows}
pub use Rattle.cutting.proofs.Sound.{Sound, choice_sound, state_division}
pub use Rattle.cutting.proofs.Table.{positions_above}
pub use Rattle.cutting.proofs.Weights.{by_weight_monotone}
pub use Rattle.cutting.specs.Choice.{Choice, as_cut, as_piece, as_waste, cut_remains, or_first}
unfoldable pub use Rattle.cutting.specs.Choice.{sawn}
pub use Rattle.cutting.specs.Job.{GuillotineTree, Job, KindsAbove, by_kind, lossless_plan, normal_positions, normal_side, plan_choice, plan_of, plan_under, widened}
pub use Rattle.cutting.specs.Limits.{most_capacity}
pub use Rattle.cutting.specs.Listed.{InTableRange, PieceArray, array_plan, array_shares, laid_tree, listed_weight, node_in, numbered_piece, piece_way, pieces_job, price_in, size_in}
pub use Rattle.cutting.specs.Lists.{over}
pub use Rattle.cutting.specs.Pieces.{Piece, kind, turned, upright}
pub use Rattle.cutting.specs.Preorder.{kind_of, operand_of}
unfoldable pub use Rattle.cutting.specs.Preorder.{kinds_of, node_count, operands_of, preorder}
pub use Rattle.cutting.specs.Shares.{by_weight}
pub use Rattle.cutting.specs.Sides.{rect_of, sides_of}
pub use Rattle.cutting.specs.Tree.{Rect, Tree, cut, part, piece, side, waste}
pub use Rattle.cutting.specs.declared.Sides.{Sides}
pub use Rattle.job.proofs.Checks.{cons_passed, passed_both}
pub use Rattle.job.proofs.Taken.{Taken, refused_both, taken}
pub use Rattle.job.proofs.Weights.{accepted_both, accepted_in_range, weights_passed}
pub use Rattle.job.specs.Block.{job_of}
pub use Rattle.job.specs.Weights.{Accepted, acceptance_of, block_job, weight_in}
pub use Rattle.job.specs.declared.Acceptance.{Acceptance}
pub use Rattle.promises.specs.declared.BoundReport.{BoundReport}
pub use Rattle.promises.specs.declared.Choices.{Choices}
pub use Rattle.promises.specs.declared.Direction.{Direction}
pub use Rattle.promises.specs.declared.Direction.TheVariants.{Length, Width}
pub use Rattle.promises.specs.declared.JobRecord.{JobRecord}
pub use Rattle.promises.specs.declared.Node.{Node}
pub use Rattle.promises.specs.declared.Node.TheVariants.{Cut, Turned, Waste}
pub use Rattle.promises.specs.declared.Refusal.{Refusal}
pub use Rattle.promises.specs.declared.Refusal.TheVariants.{PlanLong}
pub use Rattle.promises.specs.declared.WriteReport.{WriteReport}
pub use Rattle.refusal.specs.Refusals.{next, refuse_when}
unfoldable pub use Rattle.refusal.specs.Refusals.{first_refusal}
pub use Rattle.states.proofs.Digits.{digits_order}
pub use Rattle.states.proofs.Ties.{one_digit}
pub use Rattle.states.specs.States.{under}
pub use Rattle.table.proofs.Shares.{by_state_monotone}
pub use Rattle.table.proofs.Weighed.{figure_one}
pub use Rattle.table.specs.Clauses.{Listed, size_job}
pub use Rattle.table.specs.States.{Order, by_state}
unfoldable pub use Rattle.table.specs.States.{below}
pub use Rattle.table.specs.Table.{Figures, position, words_needed}
pub use Rattle.table.specs.declared.TableSize.{TableSize}
pub use Rattle.writer.specs.Clauses.{NodesListed, Planned, SettledAt, Stepped, Thick, Waiting, Weighed, cell_at, first_of, half_of, left_out, plan_at, plate_cell, room_verdict, sawn_plan, table_of, whole_plan, with_cell}
unfoldable pub use Rattle.writer.specs.Clauses.{nodes_left}
pub use Rattle.writer.specs.Write.{BoundWritten, PlanChosen, PlanWritten, WritePromises, block_plan, nodes_check, nodes_verdict, reported, write_answer, write_outcome, write_report, write_values, write_verdict}
pub use Rattle.writer.specs.declared.nodes.Settled.{Settled}
pub use Rattle.std.proofs.Common.{Ok, Err}
pub use Rattle.promises.specs.Refusals.{Checked, Answer, passed}
