-- What the proofs of this crate take from libraries and from other crates, named once.
pub use Prim.Native.Nat.{◌*◌, ◌+◌, ◌-◌, ◌<◌, ◌≤◌, suc, zero, ℕ}
pub use borrow.Author.Tests.{eq-eqb, eqb-true, le-leb, le-ltb, lt-ltb, ltb-true, ne_eqb, not-false}
pub use lib.Dec.{T, eqb, ltb}
pub use lib.ListN.{drop, drop_of_length-le, get_or, get_or-replicate, length, length-append, length-drop, length-map, length-replicate, length-set, replicate, set, take}
pub use lib.Seq.{ext_get_or, get_or-set_other, get_or-set_same, length-take-le, take-suc-set}
pub use mathlib.Core.Bool.{Bool, false, not, true, ◌||◌}
pub use mathlib.Core.List.{List, [], ◌++◌, ◌∷◌, append_assoc, append-nil, map, map-map}
pub use mathlib.Core.Path.{◌∙◌, ◌≡◌, ap, ap₂, refl, subst, sym}
pub use native.Mathlib.Decide.{dec_lt, ℕ_discrete}
pub use native.Mathlib.Nat.{zero-add}
pub use native.Mathlib.Numerals.{add-one}
pub use native.Mathlib.Omega.{arith}
pub use Rattle.cutting.proofs.Job.{areas_sum, sawdust_area_length, sawdust_area_width, trim_area_length, trim_area_width, waste_area_length, waste_area_width}
pub use Rattle.cutting.proofs.Lists.{range_length}
pub use Rattle.cutting.proofs.Members.{lie_kind}
pub use Rattle.cutting.proofs.Pieces.{true_fits_in}
pub use Rattle.cutting.proofs.Preorder.{count_cut, map-append}
unfoldable pub use Rattle.cutting.specs.Areas.{pieces_area, sawdust_area, trim_area, waste_area}
pub use Rattle.cutting.specs.Job.{GuillotineTree, InRange, Job, KeepsDemands, OnPlate, copies_of, laid, pieces_area_of, profit, sawdust_area_of, trim_area_of, waste_area_of}
unfoldable pub use Rattle.cutting.specs.Lists.{range}
pub use Rattle.cutting.specs.Pieces.{fits_in}
pub use Rattle.cutting.specs.Preorder.{kind_of, operand_of}
unfoldable pub use Rattle.cutting.specs.Preorder.{kinds_of, node_count, operands_of, preorder}
pub use Rattle.cutting.specs.Sides.{rect_of, sides_of}
pub use Rattle.cutting.specs.Tree.{IdleFree, Rect, Tree, cut, part, piece, side, waste}
unfoldable pub use Rattle.cutting.specs.Tree.{total}
pub use Rattle.cutting.specs.declared.Sides.{Sides}
pub use Rattle.idle.proofs.Idle.{free_passed, idle_tree, passed_free}
pub use Rattle.idle.specs.Idle.{idle_checks, tree_checks}
pub use Rattle.job.proofs.Checks.{cons_passed, passed_both}
pub use Rattle.job.proofs.Entries.{entries_in, entries_length, entries_past}
pub use Rattle.job.specs.Block.{entries, job_checks, job_from, job_of, read_of, u16_at}
pub use Rattle.job.specs.Weights.{block_job}
pub use Rattle.node.proofs.Nodes.{NodeFits, PieceFits, inside_range, node_back, node_passed, node_passes, pair_of}
pub use Rattle.node.specs.Placed.{Placed, Sized}
pub use Rattle.node.specs.declared.NodeEntry.{NodeEntry}
pub use Rattle.node.specs.declared.Rules.{Rules}
pub use Rattle.node.specs.declared.Tally.{Tally}
pub use Rattle.promises.specs.declared.Choices.{Choices}
pub use Rattle.promises.specs.declared.Direction.{Direction}
pub use Rattle.promises.specs.declared.Direction.TheVariants.{Length, Width}
pub use Rattle.promises.specs.declared.JobRecord.{JobRecord}
pub use Rattle.promises.specs.declared.Node.{Node}
pub use Rattle.promises.specs.declared.Node.TheVariants.{Cut, Piece, Turned, Waste}
pub use Rattle.promises.specs.declared.Refusal.{Refusal}
pub use Rattle.promises.specs.declared.Refusal.TheVariants.{NodeCount, NodeMissing, PlanLength}
pub use Rattle.promises.specs.declared.Report.{Report}
pub use Rattle.refusal.specs.Refusals.{answer_by, next, refuse_when, verdict_of}
unfoldable pub use Rattle.refusal.specs.Refusals.{first_refusal}
pub use Rattle.plan.specs.Calls.{BlockPasses, JobPasses, arrays_answer, arrays_before_idle, arrays_said, block_answer, block_before_idle, block_checks, block_said, plan_count, plan_kinds, plan_outcome, said_after}
unfoldable pub use Rattle.plan.specs.Calls.{plan_block_answer, plan_operands}
pub use Rattle.plan.specs.Plan.{empty_report, left_check, node_checks, node_of, nodes_in, only_tree, parts, plan_checks, plan_report, proceed, report_after, tree_passed}
unfoldable pub use Rattle.plan.specs.Plan.{plan_answer, tree_walk, walk, walk_answer}
pub use Rattle.plan.specs.Trees.{ChecksPlan, DrawnAs, PlanOf, Reports, first_tree, tree_in, tree_report, with_node}
unfoldable pub use Rattle.plan.specs.Trees.{trees_in}
pub use Rattle.plan.specs.Walk.{CutInside, Held, Opens, entry_at, no_sums, rules_of}
unfoldable pub use Rattle.plan.specs.Walk.{waiting}
pub use Rattle.plan.specs.declared.TreeWalk.{TreeWalk}
pub use Rattle.std.proofs.Common.{Ok, Err}
pub use Rattle.std.specs.Result.{IsErrAnd}
pub use Rattle.refusal.proofs.Results.{handed, refusal_answered, value_answered}
pub use Rattle.promises.specs.Refusals.{Checked, Answer, passed}
