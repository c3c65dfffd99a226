-- What the proofs of this crate take from libraries and from other crates, named once.
pub use Prim.Native.Nat.{◌*◌, ◌+◌, ◌-◌, ◌<◌, ◌≤◌, max, suc, zero, ℕ}
pub use borrow.Author.Rules.{rules}
pub use borrow.Author.Tests.{le-ltb, lt-ltb}
pub use lib.ListN.{drop, get_or, length, length-append, length-drop, length-map, length-replicate, length-set, set, take, take-append-drop}
pub use lib.Seq.{drop-cons, drop-length, get_or-set_same, length-take-le, set_at, take-suc}
pub use mathlib.Core.Bool.{Bool, false, true}
pub use mathlib.Core.List.{List, [], ◌++◌, ◌∷◌, append_assoc, append-nil, map}
pub use mathlib.Core.Path.{◌∙◌, ◌≡◌, ap, ap₂, refl, subst, sym}
pub use native.Mathlib.Numerals.{add-one}
pub use native.Mathlib.Omega.{arith}
pub use Rattle.cutting.proofs.Members.{range_solid}
pub use Rattle.cutting.proofs.Neat.{neat_again, neat_count, neat_idle, neat_on, neat_stages, neat_total, neat_waste, used_none, used_on}
pub use Rattle.cutting.proofs.Preorder.{kinds_cut}
pub use Rattle.cutting.proofs.Relaxation.{every_map, plate_lies}
pub use Rattle.cutting.specs.Job.{InRange, Job, OnPlate, copies_of, laid}
pub use Rattle.cutting.specs.Limits.{most_kinds, most_true_kerf}
pub use Rattle.cutting.specs.Lists.{keep, only, over}
pub use Rattle.cutting.specs.Neat.{joined, neat_of, remaining, used_of}
unfoldable pub use Rattle.cutting.specs.Neat.{neat, used}
pub use Rattle.cutting.specs.Pieces.{◌⊑◌, lying}
pub use Rattle.cutting.specs.Preorder.{kind_of, operand_of}
unfoldable pub use Rattle.cutting.specs.Preorder.{kinds_of, node_count, operands_of, preorder}
pub use Rattle.cutting.specs.Relaxation.{Lies}
pub use Rattle.cutting.specs.Tree.{Rect, Tree, cut, piece, piece_count, side, waste}
unfoldable pub use Rattle.cutting.specs.Tree.{total}
pub use Rattle.job.specs.Block.{job_of, read_of}
pub use Rattle.job.specs.Weights.{block_job}
pub use Rattle.node.proofs.Nodes.{node_back}
pub use Rattle.node.specs.Nodes.{of_piece}
pub use Rattle.plan.proofs.Calls.{read_range}
pub use Rattle.plan.proofs.Drawn.{drawn_is, nodes_are, plan_is, trees_are, trees_tree}
pub use Rattle.plan.proofs.Plans.{plans_checked}
pub use Rattle.plan.proofs.Preorder.{kinds_length, operands_length, written, written_cut}
pub use Rattle.plan.proofs.Walk.{next_waits, nodes_length, nodes_suc, stored_past}
pub use Rattle.plan.specs.Plan.{node_of, nodes_in, plan_answer}
pub use Rattle.plan.specs.Trees.{DrawnAs, PlanOf, first_tree, tree_in, with_node}
unfoldable pub use Rattle.plan.specs.Trees.{trees_in}
pub use Rattle.plan.specs.Walk.{Walkable}
unfoldable pub use Rattle.plan.specs.Walk.{waiting}
pub use Rattle.promises.specs.declared.Choices.{Choices}
pub use Rattle.promises.specs.declared.Direction.{Direction}
pub use Rattle.promises.specs.declared.Direction.TheVariants.{Length, Width}
pub use Rattle.promises.specs.declared.JobRecord.{JobRecord}
pub use Rattle.promises.specs.declared.Node.{Node}
pub use Rattle.promises.specs.declared.Node.TheVariants.{Cut, Piece, Turned, Waste}
pub use Rattle.promises.specs.declared.Refusal.{Refusal}
pub use Rattle.promises.specs.declared.Refusal.TheVariants.{PlanLong}
pub use Rattle.refusal.specs.Refusals.{next, outcome_by}
unfoldable pub use Rattle.refusal.specs.Refusals.{first_refusal}
pub use Rattle.neat.specs.Neat.{NeatJudged, NeatPlan, NeatPromises, block_neat, neat_checked, neat_values, neat_tree, neat_verdict, output_check}
pub use Rattle.neat.specs.Scan.{Advanced, AllMake, Fair, Kept, Known, Makes, Neatened, Numbered, Ready, Scannable, Stepped, Within, Writable, as_used, becomes, entry_of, most_kept, most_told, moved, nodes_for, put_when, remains, size_of, told, told_of, told_side, told_sides, unless_none, used_rect, used_with}
unfoldable pub use Rattle.neat.specs.Scan.{neat_nodes, pieces_in}
pub use Rattle.neat.specs.declared.Entry.{Entry}
pub use Rattle.neat.specs.declared.Step.{Step}
pub use Rattle.neat.specs.declared.Used.{Used}
pub use Rattle.std.proofs.Common.{Ok, Err}
pub use Rattle.promises.specs.Refusals.{Checked, Answer, passed, answer_by, verdict_of, outcome_of}
pub use Rattle.promises.specs.declared.Report.{Report}
pub use Rattle.std.specs.Result.{IsErrAnd}
pub use Rattle.refusal.proofs.Results.{handed, said_by}
