-- What the proofs of this crate take from libraries and from other crates, named once.
pub use Prim.Native.Nat.{◌*◌, ◌+◌, ◌-◌, ◌<◌, ◌≤◌, suc, zero, ℕ}
pub use borrow.Author.Tests.{eqb-true, le-ltb, lt-ltb, ltb-false, not-false}
pub use lib.Dec.{eqb, ltb}
pub use lib.ListN.{drop, drop_of_length-le, get_or, get_or-replicate, length, length-append, length-drop, length-map, length-replicate, length-set, replicate, set, take, take-append-drop}
pub use lib.Seq.{drop-append_seam, drop-drop, get_or-set_other, get_or-set_same, take-append_seam}
pub use mathlib.Core.Bool.{Bool, ◌||◌, false, not, or-true, true}
pub use mathlib.Core.List.{List, [], ◌++◌, ◌∷◌, append_assoc, map, map-append, map-map}
pub use mathlib.Core.Logic.{◌⊎◌, inl, inr, ⊎_elim}
pub use mathlib.Core.Path.{◌∙◌, ◌≡◌, ap, ap₂, refl, subst, sym}
pub use native.Mathlib.Decide.{dec_le, ℕ_discrete}
pub use native.Mathlib.Nat.{zero-add}
pub use native.Mathlib.Numerals.{add-one}
pub use native.Mathlib.Omega.{arith}
pub use Rattle.cutting.proofs.AnyKinds.{any_on}
pub use Rattle.cutting.proofs.Demands.{sum_le}
pub use Rattle.cutting.specs.Job.{Job, KeepsDemands, OnPlate, SolidKinds, copies_of, profit}
unfoldable pub use Rattle.cutting.specs.Lists.{sum}
pub use Rattle.cutting.specs.Pieces.{Piece}
pub use Rattle.cutting.specs.Preorder.{node_count, preorder}
unfoldable pub use Rattle.cutting.specs.Preorder.{kinds_of, operands_of}
pub use Rattle.cutting.specs.Tree.{IdleFree, Rect, Tree, cut, piece, waste}
pub use Rattle.idle.proofs.Idle.{free_passed, idle_tree, passed_free}
pub use Rattle.idle.specs.Idle.{idle_checks}
unfoldable pub use Rattle.idle.specs.Idle.{tree_checks}
pub use Rattle.job.proofs.Checks.{Decides, begins, check_last, check_stops, cons_passed, each_passed, ends, first_append, next_passes, next_stops, passed_append, passed_both, passes, stops}
pub use Rattle.job.proofs.Entries.{entries_in}
pub use Rattle.job.proofs.Read.{Counts, block_passed, counts_hold, inside, or_false, pairs_range, plateless_passed, sizes_least}
pub use Rattle.job.specs.Block.{count_at, demand_at, entries, grain_at, grain_checks, grains_of, job_from, job_of, kerf_at, kind_bytes, length_at, outside, pair_checks, plate_length_at, plate_width_at, plateless_checks, price_at, sides_outside, sizes_end, u16_at, u32_at, width_at}
unfoldable pub use Rattle.job.specs.Block.{each_kind, record_of}
pub use Rattle.job.specs.Clauses.{HoldsBlock}
pub use Rattle.job.specs.Weights.{block_job}
pub use Rattle.node.proofs.Nodes.{pair_of}
pub use Rattle.orders.proofs.Racks.{any_finer, any_together, rack_finer, rack_holds, rack_keeps, sum_first}
pub use Rattle.orders.specs.Racks.{SharesDemands, plated}
unfoldable pub use Rattle.orders.specs.Racks.{chained}
pub use Rattle.plan.proofs.Among.{Drawn, drawn_tree, tree_drawn}
pub use Rattle.plan.proofs.Ends.{tree_ends}
pub use Rattle.plan.proofs.Parse.{no_pass, proceed_passed, proceed_value}
pub use Rattle.plan.proofs.Preorder.{arrays_written, count_written, firsts, kinds_length, operands_length, seconds, written}
pub use Rattle.plan.proofs.Walk.{nodes_length}
pub use Rattle.plan.proofs.Whole.{whole_counts}
pub use Rattle.plan.specs.Plan.{empty_report, left_check, node_checks, node_of, nodes_in, parts, plan_checks, proceed, report_after, tree_passed}
unfoldable pub use Rattle.plan.specs.Plan.{tree_walk}
pub use Rattle.plan.specs.Trees.{tree_report}
pub use Rattle.plan.specs.declared.TreeWalk.{TreeWalk}
pub use Rattle.promises.specs.declared.Choices.{Choices}
pub use Rattle.promises.specs.declared.JobRecord.{JobRecord}
pub use Rattle.promises.specs.declared.Plate.{Plate}
pub use Rattle.promises.specs.declared.Refusal.{Refusal}
pub use Rattle.promises.specs.declared.Refusal.TheVariants.{BlockLength, Demand, Grain, IdleCut, Kerf, KindCount, KindSide, Price, RackDemand, RackSide, RackSize, ShortHeader}
pub use Rattle.promises.specs.declared.Report.{Report}
pub use Rattle.refusal.specs.Refusals.{Check, answer_by, by_check, next, number_of, outcome_by, place_of, refuse_when, verdict_of}
unfoldable pub use Rattle.refusal.specs.Refusals.{first_refusal}
pub use Rattle.rack.specs.Check.{and_then, idle_at, plate_at, plate_check, plate_checks, rack_answer, rack_outcome, rack_size_check, total_check, total_checks, walked_at}
unfoldable pub use Rattle.rack.specs.Check.{order_checks, own_answer, plans_answer, rack_checks, rack_walk, with_own}
pub use Rattle.rack.specs.Plates.{TotalsAfter}
pub use Rattle.rack.specs.Promises.{BeforePasses, IdleAt, OnlyPlate, OrderPasses, OverAt, PlatesPromises, RackChecks, RackOf, RackUpTo}
pub use Rattle.rack.specs.Records.{RackPromises, blank, lengths_of, records_answer, settled, widths_of, with_profit}
unfoldable pub use Rattle.rack.specs.Records.{paid}
pub use Rattle.std.proofs.Common.{Ok, Err}
pub use Rattle.std.specs.Result.{IsErrAnd}
pub use Rattle.refusal.proofs.Results.{handed, value_answered}
pub use Rattle.promises.specs.Refusals.{Checked, Answer, passed}
