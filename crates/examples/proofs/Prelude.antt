-- What the proofs of this crate take from libraries and from other crates, named once.
pub use Prim.Native.Nat.{◌*◌, ◌+◌, ◌-◌, ◌<◌, ◌≤◌, min, suc, ℕ}
pub use borrow.Author.Tests.{le-ltb, lt-ltb}
pub use lib.Dec.{leb, ltb}
pub use lib.ListN.{length}
pub use mathlib.Core.Bool.{Bool, ◌||◌, false, true}
pub use mathlib.Core.List.Memᴰ.{cases_cons as List·Memᴰ·cases-cons, not-nil as List·Memᴰ·not-nil}
pub use mathlib.Core.List.{List, Memᴰ as List-as-Memᴰ, [], ◌++◌, ◌∷◌}
pub use mathlib.Core.Logic.{◌⊎◌, inl, inr}
pub use mathlib.Core.Path.{◌∙◌, ◌≡◌, ap, refl, subst, sym}
pub use native.Mathlib.Omega.{arith}
pub use Rattle.bound.proofs.Holds.{bound_held}
pub use Rattle.bound.specs.Bound.{Memory, bound_said, bound_values, memory_checks, wide_job}
pub use Rattle.certificate.specs.Certificate.{certificate_of, certificate_said, compared, plan_profit}
pub use Rattle.cutting.proofs.Finer.{staged_finer}
pub use Rattle.cutting.proofs.Members.{range_solid, widened_solid}
pub use Rattle.cutting.proofs.Staged.{staged_holds}
pub use Rattle.cutting.proofs.Table.{figure_normal}
unfoldable pub use Rattle.cutting.specs.Choice.{choice, plan_within, sawn, written}
unfoldable pub use Rattle.cutting.specs.Figure.{after, best, figure, leaf, step}
pub use Rattle.cutting.specs.Job.{Job, bound_of, by_kind, capacity, finer, laid, normal_side, turns}
unfoldable pub use Rattle.cutting.specs.Job.{lossless_plan, members, normal_positions, ordered, pieces, plan_of}
pub use Rattle.cutting.specs.Limits.{most_limit}
pub use Rattle.cutting.specs.Lists.{keep}
unfoldable pub use Rattle.cutting.specs.Lists.{any, each, filter, greatest, range, sum}
unfoldable pub use Rattle.cutting.specs.Neat.{neat, used}
pub use Rattle.cutting.specs.Normal.{normal}
unfoldable pub use Rattle.cutting.specs.Normal.{normal?, sides, summed}
pub use Rattle.cutting.specs.Pieces.{Piece, kind, ways}
unfoldable pub use Rattle.cutting.specs.Pieces.{sized}
unfoldable pub use Rattle.cutting.specs.Preorder.{kinds_of, node_count, operands_of, preorder}
pub use Rattle.cutting.specs.Promises.{NoneAbove, NoneFiner}
unfoldable pub use Rattle.cutting.specs.Saws.{floor, saw_normal, saw_written}
unfoldable pub use Rattle.cutting.specs.Shares.{by_weight, stages, stages_below}
pub use Rattle.cutting.specs.Staged.{NoneStaged, NoneStagedFiner, staged_bound}
unfoldable pub use Rattle.cutting.specs.Staged.{along, block, changes}
pub use Rattle.cutting.specs.Tree.{Rect, side, waste}
unfoldable pub use Rattle.cutting.specs.Tree.{total}
pub use Rattle.idle.specs.Idle.{is_idle}
unfoldable pub use Rattle.idle.specs.Idle.{idle_checks, pieceless}
pub use Rattle.job.proofs.Weights.{accepted_in_range}
pub use Rattle.job.specs.Block.{demand_at, outside, price_at}
unfoldable pub use Rattle.job.specs.Block.{each_kind, entries, job_checks, record_of}
pub use Rattle.job.specs.Weights.{Accepted, block_job, weight_in}
pub use Rattle.neat.specs.Neat.{block_neat, neat_said}
pub use Rattle.plan.proofs.Whole.{walks_on}
pub use Rattle.plan.specs.Calls.{JobPasses}
pub use Rattle.plan.specs.Plan.{empty_report, node_checks, node_of, nodes_in, proceed}
unfoldable pub use Rattle.plan.specs.Plan.{plan_answer, walk, walk_answer}
unfoldable pub use Rattle.plan.specs.Trees.{trees_in}
pub use Rattle.promises.specs.declared.Choices.{Choices}
pub use Rattle.promises.specs.declared.Direction.{Direction}
pub use Rattle.promises.specs.declared.Direction.TheVariants.{Length, Width}
pub use Rattle.promises.specs.declared.Refusal.{Refusal}
pub use Rattle.promises.specs.declared.Refusal.TheVariants.{IdleCut, TableShort}
pub use Rattle.promises.specs.declared.Report.{Report}
pub use Rattle.refusal.specs.Refusals.{Check, next, number_of, place_of, refuse_when}
unfoldable pub use Rattle.refusal.specs.Refusals.{first_refusal}
unfoldable pub use Rattle.saw.specs.Parts.{extent}
unfoldable pub use Rattle.saw.specs.Saw.{saw_checks}
pub use Rattle.staged_bound.specs.Staged.{staged_block_report, staged_said}
unfoldable pub use Rattle.stages.specs.Stages.{above_checks, node_paths}
pub use Rattle.table.specs.Staged.{staged_words}
pub use Rattle.table.specs.Table.{position_count, words_needed}
pub use Rattle.writer.specs.Write.{block_plan, write_said}
pub use Rattle.examples.specs.Examples.{Beginning, Enough, Example, ExampleHolds, LongLists, PassedTo, RefusedAs, TooShort, misfit_job, old_block}
unfoldable pub use Rattle.examples.specs.Examples.{marked}
pub use Rattle.std.proofs.Common.{Ok, Err}
pub use Rattle.promises.specs.Refusals.{Checked, Answer, passed, verdict_of}
