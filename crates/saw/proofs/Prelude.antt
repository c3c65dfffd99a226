-- What the proofs of this crate take from libraries and from other crates, named once.
pub use Prim.Native.Nat.{◌*◌, ◌+◌, ◌-◌, ◌<◌, ◌≤◌, suc, zero, ℕ}
pub use borrow.Author.Tests.{le-ltb, lt-ltb, ltb-false, ltb-true}
pub use denote.Ref.{Bor}
pub use lib.Dec.{eqb, ltb}
pub use lib.ListN.{get_or-append as List·getD-append, drop, drop_of_length-le, get_or, length, length-append, length-map, length-set, set, take}
pub use lib.Seq.{drop-append-add, drop-cons, get_or-append-add, get_or-set_other, get_or-set_same, take_at}
pub use mathlib.Core.Bool.{Bool, ◌||◌, false, not, true}
pub use mathlib.Core.List.{List, [], ◌++◌, ◌∷◌, append_assoc, append-nil, map, map-append}
pub use mathlib.Core.Path.{◌∙◌, ◌≡◌, ap, ap₂, refl, subst, sym}
pub use native.Mathlib.Decide.{dec_lt}
pub use native.Mathlib.Numerals.{add-one}
pub use native.Mathlib.Omega.{arith}
pub use Rattle.cutting.proofs.Preorder.{count_cut}
pub use Rattle.cutting.specs.Areas.{area, breadth}
pub use Rattle.cutting.specs.Job.{InRange, Job, laid}
pub use Rattle.cutting.specs.Limits.{most_demand, most_price}
pub use Rattle.cutting.specs.Lists.{only, range}
pub use Rattle.cutting.specs.Preorder.{kind_of, operand_of}
unfoldable pub use Rattle.cutting.specs.Preorder.{kinds_of, node_count, operands_of, preorder}
pub use Rattle.cutting.specs.Tree.{Rect, Tree, cut, piece, waste}
unfoldable pub use Rattle.idle.specs.Idle.{idle_checks}
pub use Rattle.job.proofs.Checks.{cons_passed}
pub use Rattle.job.proofs.Entries.{entries_past}
pub use Rattle.job.proofs.Read.{block_parts, block_passed, header_holds, header_passed, pair_passed, range_by, sizes_least}
pub use Rattle.job.specs.Block.{array_checks, count_at, demand_at, grain_at, grain_check, grain_checks, grains_of, header_checks, job_of, job_outcome, job_values, kerf_at, kind_bytes, length_at, outside, pair_checks, plate_length_at, plate_width_at, price_at, read_by, size_check, sizes_end, u16_at, u32_at, width_at}
unfoldable pub use Rattle.job.specs.Block.{each_kind, entries, job_checks, record_of}
pub use Rattle.job.specs.Clauses.{HoldsBlock}
pub use Rattle.job.specs.Weights.{block_job}
pub use Rattle.plan.proofs.Parse.{no_pass}
pub use Rattle.plan.proofs.Plans.{checked_after, plans_checked}
pub use Rattle.plan.proofs.Preorder.{kinds_length, operands_length}
pub use Rattle.plan.specs.Calls.{arrays_answer}
pub use Rattle.plan.specs.Plan.{empty_report, node_checks, node_of, nodes_in, parts, plan_checks, proceed, report_after}
unfoldable pub use Rattle.plan.specs.Plan.{plan_answer, walk, walk_answer}
pub use Rattle.plan.specs.Trees.{ChecksPlan, PlanOf}
pub use Rattle.promises.specs.declared.Choices.{Choices}
pub use Rattle.promises.specs.declared.Direction.{Direction}
pub use Rattle.promises.specs.declared.Direction.TheVariants.{Length, Width}
pub use Rattle.promises.specs.declared.JobRecord.{JobRecord}
pub use Rattle.promises.specs.declared.Node.{Node}
pub use Rattle.promises.specs.declared.Node.TheVariants.{Cut, Piece, Turned, Waste}
pub use Rattle.promises.specs.declared.Part.{Part}
pub use Rattle.promises.specs.declared.Refusal.{Refusal}
pub use Rattle.promises.specs.declared.Refusal.TheVariants.{BlockLength, Demand, Grain, Kerf, KindCount, KindSide, PlateSide, Price, ShortHeader}
pub use Rattle.promises.specs.declared.Report.{Report}
pub use Rattle.promises.specs.declared.SawReport.{SawReport}
pub use Rattle.refusal.proofs.Results.{given_answer, handed, refusal_answered, refused_answer, told, value_answered, verdict_is}
pub use Rattle.refusal.specs.Refusals.{Answer, Check, Checked, by_check, next, passed, refuse_when, refused_as, verdict_of}
unfoldable pub use Rattle.refusal.specs.Refusals.{first_refusal}
pub use Rattle.saw.specs.Parts.{AtEnd, HandsBack, IsPart, between, end_of, left_after, node_part, part_by, part_if, tree_at}
unfoldable pub use Rattle.saw.specs.Parts.{extent, subtrees}
pub use Rattle.saw.specs.Prices.{AtAnyPrices, BesideOffice, OnlyPrices, PriceByte, PricesFree}
pub use Rattle.saw.specs.Saw.{NeverSix, SawChecks, SawPasses, demand_checks, saw_answer, saw_job, saw_of, saw_outcome, saw_read, saw_read_said, saw_record, saw_said, without_profit}
unfoldable pub use Rattle.saw.specs.Saw.{saw_checks}
pub use Rattle.std.proofs.Common.{Ok, Err}
