-- What the proofs of this crate take from libraries and from other crates, named once.
pub use Prim.Native.Nat.{◌*◌, ◌+◌, ◌-◌, ◌/◌, ◌<◌, ◌≤◌, suc, zero, ℕ}
pub use borrow.Author.Rules.{rules}
pub use borrow.Author.Tests.{eq-eqb, eqb-true, le-ltb, lt-ltb, ltb-false, ne_eqb, not-false}
pub use lib.Dec.{eqb, ltb}
pub use lib.ListN.{get_or-eq_default as List·getD-eq-default, get_or, length, length-map, length-set, replicate, set}
pub use lib.Seq.{ext_get_or, get_or-set_other, get_or-set_same}
pub use mathlib.Core.Bool.{Bool, ◌&&◌, ◌||◌, false, not, true}
pub use mathlib.Core.List.{List, [], ◌++◌, ◌∷◌, append-nil, map}
pub use mathlib.Core.Path.{◌∙◌, ◌≡◌, ap, ap₂, refl, subst, sym}
pub use native.Mathlib.Decide.{dec_le, dec_lt, ℕ_discrete}
pub use native.Mathlib.Nat.{mul-le-mul}
pub use native.Mathlib.Omega.{arith}
pub use Rattle.cutting.proofs.Grain.{alike_copies, alike_members, loose_turns}
pub use Rattle.cutting.proofs.Lists.{range_length}
pub use Rattle.cutting.specs.Areas.{area}
pub use Rattle.cutting.specs.Job.{InRange, Job, capacity, copies_on, counted, counted_of, turns}
pub use Rattle.cutting.specs.Limits.{most_kerf, most_kinds}
pub use Rattle.cutting.specs.Lists.{only}
unfoldable pub use Rattle.cutting.specs.Lists.{range, sum}
pub use Rattle.cutting.specs.Sides.{rect_of}
pub use Rattle.promises.specs.declared.Choices.{Choices}
pub use Rattle.promises.specs.declared.JobRecord.{JobRecord}
pub use Rattle.promises.specs.declared.Refusal.{Refusal}
pub use Rattle.promises.specs.declared.Refusal.TheVariants.{BlockLength, Demand, Grain, Kerf, KindCount, KindSide, PlateSide, Price, ShortHeader}
pub use Rattle.refusal.specs.Refusals.{Check, by_check, next, outcome_by, refuse_when}
unfoldable pub use Rattle.refusal.specs.Refusals.{first_refusal}
pub use Rattle.job.specs.Block.{KerfNone, KerfNoneRead, ReadAlike, array_checks, checks_by, count_at, count_checks, demand_at, demand_check, empty_record, grain_at, grain_check, grain_checks, grains_of, header_checks, job_from, job_of, job_outcome, job_values, kerf_at, kind_bytes, length_at, outside, pair_checks, plate_length_at, plate_width_at, plateless_checks, price_at, read_by, read_of, sides_outside, size_check, sizes_end, u16_at, u32_at, width_at, with_old_block}
unfoldable pub use Rattle.job.specs.Block.{each_kind, entries, job_checks, record_of}
pub use Rattle.job.specs.Clauses.{HoldsGrains, header_by, pairs_by}
pub use Rattle.job.specs.Grain.{Ungrained}
pub use Rattle.job.specs.Weights.{Accepted, acceptance_of, acceptance_outcome, acceptance_said, block_job, weight_checks, weight_in, weights_answer, weights_outcome, weights_said}
pub use Rattle.job.specs.declared.Acceptance.{Acceptance}
pub use Rattle.std.proofs.Common.{Ok, Err}
pub use Rattle.promises.specs.Refusals.{Checked, Answer, passed}
