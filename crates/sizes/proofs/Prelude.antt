-- What the proofs of this crate take from libraries and from other crates, named once.
pub use Prim.Native.Nat.{◌*◌, ◌+◌, ◌<◌, ◌≤◌, ℕ}
pub use borrow.Author.Tests.{eqb-true, ltb-false, not-false}
pub use lib.Dec.{eqb, ltb}
pub use lib.ListN.{length}
pub use mathlib.Core.Bool.{false}
pub use mathlib.Core.List.{List, [], ◌∷◌}
pub use mathlib.Core.Path.{◌∙◌, ◌≡◌, ap, ap₂, refl, subst, sym}
pub use native.Mathlib.Omega.{arith}
pub use Rattle.cutting.specs.Job.{InRange, Job}
pub use Rattle.cutting.specs.Limits.{most_true_kerf, most_true_side}
pub use Rattle.cutting.specs.Relaxation.{SameKinds}
pub use Rattle.job.proofs.Checks.{Decides, check_last, check_passes, check_stops, cons_passed, each_passed, ends, passed_both, passes, stops}
pub use Rattle.job.proofs.Entries.{entries_in}
pub use Rattle.job.proofs.Read.{answered, inside, or_false, read_in_range}
pub use Rattle.job.specs.Block.{count_at, each_kind, job_checks, outside, read_of, u32_at}
unfoldable pub use Rattle.job.specs.Block.{record_of}
pub use Rattle.job.specs.Weights.{block_job}
pub use Rattle.promises.specs.declared.Choices.{Choices}
pub use Rattle.promises.specs.declared.Refusal.{Refusal}
pub use Rattle.promises.specs.declared.Refusal.TheVariants.{TrueSize}
pub use Rattle.refusal.specs.Refusals.{Answer, first_refusal, passed, refuse_when}
pub use Rattle.sizes.specs.Sizes.{TrueRange, block_true_job, kind_check, sizes_read, true_job, true_kerf_at, true_length_at, true_plate_length_at, true_plate_width_at, true_read, true_sides_outside, true_verdict, true_width_at}
unfoldable pub use Rattle.sizes.specs.Sizes.{sizes_checks, sizes_of}
pub use Rattle.sizes.specs.declared.TrueJob.{TrueJob}
pub use Rattle.sizes.specs.declared.TrueSizes.{TrueSizes}
pub use Rattle.std.proofs.Common.{Ok, Err}
pub use Rattle.promises.specs.declared.JobRecord.{JobRecord}
