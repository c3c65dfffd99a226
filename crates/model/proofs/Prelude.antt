-- What the proofs of this crate take from libraries and from other crates, named once.
pub use Prim.Native.Nat.{◌+◌, ◌-◌, ◌<◌, ◌≤◌, min, suc, zero, ℕ}
pub use borrow.Author.Tests.{le-leb, le-ltb, lt-leb, lt-ltb}
pub use lib.Dec.{T, leb, ltb}
pub use lib.ListN.{get_or-eq_default as List·getD-eq-default, length}
pub use mathlib.Core.Bool.{Bool, ◌&&◌, false, not, true}
pub use mathlib.Core.List.{List, [], ◌∷◌}
pub use mathlib.Core.Path.{◌∙◌, ◌≡◌, ap, ap₂, refl, subst, sym}
pub use native.Mathlib.Decide.{dec_lt}
pub use native.Mathlib.Omega.{arith}
pub use Rattle.chains.proofs.Ways.{no_way, one_way, two_ways}
pub use Rattle.chains.specs.Table.{Repeated, entry, most_entry}
pub use Rattle.cutting.proofs.Chains.{chains_test, tested_relaxes}
pub use Rattle.cutting.proofs.Relaxation.{relaxed_none, relaxed_staged}
pub use Rattle.cutting.specs.Chains.{without}
unfoldable pub use Rattle.cutting.specs.Chains.{chains_fit, copies_more, fitting_ways, least, lowest, one_more}
pub use Rattle.cutting.specs.Job.{InRange, Job, SolidKinds, laid, turns}
pub use Rattle.cutting.specs.Limits.{most_true_side}
pub use Rattle.cutting.specs.Lists.{keep}
unfoldable pub use Rattle.cutting.specs.Lists.{filter}
pub use Rattle.cutting.specs.Pieces.{fits_in, quarter, turned, upright, ways}
pub use Rattle.cutting.specs.Relaxation.{ChainsFit, Relaxes, room, taken}
pub use Rattle.cutting.specs.Tree.{Rect, side}
pub use Rattle.job.proofs.Checks.{check_last, check_passes, check_stops, cons_passed, next_passes, passed_both}
pub use Rattle.job.specs.Block.{count_at, job_checks, job_of}
pub use Rattle.job.specs.Weights.{block_job}
pub use Rattle.promises.specs.declared.Choices.{Choices}
pub use Rattle.promises.specs.declared.Direction.{Direction}
pub use Rattle.promises.specs.declared.Direction.TheVariants.{Length, Width}
pub use Rattle.promises.specs.declared.JobRecord.{JobRecord}
pub use Rattle.promises.specs.declared.Refusal.{Refusal}
pub use Rattle.promises.specs.declared.Refusal.TheVariants.{NoModel}
pub use Rattle.refusal.specs.Refusals.{Answer, Checked, next, outcome_by, passed, refuse_when}
unfoldable pub use Rattle.refusal.specs.Refusals.{first_refusal}
pub use Rattle.sizes.proofs.Read.{given, ranges, stopped, true_kinds}
pub use Rattle.sizes.specs.Sizes.{TrueRange, block_true_job, sizes_checks, sizes_of, true_job, true_read, true_verdict}
pub use Rattle.sizes.specs.declared.TrueJob.{TrueJob}
pub use Rattle.sizes.specs.declared.TrueSizes.{TrueSizes}
pub use Rattle.model.specs.Model.{ModelPromises, StandsFor, model_verdict}
unfoldable pub use Rattle.model.specs.Model.{model_checks}
pub use Rattle.model.specs.Tables.{Added, Fitting, Tabled, WayOf, cleared, lies_so, model_span_at, taken_by, true_plate, true_span_at, turned_span, way_by}
pub use Rattle.model.specs.declared.Span.{Span}
pub use Rattle.model.specs.declared.Way.{Way}
pub use Rattle.std.proofs.Common.{Ok, Err}
