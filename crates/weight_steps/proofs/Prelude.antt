-- What the proofs of this crate take from libraries and from other crates, named once.
pub use Prim.Native.Nat.{◌*◌, ◌+◌, ◌-◌, ◌/◌, ◌<◌, ◌^◌, ◌≤◌, min, suc, zero, ℕ}
pub use borrow.Author.Rules.{rules}
pub use borrow.Author.Tests.{eqb-true, le-leb, le-ltb, lt-leb, lt-ltb, not-false}
pub use lib.Dec.{eqb, leb, ltb}
pub use lib.ListN.{get_or, length}
pub use mathlib.Core.Bool.{Bool, ◌||◌, false, not, true}
pub use mathlib.Core.Path.{◌∙◌, ◌≡◌, ap, ap₂, refl, sym}
pub use native.Mathlib.Decide.{dec_le, ℕ_discrete}
pub use native.Mathlib.Nat.{add-div_right, div-div-eq-div-mul, div-eq_of_lt, div-le_self, mul-le-mul, mul-le-mul_right, pow-suc}
pub use native.Mathlib.Omega.{arith}
unfoldable pub use Rattle.cutting.specs.Lists.{any, range, sum}
pub use Rattle.job.proofs.Entries.{entries_length, entries_more, entries_none}
pub use Rattle.job.proofs.Weights.{sum_more, sum_none}
pub use Rattle.job.specs.Block.{entries}
pub use Rattle.weight_steps.specs.Step.{StepRules, WholeRoot, distance, factor, factors, most_rounds, pick_number, scale, stepped, weight_step}
unfoldable pub use Rattle.weight_steps.specs.Step.{root_below}
