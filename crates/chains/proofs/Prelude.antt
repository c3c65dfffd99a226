-- What the proofs of this crate take from libraries and from other crates, named once.
pub use Prim.Native.Nat.{◌+◌, ◌-◌, ◌<◌, ◌≤◌, min, suc, zero, ℕ}
pub use borrow.Author.Rules.{rules}
pub use borrow.Author.Tests.{eqb-true}
pub use lib.ListN.{get_or, length, length-set, set}
pub use lib.Seq.{get_or-set_other, get_or-set_same}
pub use mathlib.Core.Bool.{Bool, true, false, ◌&&◌}
pub use lib.Dec.{eqb}
pub use mathlib.Core.List.{List, [], ◌∷◌}
pub use mathlib.Core.Path.{◌∙◌, ◌≡◌, ap, refl, subst, sym}
pub use native.Mathlib.Decide.{dec_lt, ℕ_discrete}
pub use native.Mathlib.Numerals.{add-one}
pub use native.Mathlib.Omega.{arith}
pub use Rattle.cutting.specs.Chains.{fitting_ways}
unfoldable pub use Rattle.cutting.specs.Chains.{copies_more, lowest, one_more}
pub use Rattle.cutting.specs.Job.{Job}
pub use Rattle.cutting.specs.Pieces.{Piece}
pub use Rattle.cutting.specs.Relaxation.{taken}
pub use Rattle.promises.specs.declared.Direction.{Direction}
pub use Rattle.chains.specs.Table.{Passed, Repeated, Settled, Steps, Swept, Unmoved, entry, most_entry}
unfoldable pub use Rattle.chains.specs.Table.{repeated, stepped}
