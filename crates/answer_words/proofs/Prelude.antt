-- What the proofs of this crate take from libraries and from other crates, named once.
pub use Prim.Native.Nat.{◌+◌, ◌-◌, ◌<◌, ◌≤◌, suc, ℕ}
pub use borrow.Author.Rules.{rules}
pub use borrow.Kind.Array.{e_int, good_length}
pub use lib.ListN.{drop, drop_of_length-le, get_or, length, length-append, length-set, replicate, set, take}
pub use lib.Seq.{drop-drop, ext_get_or, length-sets, lt-length-set, lt-length-sets, paste, paste-suc, paste-zero, sets, sets-eq, take-length}
pub use mathlib.Core.List.{List, [], ◌++◌, ◌∷◌, append_assoc, append-nil}
pub use mathlib.Core.Path.{◌∙◌, ◌≡◌, ap, ap₂, refl, subst, sym}
pub use mir.Syntax.{w16, w64, w8}
pub use native.Mathlib.Numerals.{add-one}
pub use native.Mathlib.Omega.{arith}
pub use Rattle.cutting.proofs.Lists.{over_sets}
pub use Rattle.cutting.specs.Lists.{over}
pub use Rattle.promises.specs.Calls.{plan_values}
pub use Rattle.promises.specs.declared.Refusal.{Refusal}
pub use Rattle.refusal.specs.Refusals.{Outcome, by_check, number_of, outcome_by, place_of, refused_as}
pub use Rattle.answer_words.specs.Words.{Gives}
