-- What the proofs of this crate take from libraries and from other crates, named once.
pub use Prim.Native.Nat.{◌*◌, ◌+◌, ◌-◌, ◌<◌, ◌≤◌, ℕ}
pub use borrow.Author.Rules.{rules}
pub use borrow.Author.Tests.{leb-true}
pub use lib.Dec.{T}
pub use lib.ListN.{get_or, length, length-set, set, take}
pub use lib.Seq.{get_or-set_other, get_or-set_same}
pub use mathlib.Core.Bool.{Bool}
pub use mathlib.Core.List.{List}
pub use mathlib.Core.Logic.{⊎_elim}
pub use mathlib.Core.Path.{◌∙◌, ◌≡◌, ap, refl, sym}
pub use native.Mathlib.Decide.{dec_le, ℕ_discrete}
pub use native.Mathlib.Omega.{arith}
pub use Rattle.std.proofs.lemmas.List.{get_or-take, length-take-le}
pub use Rattle.states.proofs.Carries.{summed_kept}
pub use Rattle.states.proofs.Growing.{growing_kept, grown_none, grown_then}
pub use Rattle.states.proofs.Topping.{topped_then}
pub use Rattle.states.specs.States.{Grown, Low, Rises, Taken, Topped, figure_in, held, mark, mark_in, note, note_in, under}
pub use Rattle.table.proofs.Halves.{remainder_is}
pub use Rattle.table.specs.Words.{Cuts, Outside, remainder}
pub use Rattle.state_joins.specs.Joins.{Among, CutAt, Cuttable, Entry, Gathered, Joined, JoinedWith, Listed, Marked, Numbers, Ready, Served}
