-- What the proofs of this crate take from libraries and from other crates, named once.
pub use Prim.Native.Nat.{◌*◌, ◌+◌, ◌-◌, ◌<◌, ◌≤◌, suc, zero, ℕ}
pub use borrow.Author.Rules.{rules}
pub use borrow.Author.Tests.{le-leb}
pub use lib.Dec.{leb}
pub use lib.ListN.{get_or-append as List·getD-append, get_or, length, length-append, length-set, set}
pub use lib.Seq.{get_or-set_other, get_or-set_same}
pub use mathlib.Core.Bool.{Bool, false, true}
pub use mathlib.Core.List.{List, [], ◌++◌, ◌∷◌, append_assoc, append-nil}
pub use mathlib.Core.Path.{◌∙◌, ◌≡◌, ap, ap₂, refl, subst, sym}
pub use native.Mathlib.Decide.{ℕ_discrete}
pub use native.Mathlib.Omega.{arith}
pub use Rattle.cutting.proofs.Lists.{each_length, filter_length, range_length}
pub use Rattle.cutting.proofs.Members.{ways_count}
pub use Rattle.cutting.specs.Job.{Job, turns, widened}
unfoldable pub use Rattle.cutting.specs.Job.{members, ordered}
pub use Rattle.cutting.specs.Listed.{PieceArray}
pub use Rattle.cutting.specs.Lists.{keep}
unfoldable pub use Rattle.cutting.specs.Lists.{each, filter, range}
pub use Rattle.cutting.specs.Pieces.{upright, ways}
pub use Rattle.job.specs.Block.{job_of}
pub use Rattle.job.specs.Weights.{weight_in}
pub use Rattle.pieces.specs.Clauses.{At, Listed, entry_of, turned_piece, with_piece}
pub use Rattle.pieces.specs.declared.Piece.{Piece}
