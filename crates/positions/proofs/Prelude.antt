-- What the proofs of this crate take from libraries and from other crates, named once.
pub use Prim.Native.Nat.{◌*◌, ◌+◌, ◌-◌, ◌<◌, ◌≤◌, suc, zero, ℕ}
pub use borrow.Author.Count.{below_more}
pub use borrow.Author.Rules.{rules}
pub use borrow.Author.Tests.{le-leb, lt-leb}
pub use lib.Dec.{T, leb}
pub use lib.ListN.{get_or-append as List·getD-append, get_or-eq_default as List·getD-eq-default, drop, get_or, length, length-append, length-map, length-set, set, take}
pub use lib.Seq.{append_snoc, drop-cons, get_or-set_other, get_or-set_same, get_or-take, length-take-le, set-append_seam, take-append_seam}
pub use mathlib.Core.Bool.{Bool, and_comm, false, true}
pub use mathlib.Core.List.{List, Memᴰ as List-as-Memᴰ, [], ◌++◌, ◌∷◌, append-nil, map}
pub use mathlib.Core.Logic.{⊎_elim}
pub use mathlib.Core.Path.{◌∙◌, ◌≡◌, ap, refl, subst, sym}
pub use native.Mathlib.Decide.{dec_le}
pub use native.Mathlib.Numerals.{add-one}
pub use native.Mathlib.Omega.{arith}
pub use Rattle.cutting.proofs.Listed.{plain_sides}
pub use Rattle.cutting.proofs.Lists.{filter_length, filter_map_cong, mem_filter, mem_map, mem_range, range_length}
pub use Rattle.cutting.proofs.Normal.{normal_sum}
pub use Rattle.cutting.proofs.Pieces.{true_fits_in}
pub use Rattle.cutting.proofs.Positions.{get_or_mem, mem_get_or}
pub use Rattle.cutting.proofs.Table.{positions_first, positions_floor, positions_rise, positions_some}
pub use Rattle.cutting.specs.Job.{Job, normal_floor}
unfoldable pub use Rattle.cutting.specs.Job.{normal_positions}
pub use Rattle.cutting.specs.Listed.{pieces_job, price_in, size_in}
pub use Rattle.cutting.specs.Lists.{keep}
unfoldable pub use Rattle.cutting.specs.Lists.{filter, range}
pub use Rattle.cutting.specs.Normal.{Sum, empty, more, normal?}
unfoldable pub use Rattle.cutting.specs.Normal.{normals, sides}
pub use Rattle.cutting.specs.Pieces.{fits_in}
pub use Rattle.cutting.specs.Tree.{Rect, side}
pub use Rattle.promises.specs.declared.Direction.{Direction}
pub use Rattle.promises.specs.declared.Direction.TheVariants.{Length, Width}
pub use Rattle.positions.specs.Clauses.{Floors, Holds, LastUpTo, Marked, Positive, Rising, entry, field_in, piece_fits, positions_of}
unfoldable pub use Rattle.positions.specs.Clauses.{fitting}
