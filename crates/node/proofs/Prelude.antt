-- What the proofs of this crate take from libraries and from other crates, named once.
pub use Prim.Native.Nat.{◌+◌, ◌-◌, ◌<◌, ◌≤◌, ℕ}
pub use borrow.Author.Tests.{eqb-false, eqb-true, le-ltb, leb-false, lt-leb, ltb-false, not-false}
pub use lib.Dec.{T, eqb, leb, ltb}
pub use lib.ListN.{get_or, set}
pub use mathlib.Core.Bool.{Bool, ◌&&◌, false, not, true}
pub use mathlib.Core.List.{List}
pub use mathlib.Core.Path.{◌∙◌, ◌≡◌, ap, ap₂, refl, subst, sym}
pub use native.Mathlib.Omega.{arith}
pub use Rattle.cutting.specs.Job.{Job, MayLie, laid}
pub use Rattle.cutting.specs.Pieces.{fits_in}
pub use Rattle.cutting.specs.Preorder.{kind_of, operand_of}
pub use Rattle.cutting.specs.Sides.{rect_of}
pub use Rattle.cutting.specs.Tree.{Rect, side}
pub use Rattle.job.proofs.Checks.{cons_passed, next_passed}
pub use Rattle.job.specs.Block.{job_from, outside}
pub use Rattle.promises.specs.declared.Direction.{Direction}
pub use Rattle.promises.specs.declared.Direction.TheVariants.{Length, Width}
pub use Rattle.promises.specs.declared.Node.{Node}
pub use Rattle.promises.specs.declared.Node.TheVariants.{Cut, Piece, Turned, Waste}
pub use Rattle.promises.specs.declared.Refusal.{Refusal}
pub use Rattle.promises.specs.declared.Refusal.TheVariants.{AgainstGrain, Excess, Misfit, NodeKind, Operand, PieceNumber}
pub use Rattle.refusal.specs.Refusals.{next, refuse_when}
unfoldable pub use Rattle.refusal.specs.Refusals.{first_refusal}
pub use Rattle.node.specs.Nodes.{against_grain, copied, excess, misfit, misplaced, most_kind, node_checks, node_of, tallied, unnumbered, with_cut, with_piece, with_waste}
pub use Rattle.node.specs.Placed.{Grows, Placed, Sized, laying, lying_as}
pub use Rattle.node.specs.declared.Tally.{Tally}
pub use Rattle.std.proofs.Common.{Ok, Err}
pub use Rattle.promises.specs.Refusals.{Checked, Answer, passed}
