-- What the proofs of this crate take from libraries and from other crates, named once.
pub use Prim.Native.Nat.{◌+◌, ◌-◌, ◌<◌, ◌≤◌, suc, zero, ℕ}
pub use borrow.Author.Tests.{eqb-false, lt-ltb, ne_eqb}
pub use lib.Dec.{eqb, ltb}
pub use lib.ListN.{drop, get_or, length, length-drop}
pub use lib.Seq.{drop-cons, drop-length}
pub use mathlib.Core.Bool.{false}
pub use mathlib.Core.List.{List, [], ◌++◌, ◌∷◌, append_assoc, append-nil}
pub use mathlib.Core.Path.{◌∙◌, ◌≡◌, ap, ap₂, refl, sym}
pub use native.Mathlib.Numerals.{add-one}
pub use native.Mathlib.Omega.{arith}
pub use Rattle.cutting.proofs.Preorder.{count_cut, kinds_cut}
pub use Rattle.cutting.specs.Preorder.{kind_of}
unfoldable pub use Rattle.cutting.specs.Preorder.{kinds_of, node_count, preorder}
pub use Rattle.cutting.specs.Tree.{IdleFree, Tree, cut, piece, piece_count, waste}
unfoldable pub use Rattle.cutting.specs.Tree.{total}
pub use Rattle.job.proofs.Checks.{append_passed, cons_passed, passed_append}
pub use Rattle.node.specs.Nodes.{node_of}
pub use Rattle.promises.specs.declared.Direction.{Direction}
pub use Rattle.promises.specs.declared.Direction.TheVariants.{Length, Width}
pub use Rattle.promises.specs.declared.Node.{Node}
pub use Rattle.promises.specs.declared.Node.TheVariants.{Cut, Piece, Turned, Waste}
pub use Rattle.promises.specs.declared.Refusal.TheVariants.{IdleCut}
pub use Rattle.refusal.specs.Refusals.{next, refuse_when}
unfoldable pub use Rattle.refusal.specs.Refusals.{first_refusal}
pub use Rattle.idle.specs.Idle.{is_idle, pieceless_from}
unfoldable pub use Rattle.idle.specs.Idle.{idle_checks, pieceless, tree_checks}
pub use Rattle.std.proofs.Common.{Ok, Err}
pub use Rattle.promises.specs.Refusals.{Checked, passed}
