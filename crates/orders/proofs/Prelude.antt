-- What the proofs of this crate take from libraries and from other crates, named once.
pub use Prim.Native.Nat.{◌%◌, ◌*◌, ◌+◌, ◌-◌, ◌/◌, ◌<◌, ◌≤◌, suc, zero, ℕ}
pub use borrow.Author.Rules.{rules}
pub use borrow.Author.Tests.{eq-eqb, le-ltb, lt-ltb, ne_eqb}
pub use lib.Dec.{eqb, ltb}
pub use lib.ListN.{get_or}
pub use mathlib.Core.Bool.{Bool, false, true}
pub use mathlib.Core.List.{List}
pub use mathlib.Core.Path.{◌∙◌, ◌≡◌, ap, ap₂, refl, sym}
pub use native.Mathlib.Decide.{ℕ_discrete}
pub use native.Mathlib.Nat.{div-add-mod', mod-lt, mul-le-mul, mul-le-mul_right}
pub use native.Mathlib.Omega.{arith}
pub use Rattle.cutting.proofs.AnyKinds.{none_any}
pub use Rattle.cutting.proofs.Bound.{bound_holds}
pub use Rattle.cutting.proofs.Demands.{copies_weight, sum_add, sum_le, sum_none}
pub use Rattle.cutting.proofs.Finer.{none_finer}
pub use Rattle.cutting.proofs.Relaxation.{relaxed_none}
pub use Rattle.cutting.specs.Job.{Job, KeepsDemands, SolidKinds, bound_of, copies_of, finer, profit}
pub use Rattle.cutting.specs.Limits.{most_demand, most_kinds, most_price}
pub use Rattle.cutting.specs.Lists.{only}
unfoldable pub use Rattle.cutting.specs.Lists.{sum}
pub use Rattle.cutting.specs.Pieces.{Piece, kind}
pub use Rattle.cutting.specs.Promises.{NoneAbove, NoneBetter, NoneFiner}
pub use Rattle.cutting.specs.Relaxation.{Relaxes, SameKinds}
pub use Rattle.cutting.specs.Tree.{Rect, Tree}
pub use Rattle.orders.specs.Orders.{CheaperNotHeld, Fewest, HoldsBeside, HoldsOrder, NoFewer, NotHeld, NotHeldBeside, amount_in, endless, left_beside, most_worth, order_worth, plates_by, plates_for, plates_needed, worth_at}
pub use Rattle.orders.specs.Racks.{AnyOnFinerPlates, AnyOnPlates, NoneTogether, NoneTogetherFiner, SharesDemands, plated, rack_bound, rack_profit}
