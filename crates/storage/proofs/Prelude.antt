-- What the proofs of this crate take from libraries and from other crates, named once.
pub use Prim.Native.Nat.{◌*◌, ◌+◌, ◌-◌, ◌<◌, ◌≤◌, ℕ}
pub use borrow.Author.Tests.{ltb-false}
pub use lib.Dec.{ltb}
pub use lib.ListN.{get_or-append as List·getD-append, drop, length, length-append, length-drop, take}
pub use lib.Seq.{drop-append_seam, length-take-le, take-append_seam}
pub use mathlib.Core.Bool.{Bool, ◌||◌, false, true}
pub use mathlib.Core.List.{List, ◌++◌}
pub use mathlib.Core.Path.{◌∙◌, ◌≡◌, ap, ap₂, refl, subst, sym}
pub use native.Mathlib.Nat.{mul-le-mul, mul-le-mul_left}
pub use native.Mathlib.Omega.{arith}
pub use Rattle.cutting.proofs.Table.{positions_some}
pub use Rattle.cutting.specs.Job.{Job, normal_positions}
pub use Rattle.cutting.specs.Limits.{most_capacity}
pub use Rattle.cutting.specs.Listed.{InTableRange, pieces_job}
pub use Rattle.cutting.specs.Lists.{over}
pub use Rattle.cutting.specs.Sides.{rect_of}
pub use Rattle.cutting.specs.Tree.{Rect, side}
pub use Rattle.positions.proofs.Fitting.{lengths_found, widths_found}
pub use Rattle.positions.proofs.Lists.{holds_length, holds_take}
pub use Rattle.positions.proofs.Positions.{floors_found, positions_rising}
pub use Rattle.positions.specs.Clauses.{Floors, Holds, Listable, Mappable, field_in, positions_of}
pub use Rattle.promises.specs.declared.Direction.{Direction}
pub use Rattle.promises.specs.declared.Direction.TheVariants.{Length, Width}
pub use Rattle.promises.specs.declared.Refusal.{Refusal}
pub use Rattle.promises.specs.declared.Refusal.TheVariants.{ListShort, TableShort}
pub use Rattle.refusal.specs.Refusals.{by_check, next, refuse_when}
unfoldable pub use Rattle.refusal.specs.Refusals.{first_refusal}
pub use Rattle.table.proofs.Words.{second_floors}
pub use Rattle.table.specs.Clauses.{Fillable, Mapped, Positions}
pub use Rattle.table.specs.Table.{position_count}
pub use Rattle.table.specs.declared.TableSize.{TableSize}
pub use Rattle.storage.specs.Clauses.{BothMapped, LaidOut, SidesMapped, cell_words, lists_verdict, storage_verdict, table_size}
pub use Rattle.storage.specs.Storage.{list_after}
pub use Rattle.storage.specs.declared.Layout.{Layout}
pub use Rattle.std.proofs.Common.{Ok, Err}
pub use Rattle.promises.specs.Refusals.{Checked, Answer, passed}
