-- A piece of a plan, and pieces with a size: when one fits a rectangle.
-- docs/SCOPE.md: Pieces that may be turned.
use mathlib.Core.List.{List, Memᴰ}
use Rattle.std.specs.Prelude.{ℕ, ◌≤◌, ◌<◌}
use Rattle.cutting.specs.Tree.{Rect, Pieces}
pub use Rattle.promises.specs.Figure.{ways}
pub use Rattle.promises.specs.Job.{Piece, upright, turned, kind, quarter, lying, wider, times, fits_in, fits_either}

infix 30 ◌⊑◌
-- a rectangle no larger than another
abbrev pub ◌⊑◌ : Rect → Rect → Type 0
q ⊑ r = (q.0 ≤ r.0) × (q.1 ≤ r.1)

module _ {P : Type 0} where
  -- pieces with a size: one fits where neither side is greater than the rectangle's
  unfoldable pub sized : List P → (P → ℕ) → (P → Rect) → Pieces P
  sized ps price size = record { members = ps; price = price; fits = λ p r. fits_in (size p) r }

  -- no side is 0
  abbrev pub Solid : List P → (P → Rect) → Type 0
  Solid ps size = (p : P) → Memᴰ p ps → (0 < (size p).0) × (0 < (size p).1)
