-- A rectangle as the code has it.
-- docs/SCOPE.md: Guillotine trees.
use Rattle.cutting.specs.Tree.{Rect}
use Rattle.cutting.specs.declared.Sides.{Sides}

-- the rectangle of two sides
abbrev pub rect_of : Sides → Rect
rect_of s = (s.length, s.width)

-- the sides of a rectangle
abbrev pub sides_of : Rect → Sides
sides_of r = record { length = r.0; width = r.1 }
