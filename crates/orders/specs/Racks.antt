-- A rack of plates for one order, in plain words: plates and their plans are numbered from 0, and the plans share the demands. The
-- theorems are in proofs/Racks.
-- docs/SCOPE.md: A rack of plates.
use Rattle.std.specs.Prelude.{ℕ, ◌<◌}
use Rattle.cutting.specs.Lists.{sum}
use Rattle.cutting.specs.Tree.{Rect, Tree}
use Rattle.cutting.specs.Pieces.{Piece}
use Rattle.cutting.specs.Job.{Job, OnPlate, bound_of}
pub use Rattle.promises.specs.Job.{plated}
pub use Rattle.promises.specs.Rack.{AnyOnPlates, AnyOnFinerPlates, SharesDemands, rack_profit, NoneTogether, NoneTogetherFiner}
unfoldable pub use Rattle.promises.specs.Rack.{chained}

-- each of n plans is a guillotine tree on its plate
abbrev pub OnPlates : Job → ℕ → (ℕ → Rect) → (ℕ → Tree Piece) → Type 0
OnPlates J n plate tree = (p : ℕ) → p < n → OnPlate (plated J (plate p)) (tree p)

-- the sum of the bounds of n plates, each under weights of its own
abbrev pub rack_bound : Job → ℕ → (ℕ → Rect) → (ℕ → ℕ → ℕ) → ℕ
rack_bound J n plate weight = sum n (λ p. bound_of (plated J (plate p)) (weight p))
