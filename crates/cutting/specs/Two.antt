-- Two weights a kind: the figure of a rectangle and a pair of shares, of which each cut shares out both, and the bound under two
-- capacities. The words `first` and `second` name the weights; proofs/Two has what is proved of these.
-- docs/SCOPE.md: Two weights a kind.
use Rattle.std.specs.Prelude.{◌≡◌, ◌&&◌, ℕ, suc, ◌+◌, ◌-◌, ◌≤◌, max, leb}
use Rattle.promises.specs.declared.Direction.TheVariants.{Length, Width}
use Rattle.cutting.specs.Lists.{range, only, greatest}
use Rattle.cutting.specs.Tree.{Tree, Shares}
use Rattle.cutting.specs.Figure.{figure}
use Rattle.cutting.specs.Pieces.{Piece, kind, fits_in}
use Rattle.cutting.specs.Saws.{saw}
use Rattle.cutting.specs.Shares.{paired}
use Rattle.cutting.specs.Job.{Job, laid, weight_of, widened, capacity, members, pieces, by_kind, normal_floor}
use Rattle.cutting.specs.Promises.{MostAmong}

-- a pair of shares: both admit, and a cut divides both
abbrev pub by_two : (ℕ → ℕ) → (ℕ → ℕ) → Shares Piece (ℕ × ℕ)
by_two first second = paired (by_kind first) (by_kind second)

-- the figure of a rectangle and a pair of shares, for a job cut without loss: a cut at every whole unit (two_recursion of proofs/Two)
unfoldable pub figure_two : Job → (ℕ → ℕ) → (ℕ → ℕ) → ℕ → ℕ → ℕ → ℕ → ℕ
figure_two J first second l w c c' = figure (pieces J) (saw 0) (by_two first second) (l, w) (c, c')

-- the bound under two capacities: the widened job's figure at its plate
abbrev pub two_under : Job → (ℕ → ℕ) → (ℕ → ℕ) → ℕ → ℕ → ℕ
two_under J first second q q' = figure_two (widened J) first second (widened J).plate.0 (widened J).plate.1 q q'

-- the bound of two weights
abbrev pub two_bound : Job → (ℕ → ℕ) → (ℕ → ℕ) → ℕ
two_bound J first second = two_under J first second (capacity J first) (capacity J second)

-- the trees whose weights are at most q and q'
abbrev pub OfWeights : (ℕ → ℕ) → (ℕ → ℕ) → ℕ → ℕ → Tree Piece → Type 0
OfWeights first second q q' t = (weight_of first t ≤ q) × (weight_of second t ≤ q')

-- n is the most that one of these on the plate earns: none earns more, and one earns it
abbrev pub MostTwo : Job → (ℕ → ℕ) → (ℕ → ℕ) → ℕ → ℕ → ℕ → Type 0
MostTwo J first second q q' n = MostAmong J (OfWeights first second q q') J.plate.0 J.plate.1 n

-- a figure of the widened job is the most that a tree within its pair of shares earns on the rectangle whose sides are less by the kerf
abbrev pub TwoFiguresMost : Job → (ℕ → ℕ) → (ℕ → ℕ) → Type 0
TwoFiguresMost J first second = (l w c c' : ℕ) → MostAmong J (OfWeights first second c c') l w (figure_two (widened J) first second (l + J.kerf) (w + J.kerf) c c')

-- the recursion: a figure is the greatest of 0; the price of any piece that may lie, fits and weighs at most both shares; for each length
-- cut, at every whole unit, and each first part of both shares, the first part's figure plus the second part's; the same for width cuts
abbrev pub TwoRecursion : Job → (ℕ → ℕ) → (ℕ → ℕ) → Type 0
TwoRecursion J first second = (l w c c' : ℕ) → figure_two J first second l w c c' ≡
    max (greatest (λ p. only (fits_in (laid J p) (l, w) && (leb (first (kind p)) c && leb (second (kind p)) c')) (J.price (kind p))) (members J))
    (max (greatest (λ x. greatest (λ a. greatest (λ a'. figure_two J first second x w a a' + figure_two J first second (l - x) w (c - a) (c' - a')) (range 0 (suc c'))) (range 0 (suc c))) (range 1 (l - 1)))
    (greatest (λ x. greatest (λ a. greatest (λ a'. figure_two J first second l x a a' + figure_two J first second l (w - x) (c - a) (c' - a')) (range 0 (suc c'))) (range 0 (suc c))) (range 1 (w - 1))))

-- the figure of a rectangle on the plate is that of the largest normal length and width not above its sides
abbrev pub TwoFloors : Job → (ℕ → ℕ) → (ℕ → ℕ) → Type 0
TwoFloors J first second = (l w c c' : ℕ) → l ≤ J.plate.0 → w ≤ J.plate.1 → figure_two J first second l w c c' ≡ figure_two J first second (normal_floor J Length l) (normal_floor J Width w) c c'
