-- The sentences of the scope about a job, its weights and its trees, as statements: those of trees and plans are cited of the job itself,
-- those of figures and normal positions of the widened job. The contracts of the public calls cite them; proofs/Promises proves them.
-- docs/SCOPE.md: The bound; Normal positions; The written plan; What the plate can hold; Cuts between the marks.
use Rattle.std.specs.Prelude.{◌≡◌, ◌&&◌, ℕ, suc, ◌+◌, ◌-◌, ◌≤◌, max, leb}
use Rattle.promises.specs.declared.Direction.TheVariants.{Length, Width}
use Rattle.cutting.specs.Lists.{range, only, greatest}
use Rattle.cutting.specs.Tree.{Tree, Shares}
use Rattle.cutting.specs.Pieces.{Piece, kind, fits_in}
use Rattle.cutting.specs.Job.{Job, laid, members, AnyOnPlate, KeepsDemands, profit, weight_of, widened, finer, figure_of, normal_floor, plan_of, plan_choice, plan_after}
pub use Rattle.promises.specs.Systems.{PlateHolds, EarnsAmong, MostAmong, FinerAmong, NormalSums}

-- no guillotine tree on the plate, of any kinds of the job, that keeps every demand earns more than n
abbrev pub NoneAbove : Job → ℕ → Type 0
NoneAbove J n = (t : Tree Piece) → AnyOnPlate J t → KeepsDemands J t → profit J t ≤ n

-- the same of trees cut at multiples of one m-th of a unit, for every whole m of at least 1
abbrev pub NoneFiner : Job → ℕ → Type 0
NoneFiner J n = (m : ℕ) → 1 ≤ m → NoneAbove (finer m J) n

-- no tree on the plate that keeps every demand earns more than n, cut at whole units or finer
abbrev pub NoneBetter : Job → ℕ → Type 0
NoneBetter J n = NoneAbove J n × NoneFiner J n

-- a guillotine tree on the plate, of any kinds of the job, that keeps every demand weighs at most q
abbrev pub NoneHeavier : Job → (ℕ → ℕ) → ℕ → Type 0
NoneHeavier J weight q = (t : Tree Piece) → AnyOnPlate J t → KeepsDemands J t → weight_of weight t ≤ q

-- the trees of weight at most q
abbrev pub OfWeight : (ℕ → ℕ) → ℕ → Tree Piece → Type 0
OfWeight weight q t = weight_of weight t ≤ q

-- one of these on the plate that earns n
abbrev pub EarnsWithin : Job → (ℕ → ℕ) → ℕ → ℕ → Tree Piece → Type 0
EarnsWithin J weight q n t = EarnsAmong J (OfWeight weight q) J.plate.0 J.plate.1 n t

-- n is the most that one of these on the plate earns
abbrev pub MostWithin : Job → (ℕ → ℕ) → ℕ → ℕ → Type 0
MostWithin J weight q n = MostAmong J (OfWeight weight q) J.plate.0 J.plate.1 n

-- a figure of the widened job is the most that a tree within its share earns on the rectangle whose sides are less by the kerf
abbrev pub FiguresMost : Job → (ℕ → ℕ) → Type 0
FiguresMost J weight = (l w c : ℕ) → MostAmong J (OfWeight weight c) l w (figure_of (widened J) weight (l + J.kerf) (w + J.kerf) c)

-- the recursion: a figure is the greatest of 0; the price of any piece that may lie, fits and weighs at most the share; for each length
-- cut, at every whole unit, and each first share, the first part's figure plus the second part's; the same for width cuts
abbrev pub Recursion : Job → (ℕ → ℕ) → Type 0
Recursion J weight = (l w c : ℕ) → figure_of J weight l w c ≡
    max (greatest (λ p. only (fits_in (laid J p) (l, w) && leb (weight (kind p)) c) (J.price (kind p))) (members J))
    (max (greatest (λ x. greatest (λ a. figure_of J weight x w a + figure_of J weight (l - x) w (c - a)) (range 0 (suc c))) (range 1 (l - 1)))
    (greatest (λ x. greatest (λ a. figure_of J weight l x a + figure_of J weight l (w - x) (c - a)) (range 0 (suc c))) (range 1 (w - 1))))

-- the figure of a rectangle on the plate is that of the largest normal length and width not above its sides
abbrev pub FloorFigures : Job → (ℕ → ℕ) → Type 0
FloorFigures J weight = (l w c : ℕ) → l ≤ J.plate.0 → w ≤ J.plate.1 → figure_of J weight l w c ≡ figure_of J weight (normal_floor J Length l) (normal_floor J Width w) c

-- the plan from a rectangle on the widened plate and a share follows the order of choice of the widened job, the second part of a cut the
-- true remainder, and leaves out a cut whose second part would be below 1
abbrev pub PlanFollows : {S : Type 0} → Job → Shares Piece S → Type 0
PlanFollows {S} J H = (l w : ℕ) (s : S) → l ≤ (widened J).plate.0 → w ≤ (widened J).plate.1 → plan_of J H l w s ≡ plan_after J H l w (plan_choice (widened J) H l w s)
