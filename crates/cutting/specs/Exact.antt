-- The exact answer for short orders: the remaining copies of every kind as a state, numbered in mixed radix, kind 0 lowest; the figure of a
-- rectangle and a state, the optimum, and the plan that earns it by the order of choice.
-- docs/SCOPE.md: The exact answer for short orders.
use Rattle.std.specs.Prelude.{◌≡◌, ◌&&◌, List, ℕ, suc, ◌+◌, ◌-◌, ◌≤◌, ◌<◌, max}
use Rattle.promises.specs.declared.Direction.TheVariants.{Length, Width}
use Rattle.cutting.specs.Lists.{range, only, filter, greatest}
use Rattle.cutting.specs.Tree.{Tree}
use Rattle.cutting.specs.Pieces.{Piece, kind, fits_in}
use Rattle.cutting.specs.Job.{Job, laid, copies_of, KeepsDemands, widened, members, figure_under, normal_floor, plan_of}
use Rattle.cutting.specs.Promises.{NoneAbove, EarnsAmong, MostAmong}
pub use Rattle.promises.specs.Systems.{state_count, full_state, one_copy, no_more, by_copies, copies_left}
unfoldable pub use Rattle.promises.specs.Systems.{states}

-- the figure of a rectangle and a state, for a job cut without loss
unfoldable pub exact_figure : Job → ℕ → ℕ → ℕ → ℕ
exact_figure J l w s = figure_under J (by_copies J) l w s

-- the optimum: the widened job's figure at its plate, where every copy remains
abbrev pub optimum : Job → ℕ
optimum J = exact_figure (widened J) (widened J).plate.0 (widened J).plate.1 (full_state J)

-- the plan that earns it, by the order of choice and as the saw cuts it
abbrev pub optimum_plan : Job → Tree Piece
optimum_plan J = plan_of J (by_copies J) (widened J).plate.0 (widened J).plate.1 (full_state J)

-- the states of a cut's first part where state s is divided: those that have of no kind more copies, rising
abbrev pub first_states : Job → ℕ → List ℕ
first_states J s = filter (λ t. no_more J t s) (range 0 (suc s))

-- the recursion: a figure is the greatest of 0; the price of any piece that may lie, fits and has a copy that remains; for each length cut,
-- at every whole unit, and each state of the first part, the first part's figure plus the second part's; the same for width cuts
abbrev pub ExactRecursion : Job → Type 0
ExactRecursion J = (l w s : ℕ) → exact_figure J l w s ≡
    max (greatest (λ p. only (fits_in (laid J p) (l, w) && no_more J (one_copy J (kind p)) s) (J.price (kind p))) (members J))
    (max (greatest (λ x. greatest (λ t. exact_figure J x w t + exact_figure J (l - x) w (s - t)) (first_states J s)) (range 1 (l - 1)))
    (greatest (λ x. greatest (λ t. exact_figure J l x t + exact_figure J l (w - x) (s - t)) (first_states J s)) (range 1 (w - 1))))

-- the figure of a rectangle on the plate is that of the largest normal length and width not above its sides
abbrev pub ExactFloors : Job → Type 0
ExactFloors J = (l w s : ℕ) → l ≤ J.plate.0 → w ≤ J.plate.1 → exact_figure J l w s ≡ exact_figure J (normal_floor J Length l) (normal_floor J Width w) s

-- a guillotine tree on the plate that keeps every demand and earns n
abbrev pub EarnsExactly : Job → ℕ → Tree Piece → Type 0
EarnsExactly J n t = EarnsAmong J (KeepsDemands J) J.plate.0 J.plate.1 n t

-- n is the most that a guillotine tree on the plate that keeps every demand earns: none earns more, of whatever kinds, and one earns it
abbrev pub MostExact : Job → ℕ → Type 0
MostExact J n = NoneAbove J n × ((t : Tree Piece) × EarnsExactly J n t)

-- the trees that have of no kind more copies than remain in a state
abbrev pub OfState : Job → ℕ → Tree Piece → Type 0
OfState J s t = (i : ℕ) → i < J.count → copies_of i t ≤ copies_left J s i

-- the figure of a state in the widened job is the most that one of these earns on the rectangle whose sides are less by the kerf
abbrev pub ExactFiguresMost : Job → Type 0
ExactFiguresMost J = (l w s : ℕ) → s < state_count J → MostAmong J (OfState J s) l w (exact_figure (widened J) (l + J.kerf) (w + J.kerf) s)
