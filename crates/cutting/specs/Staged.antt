-- A limit on the stages of a plan: the stages of a tree as the most of a path, the figure block by block, and the bound within a limit.
-- The stages of a tree are `stages` of Shares; proofs/Staged has what is proved of these.
-- docs/SCOPE.md: No more than so many stages; Cuts between the marks.
use Rattle.std.specs.Prelude.{◌≡◌, ◌&&◌, ℕ, zero, suc, ◌+◌, ◌-◌, ◌≤◌, max, leb}
use Rattle.promises.specs.declared.Direction.{Direction}
use Rattle.promises.specs.declared.Direction.TheVariants.{Length, Width}
use Rattle.cutting.specs.Lists.{range, only, greatest}
use Rattle.cutting.specs.Tree.{side, Tree}
use Rattle.cutting.specs.Pieces.{Piece, kind, fits_in}
use Rattle.cutting.specs.Shares.{other, stages, stages_below}
use Rattle.cutting.specs.Job.{Job, laid, AnyOnPlate, OnPlate, profit, weight_of, KeepsDemands, widened, finer, capacity, members, normal_floor}
use Rattle.cutting.specs.Promises.{MostAmong}
pub use Rattle.promises.specs.Job.{path_stages}
unfoldable pub use Rattle.promises.specs.Job.{paths, changes}

-- without a cut: the greatest price of a piece that fits and weighs at most the share
abbrev pub no_cut : Job → (ℕ → ℕ) → ℕ → ℕ → ℕ → ℕ
no_cut J weight l w c = greatest (λ p. only (fits_in (laid J p) (l, w) && leb (weight (kind p)) c) (J.price (kind p))) (members J)

-- the greatest of the cuts in one direction, at every whole unit, between figures F
abbrev pub cuts_between : Direction → (ℕ → ℕ → ℕ → ℕ) → ℕ → ℕ → ℕ → ℕ
cuts_between Length F l w c = greatest (λ x. greatest (λ a. F x w a + F (l - x) w (c - a)) (range 0 (suc c))) (range 1 (l - 1))
cuts_between Width F l w c = greatest (λ x. greatest (λ a. F l x a + F l (w - x) (c - a)) (range 0 (suc c))) (range 1 (w - 1))

-- the greatest of a figure P and of cuts in one direction between such figures, so many cuts deep
unfoldable pub along : Direction → (ℕ → ℕ → ℕ → ℕ) → ℕ → ℕ → ℕ → ℕ → ℕ
along d P zero l w c = P l w c
along d P (suc n) l w c = max (P l w c) (cuts_between d (along d P n) l w c)

-- the figure of direction d at stage k, for a job cut without loss: no cut without a stage; then the greatest of the other direction's with
-- one stage fewer and of cuts in direction d between figures of its own block (block_eq of proofs/Staged)
unfoldable pub block : Job → (ℕ → ℕ) → ℕ → Direction → ℕ → ℕ → ℕ → ℕ
block J weight zero d l w c = no_cut J weight l w c
block J weight (suc k) d l w c = along d (block J weight k (other d)) (side d (l, w)) l w c

-- the staged bound under a capacity: the greater of length first and width first at the limit, at the widened plate
abbrev pub staged_under : Job → (ℕ → ℕ) → ℕ → ℕ → ℕ
staged_under J weight n c =
    max (block (widened J) weight n Length (widened J).plate.0 (widened J).plate.1 c) (block (widened J) weight n Width (widened J).plate.0 (widened J).plate.1 c)

-- the staged bound
abbrev pub staged_bound : Job → (ℕ → ℕ) → ℕ → ℕ
staged_bound J weight n = staged_under J weight n (capacity J weight)

-- a guillotine tree on the plate of at most n stages
abbrev pub WithinStages : Job → ℕ → Tree Piece → Type 0
WithinStages J n t = OnPlate J t × (stages t ≤ n)

-- no guillotine tree on the plate, of any kinds of the job, of at most n stages that keeps every demand earns more than m
abbrev pub NoneStaged : Job → ℕ → ℕ → Type 0
NoneStaged J n m = (t : Tree Piece) → AnyOnPlate J t → stages t ≤ n → KeepsDemands J t → profit J t ≤ m

-- the same of trees cut at multiples of one k-th of a unit, for every whole k of at least 1
abbrev pub NoneStagedFiner : Job → ℕ → ℕ → Type 0
NoneStagedFiner J n m = (k : ℕ) → 1 ≤ k → NoneStaged (finer k J) n m

-- no tree of at most n stages that keeps every demand earns more than m, cut at whole units or finer
abbrev pub NoneStagedBetter : Job → ℕ → ℕ → Type 0
NoneStagedBetter J n m = NoneStaged J n m × NoneStagedFiner J n m

-- the trees of at most n stages and of weight at most q
abbrev pub OfStages : (ℕ → ℕ) → ℕ → ℕ → Tree Piece → Type 0
OfStages weight n q t = (stages t ≤ n) × (weight_of weight t ≤ q)

-- m is the most that a guillotine tree on the plate of at most n stages and of weight at most q earns: none earns more, and one earns it
abbrev pub MostStaged : Job → (ℕ → ℕ) → ℕ → ℕ → ℕ → Type 0
MostStaged J weight n q m = ((t : Tree Piece) → WithinStages J n t → weight_of weight t ≤ q → profit J t ≤ m)
    × ((t : Tree Piece) × WithinStages J n t × (weight_of weight t ≤ q) × (profit J t ≡ m))

-- the recursion by blocks: no cut without a stage, then the greatest of the other direction's with one stage fewer and of cuts in the
-- block's own direction between figures of its own
pub record StagedRecursion (J : Job) (weight : ℕ → ℕ) : Type 0 where
  pub none : (d : Direction) (l w c : ℕ) → block J weight 0 d l w c ≡ no_cut J weight l w c
  pub more : (k : ℕ) (d : Direction) (l w c : ℕ) → block J weight (suc k) d l w c ≡ max (block J weight k (other d) l w c) (cuts_between d (block J weight (suc k) d) l w c)

-- a rectangle on the plate has in every block the figure of the largest normal length and width not above its sides
abbrev pub StagedFloors : Job → (ℕ → ℕ) → Type 0
StagedFloors J weight = (k : ℕ) (d : Direction) (l w c : ℕ) → l ≤ J.plate.0 → w ≤ J.plate.1
    → block J weight k d l w c ≡ block J weight k d (normal_floor J Length l) (normal_floor J Width w) c

-- the trees of a block: of at most k stages where the cuts above go in direction d, so one stage fewer if the first cut goes the other way,
-- and of weight at most c
abbrev pub OfBlock : (ℕ → ℕ) → ℕ → Direction → ℕ → Tree Piece → Type 0
OfBlock weight k d c t = (stages_below d t ≤ k) × (weight_of weight t ≤ c)

-- a block's figure in the widened job is the most that one of these earns on the rectangle whose sides are less by the kerf
abbrev pub StagedFiguresMost : Job → (ℕ → ℕ) → Type 0
StagedFiguresMost J weight = (k : ℕ) (d : Direction) (l w c : ℕ) → MostAmong J (OfBlock weight k d c) l w (block (widened J) weight k d (l + J.kerf) (w + J.kerf) c)
