-- Systems of shares: one weight a kind, two weights, the remaining copies of every kind, and one weight within a limit on stages. Of each:
-- how a cut divides a share, the trees within a share, and the words that the table has for it. Then the sentences about figures, bounds and
-- trees, once for every system.
-- docs/SCOPE.md: The bound; Normal positions; Two weights a kind; The exact answer for short orders; No more than so many stages; Cuts
-- between the marks; What the plate can hold.
use Rattle.std.specs.Prelude.{◌≡◌, Bool, ◌&&◌, ◌↔◌, List, [], ◌∷◌, ℕ, zero, suc, ◌+◌, ◌-◌, ◌*◌, ◌/◌, ◌%◌, ◌≤◌, ◌<◌, max, T, leb, length, get_or, drop}
use Rattle.std.proofs.Math.Option.{Option, none, some}
use mathlib.Core.List.{map, Memᴰ as List-as-Memᴰ}
use Rattle.promises.specs.Prelude.{Direction, Length, Width}
use Rattle.promises.specs.Lists.{range, filter, pairs, greatest}
use Rattle.promises.specs.Refusals.{most_figure}
use Rattle.promises.specs.Job.{side, Piece, kind, Tree, Job, laid, GuillotineTree, AnyOnPlate, OnPlate, profit, weight_of, copies_of, KeepsDemands, widened, finer, at_full_demand, plate_copies, capacity, change, paths, path_stages, stages, WithinLimit}
use Rattle.promises.specs.Figure.{Shares, members, single, divided, step, figure, Sum, sides, normal_positions, normal_floor, choice_tree, plan_choice, plan_of}

-- a system: the shares, and the limit on stages, if there is one; which values are shares; the trees within a share; the trees of which the
-- bound is the most, and what the bound reads of the plate's figures; which shares have a word in each cell, the number of blocks, the words
-- of a cell, and the block and the word of a share
pub record System (S : Type 0) : Type 1 where
  pub shares : Shares Piece S
  pub limit : Option ℕ
  pub Share : S → Type 0
  pub Within : S → Tree Piece → Type 0
  pub Full : Tree Piece → Type 0
  pub top : (S → ℕ) → ℕ
  pub Tabled : S → Type 0
  pub blocks : ℕ
  pub cell : ℕ
  pub block : S → ℕ
  pub word : S → ℕ

-- One weight a kind.
-- a share c admits what weighs at most c, and is divided into a and c - a, for each a from 0 to c, rising
unfoldable pub by_weight : {P : Type 0} → (P → ℕ) → Shares P ℕ
by_weight q = record { admits = λ c p. leb (q p) c; splits = λ d c. map (λ a. (a, c - a)) (range 0 (suc c)) }

-- shares by the weights of the kinds
abbrev pub by_kind : (ℕ → ℕ) → Shares Piece ℕ
by_kind weight = by_weight (λ p. weight (kind p))

-- one weight: a word for each share up to the capacity
abbrev pub one_weight : (ℕ → ℕ) → Job → System ℕ
one_weight weight J = record {
  shares = by_kind weight;
  limit = none;
  Share = λ c. Unit {0};
  Within = λ c t. weight_of weight t ≤ c;
  Full = λ t. weight_of weight t ≤ capacity J weight;
  top = λ F. F (capacity J weight);
  Tabled = λ c. c < capacity J weight + 1;
  blocks = 1;
  cell = capacity J weight + 1;
  block = λ c. 0;
  word = λ c. c;
}

-- Two weights a kind.
-- a part of each share to each part of the cut
abbrev pub across : {S S' : Type 0} → (S × S) × (S' × S') → (S × S') × (S × S')
across u = ((u.0.0, u.1.0), (u.0.1, u.1.1))

-- two shares at a time: both admit, and both are divided
unfoldable pub paired : {P S S' : Type 0} → Shares P S → Shares P S' → Shares P (S × S')
paired H H' = record {
  admits = λ s p. H.admits s.0 p && H'.admits s.1 p;
  splits = λ d s. map (λ u. across u) (pairs (H.splits d s.0) (H'.splits d s.1));
}

-- the pairs of shares up to both capacities
abbrev pub pair_count : ℕ → ℕ → ℕ
pair_count q q' = (q + 1) * (q' + 1)

-- two weights: a word for each pair of shares, the second running fastest
abbrev pub two_weights : (first second : ℕ → ℕ) → Job → System (ℕ × ℕ)
two_weights first second J = record {
  shares = paired (by_kind first) (by_kind second);
  limit = none;
  Share = λ c. Unit {0};
  Within = λ c t. (weight_of first t ≤ c.0) × (weight_of second t ≤ c.1);
  Full = λ t. (weight_of first t ≤ capacity J first) × (weight_of second t ≤ capacity J second);
  top = λ F. F (capacity J first, capacity J second);
  Tabled = λ c. (c.0 < capacity J first + 1) × (c.1 < capacity J second + 1);
  blocks = 1;
  cell = pair_count (capacity J first) (capacity J second);
  block = λ c. 0;
  word = λ c. c.0 * (capacity J second + 1) + c.1;
}

-- The remaining copies of every kind as a state, numbered in mixed radix, kind 0 lowest.
-- the number of states of the kinds below n: the product of their demands, each plus 1
unfoldable pub states : (ℕ → ℕ) → ℕ → ℕ
states demand zero = 1
states demand (suc n) = states demand n * (demand n + 1)

-- the number of states of a job
abbrev pub state_count : Job → ℕ
state_count J = states J.demand J.count

-- the last state, in which every copy remains
abbrev pub full_state : Job → ℕ
full_state J = state_count J - 1

-- the state of one copy of kind i: the number of states of the kinds below it
abbrev pub one_copy : Job → ℕ → ℕ
one_copy J i = states J.demand i

-- the copies of kind i that remain in a state, its digit of that kind
abbrev pub copies_left : Job → ℕ → ℕ → ℕ
copies_left J s i = s / one_copy J i % (J.demand i + 1)

-- whether no digit of t, up to digit d, is above that of s, where B d is the number of states that the digits from 0 to d have together
unfoldable pub below : (ℕ → ℕ) → ℕ → ℕ → ℕ → Bool
below B zero t s = leb t s
below B (suc d) t s = leb (t / B d) (s / B d) && below B d (t % B d) (s % B d)

-- whether state t has of no kind more copies than state s
abbrev pub no_more : Job → ℕ → ℕ → Bool
no_more J = below (λ i. states J.demand (suc i)) (J.count - 1)

-- the shares of an order of states: a state admits the pieces whose own state is below it, and is divided into t and s - t for each t
-- below it, rising
unfoldable pub by_state : {P : Type 0} → (ℕ → ℕ → Bool) → (P → ℕ) → Shares P ℕ
by_state le at = record { admits = λ s p. le (at p) s; splits = λ d s. map (λ t. (t, s - t)) (filter (λ t. le t s) (range 0 (suc s))) }

-- the remaining copies as shares: a state admits a kind of which a copy remains, and is divided into a state that has of no kind more
-- copies and the rest, the first in the rising order of its number
abbrev pub by_copies : Job → Shares Piece ℕ
by_copies J = by_state (no_more J) (λ p. one_copy J (kind p))

-- the remaining copies: a word for each state; the bound is the optimum
abbrev pub remaining_copies : Job → System ℕ
remaining_copies J = record {
  shares = by_copies J;
  limit = none;
  Share = λ s. s < state_count J;
  Within = λ s t. (i : ℕ) → i < J.count → copies_of i t ≤ copies_left J s i;
  Full = KeepsDemands J;
  top = λ F. F (full_state J);
  Tabled = λ s. s < full_state J + 1;
  blocks = 1;
  cell = full_state J + 1;
  block = λ s. 0;
  word = λ s. s;
}

-- One weight within a limit on stages: a share has the direction of the cuts above it and the stages left.
-- the other direction
abbrev pub other : Direction → Direction
other Length = Width
other Width = Length

-- the stages of a path below cuts in direction d: one more if its first cut goes the other way
abbrev pub below_cut : Direction → List Direction → ℕ
below_cut d [] = 0
below_cut d (e ∷ p) = change d e + path_stages (e ∷ p)

-- the parts of a share that go on in direction e with k stages left, where one is left
abbrev pub staged_splits : {S : Type 0} → Direction → ℕ → List (S × S) → List ((Direction × ℕ × S) × (Direction × ℕ × S))
staged_splits e zero qs = []
staged_splits e (suc k) qs = map (λ q. ((e, suc k, q.0), (e, suc k, q.1))) qs

-- a share with the direction of the cuts above and the stages left
unfoldable pub staged : {P S : Type 0} → Shares P S → Shares P (Direction × ℕ × S)
staged H = record { admits = λ s p. H.admits s.2 p; splits = λ e s. staged_splits e (s.1 - change s.0 e) (H.splits e s.2) }

-- the number of a block: 0 without a cut; then for each stage length first, 2k - 1, and width first, 2k
abbrev pub block_number : ℕ → Direction → ℕ
block_number k Length = 2 * k - 1
block_number k Width = 2 * k

-- one weight within a limit of n stages: a block for no cut, then for each stage length first and width first; the bound is the greater of
-- both at the limit
abbrev pub within_stages : (ℕ → ℕ) → ℕ → Job → System (Direction × ℕ × ℕ)
within_stages weight n J = record {
  shares = staged (by_kind weight);
  limit = some n;
  Share = λ s. Unit {0};
  Within = λ s t. (greatest (below_cut s.0) (paths t) ≤ s.1) × (weight_of weight t ≤ s.2);
  Full = λ t. (stages t ≤ n) × (weight_of weight t ≤ capacity J weight);
  top = λ F. max (F (Length, n, capacity J weight)) (F (Width, n, capacity J weight));
  Tabled = λ s. (s.1 ≤ n) × (s.2 < capacity J weight + 1);
  blocks = 2 * n + 1;
  cell = capacity J weight + 1;
  block = λ s. block_number s.1 s.0;
  word = λ s. s.2;
}

-- Trees and bounds.
-- no guillotine tree on the plate, of any kinds of the job, within the limit that keeps every demand earns more than n
abbrev pub NoneAbove : Job → Option ℕ → ℕ → Type 0
NoneAbove J limit n = (t : Tree Piece) → AnyOnPlate J t → WithinLimit limit t → KeepsDemands J t → profit J t ≤ n

-- the same of trees cut at multiples of one m-th of a unit, for every whole m of at least 1
abbrev pub NoneFiner : Job → Option ℕ → ℕ → Type 0
NoneFiner J limit n = (m : ℕ) → 1 ≤ m → NoneAbove (finer m J) limit n

-- a guillotine tree on a rectangle, among those that `Among` holds of, that earns n
abbrev pub EarnsAmong : Job → (Tree Piece → Type 0) → ℕ → ℕ → ℕ → Tree Piece → Type 0
EarnsAmong J Among l w n t = GuillotineTree J l w t × Among t × (profit J t ≡ n)

-- n is the most that a guillotine tree on a rectangle among those earns: none earns more, and one earns it
abbrev pub MostAmong : Job → (Tree Piece → Type 0) → ℕ → ℕ → ℕ → Type 0
MostAmong J Among l w n = ((t : Tree Piece) → GuillotineTree J l w t → Among t → profit J t ≤ n) × ((t : Tree Piece) × EarnsAmong J Among l w n t)

-- no guillotine tree on the plate among those, cut at multiples of one m-th of a unit, earns more than n, for every whole m of at least 1
abbrev pub FinerAmong : Job → (Tree Piece → Type 0) → ℕ → Type 0
FinerAmong J Among n = (m : ℕ) → 1 ≤ m → (t : Tree Piece) → OnPlate (finer m J) t → Among t → profit J t ≤ n

-- the bound of a job: what a system reads of the widened job's figures at its plate
abbrev pub bound_in : {S : Type 0} → Job → System S → ℕ
bound_in J Y = Y.top (figure (widened J) Y.shares (widened J).plate.0 (widened J).plate.1)

-- the bound of one weight, and the plan behind it
abbrev pub bound_of : Job → (ℕ → ℕ) → ℕ
bound_of J weight = bound_in J (one_weight weight J)

abbrev pub bound_plan : Job → (ℕ → ℕ) → Tree Piece
bound_plan J weight = plan_of J (by_kind weight) (widened J).plate.0 (widened J).plate.1 (capacity J weight)

-- the optimum, and the plan that earns it
abbrev pub optimum : Job → ℕ
optimum J = bound_in J (remaining_copies J)

abbrev pub optimum_plan : Job → Tree Piece
optimum_plan J = plan_of J (by_copies J) (widened J).plate.0 (widened J).plate.1 (full_state J)

-- what a bound n of a system is: the most that a tree within the full share earns; no less than any tree of the job's kinds within the limit
-- that keeps the demands earns, which is within the full share; no less than any of these trees cut finer; at most 1,000,000,000,000; the
-- recursion's figure, the kerf added to every side; and the bound of the full demands is no less
pub record Holds {S : Type 0} (J : Job) (Y : Job → System S) (n : ℕ) : Type 0 where
  pub most : MostAmong J (Y J).Full J.plate.0 J.plate.1 n
  pub most_finer : FinerAmong J (Y J).Full n
  pub demands : NoneAbove J (Y J).limit n
  pub finer : NoneFiner J (Y J).limit n
  pub within : (t : Tree Piece) → AnyOnPlate J t → WithinLimit (Y J).limit t → KeepsDemands J t → (Y J).Full t
  pub ceiling : n ≤ most_figure
  pub figure : n ≡ bound_in J (Y J)
  pub full_demand : n ≤ bound_in (at_full_demand J) (Y (at_full_demand J))

-- a figure of the widened job is the most that a tree within its share earns on the rectangle whose sides are less by the kerf
abbrev pub FiguresMost : {S : Type 0} → Job → System S → Type 0
FiguresMost {S} J Y = (l w : ℕ) (s : S) → Y.Share s → MostAmong J (Y.Within s) l w (figure (widened J) Y.shares (l + J.kerf) (w + J.kerf) s)

-- the recursion: a figure is the greatest of 0; the price of any piece that may lie, fits and is admitted; for each length cut, at every
-- whole unit, and each division of the share, the first part's figure plus the second part's; the same for width cuts
abbrev pub Recursion : {S : Type 0} → Job → Shares Piece S → Type 0
Recursion {S} J H = (l w : ℕ) (s : S) → figure J H l w s ≡ step J H (figure J H) l w s

-- the figure of a rectangle on the plate is that of the largest normal length and width not above its sides
abbrev pub Floors : {S : Type 0} → Job → Shares Piece S → Type 0
Floors {S} J H = (l w : ℕ) (s : S) → l ≤ J.plate.0 → w ≤ J.plate.1 → figure J H l w s ≡ figure J H (normal_floor J Length l) (normal_floor J Width w) s

-- the normal positions of a side are exactly 0 and the sums, repetition allowed, of that side of the pieces that fit the plate as
-- they lie, up to it
abbrev pub NormalSums : Job → Type 0
NormalSums J = (d : Direction) (n : ℕ) → List-as-Memᴰ n (normal_positions J d) ↔ ((n ≤ side d J.plate) × Sum (sides (members J) (laid J) J.plate d) n)

-- the plan from a rectangle on the widened plate and a share follows the order of choice down through its parts
abbrev pub PlanFollows : {S : Type 0} → Job → Shares Piece S → Type 0
PlanFollows {S} J H = (l w : ℕ) (s : S) → l ≤ (widened J).plate.0 → w ≤ (widened J).plate.1 → plan_of J H l w s ≡ choice_tree J (plan_of J H) l w (plan_choice (widened J) H l w s)

-- no guillotine tree on the plate has more copies of a kind than can lie there by the count of the capacity
abbrev pub PlateHolds : Job → Type 0
PlateHolds J = (t : Tree Piece) → OnPlate J t → (i : ℕ) → i < J.count → copies_of i t ≤ plate_copies J i

-- the recursion by blocks, for a job cut without loss: no cut without a stage, then the greatest of the other direction's with one stage
-- fewer and of cuts in the block's own direction between figures of its own
pub record BlockRecursion (J : Job) (weight : ℕ → ℕ) : Type 0 where
  pub none : (d : Direction) (l w c : ℕ) → figure J (staged (by_kind weight)) l w (d, 0, c) ≡ single J (by_kind weight) l w c
  pub more : (k : ℕ) (d : Direction) (l w c : ℕ) → figure J (staged (by_kind weight)) l w (d, suc k, c)
      ≡ max (figure J (staged (by_kind weight)) l w (other d, k, c)) (divided J (by_kind weight) (λ l w c. figure J (staged (by_kind weight)) l w (d, suc k, c)) d l w c)

-- what the numbers of states say of copies: a state has of no kind more copies than another exactly if no digit of it is above, and the
-- state of one copy of an ordered kind has no more exactly where a copy of the kind remains
pub record CopiesByDigits (J : Job) : Type 0 where
  pub fewer : (t s i : ℕ) → t < state_count J → s < state_count J → i < J.count → T (no_more J t s) → copies_left J t i ≤ copies_left J s i
  pub none_more : (t s : ℕ) → t < state_count J → s < state_count J → ((i : ℕ) → i < J.count → copies_left J t i ≤ copies_left J s i) → T (no_more J t s)
  pub remains : (s i : ℕ) → s < state_count J → i < J.count → 1 ≤ J.demand i → T (no_more J (one_copy J i) s) → 1 ≤ copies_left J s i
  pub one_more : (s i : ℕ) → s < state_count J → i < J.count → 1 ≤ J.demand i → 1 ≤ copies_left J s i → T (no_more J (one_copy J i) s)

-- The table of a widened job: blocks one after another, in each a cell for each normal length and width, in each cell a word a share.
-- p and r: the number of normal lengths, and of normal widths
abbrev pub position_count : Job → Direction → ℕ
position_count J d = length (normal_positions J d)

-- the a-th normal length, or normal width, counted from 0
abbrev pub position : Job → Direction → ℕ → ℕ
position J d a = get_or (normal_positions J d) a 0

module _ {S : Type 0} (J : Job) (Y : System S) where
  -- the words of a block: p · r cells
  abbrev pub block_words : ℕ
  block_words = position_count J Length * position_count J Width * Y.cell

  -- the words that the table needs
  abbrev pub table_words : ℕ
  table_words = Y.blocks * block_words

  -- each word holds the figure of its normal length, normal width and share: in its block, word (a · r + b) · cell and on
  abbrev pub Figures : List ℕ → Type 0
  Figures xs = (a b : ℕ) (s : S) → a < position_count J Length → b < position_count J Width → Y.Tabled s
      → get_or xs (Y.block s * block_words + ((a * position_count J Width + b) * Y.cell + Y.word s)) 0 ≡ figure J Y.shares (position J Length a) (position J Width b) s

-- the words from n on are as they were
abbrev pub Kept : ℕ → List ℕ → List ℕ → Type 0
Kept n old new = (length new ≡ length old) × (drop n new ≡ drop n old)
