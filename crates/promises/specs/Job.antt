-- A job and its guillotine trees: what may lie, what a tree earns, weighs and keeps, the job with the blade's width added, in finer units and
-- on another plate, and the capacity.
-- docs/SCOPE.md: Guillotine trees; Weights and capacity; Pieces that may be turned; Grain; Zero ordered means zero; What the plate can hold;
-- The blade's width; Cuts between the marks; No more than so many stages.
use Rattle.std.specs.Prelude.{Bool, true, false, ◌&&◌, ◌||◌, not, List, [], ◌∷◌, ◌++◌, ℕ, ◌+◌, ◌-◌, ◌*◌, ◌/◌, ◌≤◌, ◌<◌, min, T, leb, eqb}
use Rattle.std.proofs.Math.Option.{Option, none, some}
use mathlib.Core.List.{map}
use Rattle.promises.specs.Prelude.{Direction, Length, Width}
use Rattle.promises.specs.Lists.{sum, only, greatest}

-- a rectangle, length first
abbrev pub Rect : Type 0
Rect = ℕ × ℕ

-- the side that a cut divides
abbrev pub side : Direction → Rect → ℕ
side Length r = r.0
side Width r = r.1

-- the rectangle with x on the side that is cut, and the other side whole
abbrev pub part : Direction → ℕ → Rect → Rect
part Length x r = (x, r.1)
part Width x r = (r.0, x)

-- the area of a rectangle
abbrev pub area : Rect → ℕ
area r = r.0 * r.1

-- a rectangle turned by a quarter: length and width change places
abbrev pub quarter : Rect → Rect
quarter r = (r.1, r.0)

-- a rectangle with k added to both sides
abbrev pub wider : ℕ → Rect → Rect
wider k r = (r.0 + k, r.1 + k)

-- a rectangle measured in m-ths of a unit
abbrev pub times : ℕ → Rect → Rect
times m r = (m * r.0, m * r.1)

-- whether a rectangle fits in another: neither side is greater
abbrev pub fits_in : Rect → Rect → Bool
fits_in q r = leb q.0 r.0 && leb q.1 r.1

-- whether a size fits upright or turned
abbrev pub fits_either : Rect → Rect → Bool
fits_either q r = fits_in q r || fits_in (quarter q) r

-- a piece of a tree: a kind that lies upright, or turned by a quarter
pub data Piece : Type 0 where
  upright turned : ℕ → Piece

-- the kind of a piece
abbrev pub kind : Piece → ℕ
kind (upright i) = i
kind (turned i) = i

-- the size of a piece as it lies, where size gives the kinds' sizes
abbrev pub lying : (ℕ → Rect) → Piece → Rect
lying size (upright i) = size i
lying size (turned i) = quarter (size i)

-- a tree whose piece nodes name a P: waste, a piece, or a cut with its position and its two parts
pub data Tree (P : Type 0) : Type 0 where
  waste : Tree P
  piece : P → Tree P
  cut : Direction → ℕ → Tree P → Tree P → Tree P

module _ {P : Type 0} where
  -- the sum of f over the pieces of a tree
  unfoldable pub total : (P → ℕ) → Tree P → ℕ
  total f waste = 0
  total f (piece p) = f p
  total f (cut d x a b) = total f a + total f b

  -- the number of pieces in a tree
  abbrev pub piece_count : Tree P → ℕ
  piece_count t = total (λ p. 1) t

  -- the copies of kind i in a tree, where each piece is of a kind
  abbrev pub copies : (P → ℕ) → ℕ → Tree P → ℕ
  copies kind i t = total (λ p. only (eqb (kind p) i) 1) t

-- a job: the plate, the kerf, whether pieces may be turned, whether the capacity is that of the full demands, and kinds numbered from 0
-- with their sizes, prices and demands, and whether each keeps its grain
pub record Job : Type 0 where
  pub plate : Rect
  pub kerf : ℕ
  pub turning : Bool
  pub full_demand : Bool
  pub count : ℕ
  pub size : ℕ → Rect
  pub price : ℕ → ℕ
  pub demand : ℕ → ℕ
  pub grain : ℕ → Bool

-- whether kind i may be turned: the job's pieces may, and it does not keep its grain
abbrev pub turns : Job → ℕ → Bool
turns J i = not (J.grain i) && J.turning

-- the size of a piece as it lies
abbrev pub laid : Job → Piece → Rect
laid J p = lying J.size p

-- a piece of a kind of the job, ordered or not: turned only where its kind may be turned
abbrev pub OfJob : Job → Piece → Type 0
OfJob J (upright i) = i < J.count
OfJob J (turned i) = (i < J.count) × T (turns J i)

-- a piece that may lie: one of a kind of the job that is ordered
abbrev pub MayLie : Job → Piece → Type 0
MayLie J (upright i) = (i < J.count) × (1 ≤ J.demand i)
MayLie J (turned i) = (i < J.count) × (1 ≤ J.demand i) × T (turns J i)

-- a guillotine tree on a rectangle l by w of pieces that `Held` holds of: waste; or such a piece, neither side greater than the rectangle's;
-- or a cut at a whole position x, with a tree on the first part, which has that size, and on the second, the side less x less the kerf; both
-- at least 1
abbrev pub TreeOf : Job → (Piece → Type 0) → ℕ → ℕ → Tree Piece → Type 0
TreeOf J Held l w waste = Unit {0}
TreeOf J Held l w (piece p) = Held p × ((laid J p).0 ≤ l) × ((laid J p).1 ≤ w)
TreeOf J Held l w (cut Length x a b) = (1 ≤ x) × (x + J.kerf < l) × TreeOf J Held x w a × TreeOf J Held (l - x - J.kerf) w b
TreeOf J Held l w (cut Width x a b) = (1 ≤ x) × (x + J.kerf < w) × TreeOf J Held l x a × TreeOf J Held l (w - x - J.kerf) b

-- a guillotine tree of any kinds of the job, ordered or not
abbrev pub AnyTree : Job → ℕ → ℕ → Tree Piece → Type 0
AnyTree J l w t = TreeOf J (OfJob J) l w t

-- a guillotine tree of a job: its pieces are of ordered kinds
abbrev pub GuillotineTree : Job → ℕ → ℕ → Tree Piece → Type 0
GuillotineTree J l w t = TreeOf J (MayLie J) l w t

-- a guillotine tree of any kinds on the job's plate
abbrev pub AnyOnPlate : Job → Tree Piece → Type 0
AnyOnPlate J t = AnyTree J J.plate.0 J.plate.1 t

-- a guillotine tree on the job's plate
abbrev pub OnPlate : Job → Tree Piece → Type 0
OnPlate J t = GuillotineTree J J.plate.0 J.plate.1 t

-- a tree earns the sum of its pieces' prices
abbrev pub profit : Job → Tree Piece → ℕ
profit J t = total (λ p. J.price (kind p)) t

-- the weight of a tree, each copy counted
abbrev pub weight_of : (ℕ → ℕ) → Tree Piece → ℕ
weight_of weight t = total (λ p. weight (kind p)) t

-- the copies of kind i in a tree, upright and turned
abbrev pub copies_of : ℕ → Tree Piece → ℕ
copies_of i t = copies kind i t

-- no kind has more copies in the tree than its demand
abbrev pub KeepsDemands : Job → Tree Piece → Type 0
KeepsDemands J t = (i : ℕ) → i < J.count → copies_of i t ≤ J.demand i

-- the job with the kerf added to every side of the plate and of the kinds, and cut without loss: the lists, the table, the bound and the
-- capacity of a job are this one's
abbrev pub widened : Job → Job
widened J = record {
  plate = wider J.kerf J.plate;
  kerf = 0;
  turning = J.turning;
  full_demand = J.full_demand;
  count = J.count;
  size = λ i. wider J.kerf (J.size i);
  price = J.price;
  demand = J.demand;
  grain = J.grain;
}

-- the job measured in m-ths of a unit: plate, kerf and pieces keep their whole sizes, m times the number, and a whole position of it is a
-- multiple of one m-th
abbrev pub finer : ℕ → Job → Job
finer m J = record { plate = times m J.plate; kerf = m * J.kerf; turning = J.turning; full_demand = J.full_demand; count = J.count; size = λ i. times m (J.size i); price = J.price; demand = J.demand; grain = J.grain }

-- the job on another plate
abbrev pub plated : Job → Rect → Job
plated J r = record { plate = r; kerf = J.kerf; turning = J.turning; full_demand = J.full_demand; count = J.count; size = J.size; price = J.price; demand = J.demand; grain = J.grain }

-- the same job with the capacity of the full demands
abbrev pub at_full_demand : Job → Job
at_full_demand J = record { plate = J.plate; kerf = J.kerf; turning = J.turning; full_demand = true; count = J.count; size = J.size; price = J.price; demand = J.demand; grain = J.grain }

-- the copies of a size q that can lie on a rectangle r: length over length times width over width, each rounded down; where it may
-- be turned, area over area, rounded down, or none if neither way fits
abbrev pub copies_on : Bool → Rect → Rect → ℕ
copies_on false r q = r.0 / q.0 * (r.1 / q.1)
copies_on true r q = only (fits_either q r) (area r / area q)

-- the copies of kind i that can lie on the plate, the kerf added to every side
abbrev pub plate_copies : Job → ℕ → ℕ
plate_copies J i = copies_on (turns J i) (widened J).plate ((widened J).size i)

-- the copies that the capacity counts of a kind, where so many can lie on the plate: in the full-demand form its demand, and else the
-- lesser of the two
abbrev pub counted_of : Bool → ℕ → ℕ → ℕ
counted_of true demand held = demand
counted_of false demand held = min demand held

-- the copies of kind i that the capacity counts
abbrev pub counted : Job → ℕ → ℕ
counted J i = counted_of J.full_demand (J.demand i) (plate_copies J i)

-- the capacity: the sum of counted copies times weight
abbrev pub capacity : Job → (ℕ → ℕ) → ℕ
capacity J weight = sum J.count (λ i. counted J i * weight i)

-- 1 if a cut changes the direction
abbrev pub change : Direction → Direction → ℕ
change Length Length = 0
change Length Width = 1
change Width Length = 1
change Width Width = 0

-- the directions of the cuts on each path down through a tree's cuts
unfoldable pub paths : {P : Type 0} → Tree P → List (List Direction)
paths waste = [] ∷ []
paths (piece p) = [] ∷ []
paths (cut d x a b) = map (λ p. d ∷ p) (paths a ++ paths b)

-- the changes of direction on a path that goes on below a cut
unfoldable pub changes : Direction → List Direction → ℕ
changes d [] = 0
changes d (e ∷ p) = change d e + changes e p

-- the stages of a path: its changes of direction plus one, and none without a cut
abbrev pub path_stages : List Direction → ℕ
path_stages [] = 0
path_stages (d ∷ p) = changes d p + 1

-- the stages of a tree: the most that one of its paths has
abbrev pub stages : {P : Type 0} → Tree P → ℕ
stages t = greatest path_stages (paths t)

-- a limit on stages, or none; the trees within it
abbrev pub WithinLimit : Option ℕ → Tree Piece → Type 0
WithinLimit none t = Unit {0}
WithinLimit (some n) t = stages t ≤ n
