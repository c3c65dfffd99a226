-- The relaxed recursion and the plan behind it, over any shares: the pieces that may lie, normal positions, the figure of a rectangle and a
-- share, the order of choice and the plan as the saw cuts it.
-- docs/SCOPE.md: The bound; Normal positions; The written plan; The blade's width.
use Rattle.std.specs.Prelude.{◌≡◌, Bool, true, false, ◌&&◌, ◌||◌, List, [], ◌∷◌, ℕ, zero, suc, ◌+◌, ◌-◌, max, leb, ltb, eqb}
use Rattle.std.proofs.Math.Option.{Option, none, some}
use mathlib.Core.List.{map, Memᴰ as List-as-Memᴰ}
use Rattle.promises.specs.Prelude.{Direction, Length, Width}
use Rattle.promises.specs.Lists.{range, only, filter, any, first, greatest, each, pairs}
use Rattle.promises.specs.Job.{Rect, side, Piece, upright, turned, kind, fits_in, Tree, waste, piece, cut, Job, laid, turns, widened}

-- the pieces that a share admits, and the ways to divide a share between the two parts of a cut
pub record Shares (P S : Type 0) : Type 0 where
  pub admits : S → P → Bool
  pub splits : Direction → S → List (S × S)

-- the ways in which a kind may lie: upright, and then turned where it may be turned
abbrev pub ways : Bool → ℕ → List Piece
ways false i = upright i ∷ []
ways true i = upright i ∷ turned i ∷ []

-- the kinds that are ordered: a kind of demand 0 is cancelled, and its number stays its own
unfoldable pub ordered : Job → List ℕ
ordered J = filter (λ i. leb 1 (J.demand i)) (range 0 J.count)

-- the pieces that may lie, kinds rising, each upright and then, where it may be, turned
unfoldable pub members : Job → List Piece
members J = each (λ i. ways (turns J i) i) (ordered J)

module _ {S : Type 0} (J : Job) (H : Shares Piece S) where
  -- the greatest price of a piece that may lie, fits and is admitted by the share
  unfoldable pub single : ℕ → ℕ → S → ℕ
  single l w s = greatest (λ p. only (fits_in (laid J p) (l, w) && H.admits s p) (J.price (kind p))) (members J)

  -- the greatest that a cut in one direction gives, at every whole unit and for every division of the share, where F is the figure of the parts
  abbrev pub divided : (ℕ → ℕ → S → ℕ) → Direction → ℕ → ℕ → S → ℕ
  divided F Length l w s = greatest (λ x. greatest (λ q. F x w q.0 + F (l - x) w q.1) (H.splits Length s)) (range 1 (l - 1))
  divided F Width l w s = greatest (λ x. greatest (λ q. F l x q.0 + F l (w - x) q.1) (H.splits Width s)) (range 1 (w - 1))

  -- one step: the greatest of a single piece, a length cut and a width cut
  abbrev pub step : (ℕ → ℕ → S → ℕ) → ℕ → ℕ → S → ℕ
  step F l w s = max (single l w s) (max (divided F Length l w s) (divided F Width l w s))

  -- the recursion, so many steps deep
  unfoldable pub after : ℕ → ℕ → ℕ → S → ℕ
  after zero l w s = 0
  after (suc n) l w s = step (after n) l w s

  -- the figure of a rectangle and a share, for a job cut without loss: more steps than the half perimeter change nothing
  unfoldable pub figure : ℕ → ℕ → S → ℕ
  figure l w s = after (suc (l + w)) l w s

-- a sum, with repetition, of numbers of a list
pub data Sum (zs : List ℕ) : ℕ → Type 0 where
  empty : Sum zs 0
  more : {n m : ℕ} (a : ℕ) → List-as-Memᴰ a zs → Sum zs n → m ≡ a + n → Sum zs m

-- the same as a test, over sums of at most k numbers
unfoldable pub summed : List ℕ → ℕ → ℕ → Bool
summed zs zero n = eqb n 0
summed zs (suc k) n = eqb n 0 || any (λ a. leb a n && summed zs k (n - a)) zs

-- n numbers are enough for a sum of n
unfoldable pub normal? : List ℕ → ℕ → Bool
normal? zs n = summed zs n n

module _ {P : Type 0} (ps : List P) (size : P → Rect) (plate : Rect) where
  -- the sides, in one direction, of the pieces that fit the plate
  unfoldable pub sides : Direction → List ℕ
  sides d = map (λ p. side d (size p)) (filter (λ p. fits_in (size p) plate) ps)

  -- the normal lengths, and the normal widths, as tests
  abbrev pub normal : Direction → ℕ → Bool
  normal d = normal? (sides d)

-- whether a number is a normal length, or a normal width, for a job cut without loss
abbrev pub normal_side : Job → Direction → ℕ → Bool
normal_side J d = normal (members J) (laid J) J.plate d

-- the normal lengths, or the normal widths, up to the plate's side, rising
unfoldable pub normal_positions : Job → Direction → List ℕ
normal_positions J d = filter (normal_side J d) (range 0 (suc (side d J.plate)))

-- the largest number up to n that passes a test, and 0 where none does
unfoldable pub floor : (ℕ → Bool) → ℕ → ℕ
floor N zero = 0
floor N (suc n) = elim (N (suc n)) [ true ↦ suc n | false ↦ floor N n ]

-- the largest normal position not above a length
abbrev pub normal_floor : Job → Direction → ℕ → ℕ
normal_floor J d n = floor (normal_side J d) n

-- what a plan does with a rectangle
pub data Choice (P S : Type 0) : Type 0 where
  as_waste : Choice P S
  as_piece : P → Choice P S
  as_cut : Direction → ℕ → S × S → Choice P S

module _ {P S : Type 0} where
  -- a width cut that was found, or waste
  abbrev pub or_waste : Option (ℕ × (S × S)) → Choice P S
  or_waste none = as_waste
  or_waste (some u) = as_cut Width u.0 u.1

  -- a length cut that was found, or what follows
  abbrev pub or_length : Option (ℕ × (S × S)) → Choice P S → Choice P S
  or_length none c = c
  or_length (some u) c = as_cut Length u.0 u.1

  -- a piece that was found, or what follows
  abbrev pub or_piece : Option P → Choice P S → Choice P S
  or_piece none c = c
  or_piece (some p) c = as_piece p

  -- waste where the figure is 0, or what follows
  abbrev pub or_zero : Bool → Choice P S → Choice P S
  or_zero true c = as_waste
  or_zero false c = c

-- The order of choice, for a job cut without loss.
module _ {S : Type 0} (J : Job) (H : Shares Piece S) where
  -- whether a piece fits, is admitted by the share, and has the figure as its price
  abbrev pub laid_earns : ℕ → ℕ → S → Piece → Bool
  laid_earns l w s p = (fits_in (laid J p) (l, w) && H.admits s p) && eqb (J.price (kind p)) (figure J H l w s)

  -- whether a cut at position u .0, with the shares u .1 for its parts, earns the figure
  abbrev pub pair_earns : Direction → ℕ → ℕ → S → ℕ × (S × S) → Bool
  pair_earns Length l w s u = eqb (figure J H u.0 w u.1.0 + figure J H (l - u.0) w u.1.1) (figure J H l w s)
  pair_earns Width l w s u = eqb (figure J H l u.0 u.1.0 + figure J H l (w - u.0) u.1.1) (figure J H l w s)

  -- the first position and division of the share that earn it: normal positions from 1 to one less than the tabled side, rising, and for
  -- each the divisions in their order, the first part's share rising
  unfoldable pub first_pair : Direction → ℕ → ℕ → S → Option (ℕ × (S × S))
  first_pair d l w s = first (pair_earns d l w s) (pairs (filter (normal_side J d) (range 1 (normal_floor J d (side d (l, w)) - 1))) (H.splits d s))

  -- figure 0 gives waste; otherwise the lowest-numbered kind, upright before turned; otherwise a length cut; failing all, a width cut
  unfoldable pub plan_choice : ℕ → ℕ → S → Choice Piece S
  plan_choice l w s = or_zero (eqb (figure J H l w s) 0) (or_piece (first (laid_earns l w s) (members J)) (or_length (first_pair Length l w s) (or_waste (first_pair Width l w s))))

-- whether a cut remains where n, the blade's width k added, lies beyond it: then its second part is at least 1
abbrev pub cut_remains : ℕ → ℕ → Bool
cut_remains k n = ltb k n

-- a cut that remains, or its first part alone
abbrev pub or_first : {P : Type 0} → Bool → Direction → ℕ → Tree P → Tree P → Tree P
or_first true d x a b = cut d x a b
or_first false d x a b = a

-- the tree after a choice of the widened job, where F is the plan of the parts: a cut stands at its position less the kerf, with the true
-- remainder beyond it, and where that would be below 1 the plan goes on with the first part's size and share
abbrev pub choice_tree : {S : Type 0} → Job → (ℕ → ℕ → S → Tree Piece) → ℕ → ℕ → Choice Piece S → Tree Piece
choice_tree J F l w as_waste = waste
choice_tree J F l w (as_piece p) = piece p
choice_tree J F l w (as_cut Length x q) = or_first (cut_remains J.kerf (l - x)) Length (x - J.kerf) (F x w q.0) (F (l - x) w q.1)
choice_tree J F l w (as_cut Width x q) = or_first (cut_remains J.kerf (w - x)) Width (x - J.kerf) (F l x q.0) (F l (w - x) q.1)

module _ {S : Type 0} (J : Job) (H : Shares Piece S) where
  -- the plan, so many choices deep
  unfoldable pub plan_deep : ℕ → ℕ → ℕ → S → Tree Piece
  plan_deep zero l w s = waste
  plan_deep (suc n) l w s = choice_tree J (plan_deep n) l w (plan_choice (widened J) H l w s)

  -- the plan from a rectangle of the widened job and a share downward: more choices than the half perimeter change nothing
  unfoldable pub plan_of : ℕ → ℕ → S → Tree Piece
  plan_of l w s = plan_deep (suc (l + w)) l w s
