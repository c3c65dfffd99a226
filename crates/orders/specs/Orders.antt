-- A whole order on plates, in plain words: what the order is worth, plans that hold all of it, plates that cannot, and the number of plates
-- that is needed. The plates may be of several types, each at a cost, and other plates may stand beside. The theorems are in proofs/Orders
-- and proofs/Needed.
-- docs/SCOPE.md: Whole orders; Multipliers.
use Rattle.std.specs.Prelude.{◌≡◌, Bool, true, false, List, ℕ, ◌+◌, ◌-◌, ◌*◌, ◌/◌, ◌≤◌, ◌<◌, ltb, eqb, length, get_or}
use Rattle.cutting.specs.Limits.{most_kinds, most_demand, most_price}
use Rattle.cutting.specs.Lists.{sum, only}
use Rattle.cutting.specs.Tree.{Rect, Tree}
use Rattle.cutting.specs.Pieces.{Piece}
use Rattle.cutting.specs.Job.{Job}
use Rattle.cutting.specs.Promises.{NoneBetter}
use Rattle.cutting.specs.Relaxation.{Relaxes, SameKinds}
use Rattle.orders.specs.Racks.{plated, AnyOnPlates, AnyOnFinerPlates, rack_profit}
pub use Rattle.promises.specs.Orders.{worth_at, order_worth, HoldsOrder, HoldsBeside}

-- no order is worth more: 64 kinds of 255 copies at 1,000,000
abbrev pub most_worth : ℕ
most_worth = most_kinds * most_demand * most_price

-- n plates cannot hold the whole order, cut at whole units or at multiples of one m-th of a unit
pub record NotHeld (J : Job) (n : ℕ) (plate : ℕ → Rect) : Type 0 where
  pub whole : (tree : ℕ → Tree Piece) → AnyOnPlates J n plate tree → HoldsOrder J n tree → ⊥
  pub finer : (m : ℕ) → 1 ≤ m → (tree : ℕ → Tree Piece) → AnyOnFinerPlates J m n plate tree → HoldsOrder J n tree → ⊥

-- n of the job's plates cannot hold the whole order together with any other trees, of any plates, that earn at most `other` in all
pub record NotHeldBeside (J : Job) (n other : ℕ) : Type 0 where
  pub whole : (tree : ℕ → Tree Piece) → AnyOnPlates J n (λ p. J.plate) tree → (k : ℕ) (others : ℕ → Tree Piece) → rack_profit J k others ≤ other → HoldsBeside J n tree k others → ⊥
  pub finer : (m : ℕ) → 1 ≤ m → (tree : ℕ → Tree Piece) → AnyOnFinerPlates J m n (λ p. J.plate) tree → (k : ℕ) (others : ℕ → Tree Piece) → rack_profit J k others ≤ other → HoldsBeside J n tree k others → ⊥

-- more plates than there are: 2^64 - 1
abbrev pub endless : ℕ
endless = 18446744073709551615

-- the plates needed for a worth c, by whether a plate's bound b is 0
abbrev pub plates_by : Bool → ℕ → ℕ → ℕ
plates_by true b c = only (ltb 0 c) endless
plates_by false b c = (c + (b - 1)) / b

-- the plates needed for a worth c where no plate earns more than b: c over b, rounded up
abbrev pub plates_for : ℕ → ℕ → ℕ
plates_for b c = plates_by (eqb b 0) b c

-- what is left of the order's worth beside other plates that earn at most `other`: 0 where that is not above 0
abbrev pub left_beside : Job → ℕ → ℕ
left_beside J other = order_worth J - other

-- the plates needed for the whole order beside those
abbrev pub plates_needed : Job → ℕ → ℕ → ℕ
plates_needed J b other = plates_for b (left_beside J other)

-- n is the least number with n times b at least c, and 2^64 - 1 where b is 0 and c is not
pub record Fewest (b c n : ℕ) : Type 0 where
  pub enough : 1 ≤ b → c ≤ n * b
  pub least : (m : ℕ) → m < n → m * b < c
  pub none : c ≡ 0 → n ≡ 0
  pub never : b ≡ 0 → 1 ≤ c → n ≡ endless

-- fewer than n of the job's plates cannot hold the order, nor at any true sizes that the job stands for
pub record NoFewer (M : Job) (n other : ℕ) : Type 0 where
  pub own : (m : ℕ) → m < n → NotHeldBeside M m other
  pub modelled : (J : Job) → SameKinds J M → Relaxes J M → (m : ℕ) → m < n → NotHeldBeside J m other

-- plates of several types: each type below k has a plate and a cost, and no tree of its plate that keeps the demands earns more than that.
-- Plates that cost less in all than the order is worth cannot hold it
abbrev pub CheaperNotHeld : Job → Type 0
CheaperNotHeld J = (k : ℕ) (rect : ℕ → Rect) (cost : ℕ → ℕ) → ((r : ℕ) → r < k → NoneBetter (plated J (rect r)) (cost r)) → (n : ℕ) (type : ℕ → ℕ) → ((p : ℕ) → p < n → type p < k)
    → sum n (λ p. cost (type p)) < order_worth J → NotHeld J n (λ p. rect (type p))

-- the amounts of a lent list
abbrev pub amount_in : List ℕ → ℕ → ℕ
amount_in amounts i = get_or amounts i 0

-- what the sum asks of demands and amounts: each in its range, and one of each for every kind
pub record Summable (count : ℕ) (demands amounts : List ℕ) : Type 0 where
  pub few : count ≤ most_kinds
  pub there : count ≤ length amounts
  pub demands_low : (i : ℕ) → i < count → get_or demands i 0 ≤ most_demand
  pub amounts_low : (i : ℕ) → i < count → get_or amounts i 0 ≤ most_price
