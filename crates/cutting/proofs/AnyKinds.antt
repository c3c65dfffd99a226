-- Trees of any kinds. One that keeps every demand has a copy of ordered kinds alone, so it is a guillotine tree of the job; and every such
-- tree is one of any kinds.
use Rattle.cutting.proofs.Prelude.{ℕ, ◌-◌, ◌≤◌, ◌<◌, arith, eqb, eqb_refl, Direction, Length, Width, Tree, waste, piece, cut, total, Piece, upright, turned, kind, Job, OfJob, MayLie, AnyTree, AnyOnPlate, GuillotineTree, OnPlate, KeepsDemands, profit, NoneAbove}
use Rattle.cutting.proofs.Tests.{only_open}

module _ (J : Job) where
  lie_of : (p : Piece) → MayLie J p → OfJob J p
  lie_of (upright i) h = h.0
  lie_of (turned i) h = (h.0, h.2)

  of_kind : (p : Piece) → OfJob J p → kind p < J.count
  of_kind (upright i) h = h
  of_kind (turned i) h = h.0

  of_lie : (p : Piece) → OfJob J p → 1 ≤ J.demand (kind p) → MayLie J p
  of_lie (upright i) h d = (h, d)
  of_lie (turned i) h d = (h.0, d, h.1)

  -- a tree of ordered kinds is one of any kinds
  pub any_tree : (t : Tree Piece) (l w : ℕ) → GuillotineTree J l w t → AnyTree J l w t
  any_tree waste l w g = tt
  any_tree (piece p) l w g = (lie_of p g.0, g.1, g.2)
  any_tree (cut Length x a b) l w g = (g.0, g.1, any_tree a x w g.2, any_tree b (l - x - J.kerf) w g.3)
  any_tree (cut Width x a b) l w g = (g.0, g.1, any_tree a l x g.2, any_tree b l (w - x - J.kerf) g.3)

  -- the parts of a cut keep what it keeps
  first_keeps : (d : Direction) (x : ℕ) (a b : Tree Piece) → KeepsDemands J (cut d x a b) → KeepsDemands J a
  unfolding total
  first_keeps d x a b k i l = omega (arith, k i l)

  second_keeps : (d : Direction) (x : ℕ) (a b : Tree Piece) → KeepsDemands J (cut d x a b) → KeepsDemands J b
  unfolding total
  second_keeps d x a b k i l = omega (arith, k i l)

  -- a kind of which a tree that keeps every demand has a piece is ordered
  piece_ordered : (p : Piece) → OfJob J p → KeepsDemands J (piece p) → 1 ≤ J.demand (kind p)
  unfolding total
  piece_ordered p h k = omega (arith, k (kind p) (of_kind p h), only_open (eqb (kind p) (kind p)) 1 (eqb_refl (kind p)))

  -- so that tree is of ordered kinds
  pub ordered_tree : (t : Tree Piece) (l w : ℕ) → AnyTree J l w t → KeepsDemands J t → GuillotineTree J l w t
  ordered_tree waste l w g k = tt
  ordered_tree (piece p) l w g k = (of_lie p g.0 (piece_ordered p g.0 k), g.1, g.2)
  ordered_tree (cut Length x a b) l w g k =
      (g.0, g.1, ordered_tree a x w g.2 (first_keeps Length x a b k), ordered_tree b (l - x - J.kerf) w g.3 (second_keeps Length x a b k))
  ordered_tree (cut Width x a b) l w g k =
      (g.0, g.1, ordered_tree a l x g.2 (first_keeps Width x a b k), ordered_tree b l (w - x - J.kerf) g.3 (second_keeps Width x a b k))

  pub any_on : (t : Tree Piece) → OnPlate J t → AnyOnPlate J t
  any_on t g = any_tree t J.plate.0 J.plate.1 g

  pub ordered_on : (t : Tree Piece) → AnyOnPlate J t → KeepsDemands J t → OnPlate J t
  ordered_on t g k = ordered_tree t J.plate.0 J.plate.1 g k

  -- what no tree of ordered kinds that keeps every demand earns, none of any kinds does
  pub none_any : (n : ℕ) → ((t : Tree Piece) → OnPlate J t → KeepsDemands J t → profit J t ≤ n) → NoneAbove J n
  none_any n none t g k = none t (ordered_on t g k) k
