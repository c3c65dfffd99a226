-- A tree that keeps the demands earns at most what it earns in the lowered job and what the multipliers come to: a price is at most its
-- lowered price plus its multiplier. So a bound of the lowered job with that beside it is one of the job.
use Rattle.multipliers.proofs.Prelude.{◌≡◌, refl, ℕ, zero, suc, ◌+◌, ◌-◌, ◌*◌, ◌≤◌, arith, Length, Width, sum, Tree, waste, piece, cut, total, Piece, upright, turned, kind, sized, saw, Job, AnyTree, OnPlate, weight_of, KeepsDemands, pieces, capacity, bound_of, InRange, NoneAbove, keeps_weight, ordered_on, member_kind, range_solid, plain_guillotine, none_finer, relaxed_none, bound_held, lowered, multiplier_worth, LagrangianHolds}

-- a total of numbers that are at most the sums of others
total_split : {P : Type 0} (f g h : P → ℕ) → ((p : P) → h p ≤ f p + g p) → (t : Tree P) → total h t ≤ total f t + total g t
unfolding total
total_split f g h e waste = omega arith
total_split f g h e (piece p) = e p
total_split f g h e (cut d x a b) = omega (arith, total_split f g h e a, total_split f g h e b)

module _ (J : Job) (m : ℕ → ℕ) where
  -- trees of the job are trees of the lowered job
  lowered_tree : (t : Tree Piece) (l w : ℕ) → AnyTree J l w t → AnyTree (lowered m J) l w t
  lowered_tree waste l w g = g
  lowered_tree (piece (upright i)) l w g = g
  lowered_tree (piece (turned i)) l w g = g
  lowered_tree (cut Length x a b) l w g = (g.0, g.1, lowered_tree a x w g.2, lowered_tree b (l - x - J.kerf) w g.3)
  lowered_tree (cut Width x a b) l w g = (g.0, g.1, lowered_tree a l x g.2, lowered_tree b l (w - x - J.kerf) g.3)

  -- the multipliers of a tree that keeps the demands come to no more than those of the whole order
  multipliers_kept : (t : Tree Piece) → OnPlate J t → KeepsDemands J t → weight_of m t ≤ multiplier_worth m J
  unfolding pieces sized
  multipliers_kept t g k = keeps_weight kind (pieces J) (saw J.kerf) J.count (member_kind J) m J.demand t J.plate (plain_guillotine J t J.plate g) k

  -- so a bound of the lowered job is one of the job
  pub lowered_none : (b : ℕ) → NoneAbove (lowered m J) b → NoneAbove J (b + multiplier_worth m J)
  lowered_none b none t g k = omega (
    arith,
    total_split (λ p. J.price (kind p) - m (kind p)) (λ p. m (kind p)) (λ p. J.price (kind p)) (λ p. omega arith) t,
    none t (lowered_tree t J.plate.0 J.plate.1 g) k,
    multipliers_kept t (ordered_on J t g k) k,
  )

  -- the lowered job is in the scope's ranges
  pub lowered_range : InRange J → InRange (lowered m J)
  lowered_range h = record {
    plate_length = h.plate_length;
    plate_width = h.plate_width;
    kerfs = h.kerfs;
    kinds = h.kinds;
    lengths = h.lengths;
    widths = h.widths;
    prices = λ i l. omega (arith, h.prices i l);
    demands = h.demands;
  }

  -- the Lagrangian bound holds
  pub lagrangian_held : (weight : ℕ → ℕ) → InRange J
      → LagrangianHolds J m weight (capacity J weight) (bound_of (lowered m J) weight) (bound_of (lowered m J) weight + multiplier_worth m J)
  lagrangian_held weight h =
      let b = bound_held (lowered m J) weight (lowered_range h) in
      let none = lowered_none (bound_of (lowered m J) weight) b.demands in
      record {
        is = refl;
        lowered_holds = b;
        demands = none;
        finer = none_finer J (range_solid J h) (bound_of (lowered m J) weight + multiplier_worth m J) none;
        modelled = λ K rel. relaxed_none K J rel (range_solid J h) (bound_of (lowered m J) weight + multiplier_worth m J) none;
      }

-- multipliers of 0 leave the job as it is, and come to nothing
module _ (J : Job) (m : ℕ → ℕ) (none : (i : ℕ) → m i ≡ 0) where
  pub lowered_same : lowered m J ≡ J
  lowered_same = λ i. record { plate = J.plate; kerf = J.kerf; turning = J.turning; full_demand = J.full_demand; count = J.count; size = J.size; price = λ k. same k i; demand = J.demand; grain = J.grain }
    where
      same : (k : ℕ) → J.price k - m k ≡ J.price k
      same k = omega (arith, none k)

  pub worth_none : multiplier_worth m J ≡ 0
  unfolding sum
  worth_none = go J.count
    where
      go : (n : ℕ) → sum n (λ i. J.demand i * m i) ≡ 0
      go zero = refl
      go (suc n) = rw (none n) (omega (arith, go n))
