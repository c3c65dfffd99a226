-- Cuts between the marks. The neat plan stands its cuts where pieces end, and reads of a tree its pieces alone: so the neat plan, by whole
-- sizes, of a tree cut at multiples of one m-th of a unit is cut at whole units, with the same pieces and no more stages. What no tree at
-- whole units earns, no finer tree does, whatever the bound that says so: of trees within the demands, or within a capacity.
use Rattle.cutting.proofs.Prelude.{◌≡◌, refl, sym, ◌∙◌, ap₂, ℕ, zero, suc, ◌+◌, ◌*◌, ◌≤◌, max, mul-zero, mul-le-mul_left, le_of_mul-le-mul_left, dec_le, arith, eqb, Direction, Length, Width, only, Rect, Tree, waste, piece, cut, total, piece_count, Piece, upright, turned, kind, times, ◌⊑◌, Job, laid, GuillotineTree, OnPlate, profit, weight_of, KeepsDemands, finer, ordered, members, pieces, SolidKinds, NoneAbove, NoneFiner, FinerAmong, OfWeight, MostWithin, stages, NoneStaged, NoneStagedFiner, OfStages, MostStaged, OfWeights, MostTwo, joined, used, neat_of, used_of}
use Rattle.cutting.proofs.Members.{members_solid}
use Rattle.cutting.proofs.Job.{guillotine_plain, plain_guillotine}
use Rattle.cutting.proofs.AnyKinds.{any_on, ordered_on}
use Rattle.cutting.proofs.Neat.{all_in, neat_fits, neat_total, neat_stages, used_on}

module _ (m : ℕ) where
  max_times : (a b : ℕ) → max (m * a) (m * b) ≡ m * max a b
  max_times a b = go (dec_le a b)
    where
      go : Dec (a ≤ b) → max (m * a) (m * b) ≡ m * max a b
      go (yes h) = let e : max a b ≡ b = omega arith in rw e (omega (arith, mul-le-mul_left m h))
      go (no h) = let e : max a b ≡ a = omega arith in rw e (omega (arith, mul-le-mul_left {m = b} {n = a} m (omega arith)))

  sum_times : (k a b : ℕ) → m * a + m * k + m * b ≡ m * (a + k + b)
  sum_times k a b = omega arith

  -- what a cut's parts use, measured in m-ths
  joined_times : (k : ℕ) (d : Direction) (a b : ℕ) (u v : Rect) → joined (m * k) d a b (times m u) (times m v) ≡ times m (joined k d a b u v)
  joined_times k d zero b u v = refl
  joined_times k d (suc a) zero u v = refl
  joined_times k Length (suc a) (suc b) u v = λ i. (sum_times k u.0 v.0 i, max_times u.1 v.1 i)
  joined_times k Width (suc a) (suc b) u v = λ i. (max_times u.0 v.0 i, sum_times k u.1 v.1 i)

  module _ (J : Job) where
    laid_finer : (p : Piece) → laid (finer m J) p ≡ times m (laid J p)
    laid_finer (upright i) = refl
    laid_finer (turned i) = refl

    -- measured in m-ths a tree uses m times as much
    used_finer : (t : Tree Piece) → used_of (finer m J) t ≡ times m (used_of J t)
    unfolding used
    used_finer waste = λ i. (sym (mul-zero m) i, sym (mul-zero m) i)
    used_finer (piece p) = laid_finer p
    used_finer (cut d x a b) = ap₂ (joined (m * J.kerf) d (piece_count a) (piece_count b)) (used_finer a) (used_finer b)
        ∙ joined_times J.kerf d (piece_count a) (piece_count b) (used_of J a) (used_of J b)

    -- the neat plan of a tree cut at m-ths is a tree cut at whole units
    pub finer_neat : SolidKinds J → 1 ≤ m → (t : Tree Piece) (l w : ℕ) → GuillotineTree (finer m J) (m * l) (m * w) t → GuillotineTree J l w (neat_of J t)
    unfolding pieces members ordered
    finer_neat solid pos t l w g = guillotine_plain J (neat_of J t) (l, w)
        (neat_fits (members J) _ (laid J) J.kerf (members_solid J solid) t (l, w)
        (all_in (members J) _ (laid (finer m J)) (m * J.kerf) t (m * l, m * w) (plain_guillotine (finer m J) t (m * l, m * w) g))
        (whole (rw (used_finer t) at (used_on (finer m J) t (m * l) (m * w) g))))
      where
        whole : times m (used_of J t) ⊑ (m * l, m * w) → used_of J t ⊑ (l, w)
        whole h = (le_of_mul-le-mul_left h.0 pos, le_of_mul-le-mul_left h.1 pos)

module _ (J : Job) where
  -- it has the same sum of any number a kind: earns the same, weighs the same, keeps the same demands
  neat_kinds : (f : ℕ → ℕ) (t : Tree Piece) → total (λ p. f (kind p)) (neat_of J t) ≡ total (λ p. f (kind p)) t
  neat_kinds f t = neat_total J.kerf (laid J) (λ p. f (kind p)) t

  neat_keeps : (t : Tree Piece) → KeepsDemands J t → KeepsDemands J (neat_of J t)
  neat_keeps t k i l = omega (arith, k i l, neat_kinds (λ j. only (eqb j i) 1) t)

  neat_weighs : (weight : ℕ → ℕ) (q : ℕ) (t : Tree Piece) → weight_of weight t ≤ q → weight_of weight (neat_of J t) ≤ q
  neat_weighs weight q t w = omega (arith, w, neat_kinds weight t)

  neat_staged : (n : ℕ) (t : Tree Piece) → stages t ≤ n → stages (neat_of J t) ≤ n
  neat_staged n t s = omega (arith, s, neat_stages J.kerf (laid J) t)

module _ (J : Job) (solid : SolidKinds J) where
  -- so a bound on the trees at whole units among some, where the neat plan of one is one, bounds the finer ones
  among_finer : (Among : Tree Piece → Type 0) → ((t : Tree Piece) → Among t → Among (neat_of J t)) → (n : ℕ)
      → ((t : Tree Piece) → OnPlate J t → Among t → profit J t ≤ n) → FinerAmong J Among n
  among_finer Among kept n none m pos t g a =
      omega (arith, neat_kinds J J.price t, none (neat_of J t) (finer_neat m J solid pos t J.plate.0 J.plate.1 g) (kept t a))

  -- those that keep the demands
  pub none_finer : (n : ℕ) → NoneAbove J n → NoneFiner J n
  none_finer n none m pos t g k = among_finer (KeepsDemands J) (neat_keeps J) n (λ t o k. none t (any_on J t o) k) m pos t (ordered_on (finer m J) t g k) k

  -- and within a limit of stages too
  pub staged_finer : (n q : ℕ) → NoneStaged J n q → NoneStagedFiner J n q
  staged_finer n q none m pos t g s k = among_finer (λ t. (stages t ≤ n) × KeepsDemands J t) (λ t a. (neat_staged J n t a.0, neat_keeps J t a.1)) q
      (λ t o a. none t (any_on J t o) a.0 a.1) m pos t (ordered_on (finer m J) t g k) (s, k)

  -- those within one capacity
  pub within_finer : (weight : ℕ → ℕ) (q n : ℕ) → MostWithin J weight q n → FinerAmong J (OfWeight weight q) n
  within_finer weight q n most = among_finer (OfWeight weight q) (neat_weighs J weight q) n most.0

  -- within two
  pub two_finer : (first second : ℕ → ℕ) (q q' n : ℕ) → MostTwo J first second q q' n → FinerAmong J (OfWeights first second q q') n
  two_finer first second q q' n most =
      among_finer (OfWeights first second q q') (λ t a. (neat_weighs J first q t a.0, neat_weighs J second q' t a.1)) n most.0

  -- and within a limit of stages and a capacity
  pub stages_finer : (weight : ℕ → ℕ) (n q m : ℕ) → MostStaged J weight n q m → FinerAmong J (OfStages weight n q) m
  stages_finer weight n q m most =
      among_finer (OfStages weight n q) (λ t a. (neat_staged J n t a.0, neat_weighs J weight q t a.1)) m (λ t g a. most.0 t (g, a.0) a.1)
