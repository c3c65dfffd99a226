-- A rack of plates: plans that share the demands, cut at whole units or finer, earn no more than any sum of numbers that bound each plate's
-- trees, so no more than the sum of the plates' bounds, each under weights of its own.
use Rattle.orders.proofs.Prelude.{◌≡◌, ℕ, zero, suc, ◌+◌, ◌≤◌, ◌<◌, ℕ_discrete, arith, sum, Rect, Tree, Piece, Job, profit, copies_of, KeepsDemands, bound_of, SolidKinds, NoneAbove, NoneFiner, sum_le, bound_holds, none_any, none_finer, plated, SharesDemands, NoneTogether, NoneTogetherFiner, rack_profit, rack_bound}

-- one term of a sum is at most the sum
sum_one : (n : ℕ) (f : ℕ → ℕ) (p : ℕ) → p < n → f p ≤ sum n f
unfolding sum
sum_one zero f p h = absurd (omega arith)
sum_one (suc n) f p h = go (ℕ_discrete p n) (λ (l : p < n). sum_one n f p l)
  where
    go : Dec (p ≡ n) → (p < n → f p ≤ sum n f) → f p ≤ sum n f + f n
    go (yes e) g = rw e (omega arith)
    go (no e) g = let l = g (omega arith) in omega arith

-- a sum from its first term on
pub sum_first : (n : ℕ) (f : ℕ → ℕ) → sum (suc n) f ≡ f 0 + sum n (λ p. f (suc p))
unfolding sum
sum_first zero f = omega arith
sum_first (suc n) f = let e = sum_first n f in omega (arith, e)

module _ (J : Job) (n : ℕ) (tree : ℕ → Tree Piece) (shares : SharesDemands J n tree) where
  -- each plan keeps every demand by itself
  pub rack_keeps : (p : ℕ) → p < n → KeepsDemands J (tree p)
  rack_keeps p h i l = let a = sum_one n (λ p. copies_of i (tree p)) p h in let b = shares i l in omega (arith, a, b)

  -- whatever bounds each plan: the sum bounds the rack
  pub rack_any : (b : ℕ → ℕ) → ((p : ℕ) → p < n → KeepsDemands J (tree p) → profit J (tree p) ≤ b p) → rack_profit J n tree ≤ sum n b
  rack_any b h = sum_le n (λ p. profit J (tree p)) b (λ p l. h p l (rack_keeps p l))

module _ (J : Job) (n : ℕ) (plate : ℕ → Rect) where
  -- whatever bounds each plate's trees that keep the demands: no set of plans that share them earns more than the sum
  pub any_together : (b : ℕ → ℕ) → ((p : ℕ) → p < n → NoneAbove (plated J (plate p)) (b p)) → NoneTogether J n plate (sum n b)
  any_together b none tree on shares = rack_any J n tree shares b (λ p l k. none p l (tree p) (on p l) k)

  -- nor where they are cut at multiples of one m-th of a unit
  pub any_finer : (b : ℕ → ℕ) → ((p : ℕ) → p < n → NoneFiner (plated J (plate p)) (b p)) → NoneTogetherFiner J n plate (sum n b)
  any_finer b none m pos tree on shares = rack_any J n tree shares b (λ p l k. none p l m pos (tree p) (on p l) k)

  module _ (solid : SolidKinds J) (weight : ℕ → ℕ → ℕ) where
    -- a plate's bound under weights of its own does
    own_bound : (p : ℕ) → p < n → NoneAbove (plated J (plate p)) (bound_of (plated J (plate p)) (weight p))
    own_bound p l = none_any (plated J (plate p)) (bound_of (plated J (plate p)) (weight p)) (bound_holds (plated J (plate p)) (weight p) solid)

    pub rack_holds : NoneTogether J n plate (rack_bound J n plate weight)
    rack_holds = any_together (λ p. bound_of (plated J (plate p)) (weight p)) own_bound

    pub rack_finer : NoneTogetherFiner J n plate (rack_bound J n plate weight)
    rack_finer = any_finer (λ p. bound_of (plated J (plate p)) (weight p)) (λ p l. none_finer (plated J (plate p)) solid (bound_of (plated J (plate p)) (weight p)) (own_bound p l))
