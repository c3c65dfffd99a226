-- Which cuts can give a cell more than the cells before it do: those whose parts make up the whole, at the states that both parts list.
-- One law for both directions: h i s is the value of entry i of a rising list at state s.
use Rattle.table.proofs.Prelude.{◌≡◌, ap, ◌⊎◌, inl, inr, Bool, List, ℕ, ◌+◌, ◌-◌, ◌*◌, ◌≤◌, ◌<◌, ℕ_discrete, dec_le, arith, T, get_or, Order, Covers}

-- values by the length of a side and the state: a state above gives no less, and two parts no more than the whole
pub record Joins (le : ℕ → ℕ → Bool) (h : ℕ → ℕ → ℕ) : Type 0 where
  pub above : (x t s : ℕ) → T (le t s) → h x t ≤ h x s
  pub parts : (x y k m : ℕ) → T (le k (k + m)) → h x k + h y m ≤ h (x + y) (k + m)

-- so a longer side gives no less
pub more_along : (le : ℕ → ℕ → Bool) → Order le → (h : ℕ → ℕ → ℕ) → Joins le h → (x y s : ℕ) → x ≤ y → h x s ≤ h y s
more_along le order h joins x y s l =
    let e : x + (y - x) ≡ y = omega arith in
    let f : s + 0 ≡ s = omega arith in
    omega (arith, rw (e, f) at (joins.parts x (y - x) s 0 (rw f (order.same s))))

-- values along one side: a state above gives no less, two entries together no more than one that is as long; two entries that are
-- shorter than one together are not longer than the one before it
pub record Along (le : ℕ → ℕ → Bool) (positions : List ℕ) (count : ℕ) (h : ℕ → ℕ → ℕ) : Type 0 where
  pub above : (i t s : ℕ) → i < count → T (le t s) → h i t ≤ h i s
  pub sums : (i j a k m : ℕ) → i < count → j < count → a < count → get_or positions i 0 + get_or positions j 0 ≤ get_or positions a 0 → T (le k (k + m)) → h i k + h j m ≤ h a (k + m)
  pub closed : (i j a : ℕ) → i < count → j < count → a < count → get_or positions i 0 + get_or positions j 0 < get_or positions a 0 → get_or positions i 0 + get_or positions j 0 ≤ get_or positions (a - 1) 0
  pub rise : (i j : ℕ) → i < j → j < count → get_or positions i 0 < get_or positions j 0

-- states below two that add without a carry add without one, to a state below their sum
pub sum_below : (le : ℕ → ℕ → Bool) → Order le → (t u k m : ℕ) → T (le t k) → T (le u m) → T (le k (k + m)) → T (le t (t + u)) × T (le (t + u) (k + m))
sum_below le order t u k m a b h =
    let e : m + t ≡ t + m = omega arith in
    let f : u + t ≡ t + u = omega arith in
    let o : T (le m (t + m)) = order.other t m (order.first t k m a h) in
    let v = order.first u m t b (rw e o) in
    let w = order.sums u m t b (rw e o) in (
      rw f at (order.other u t v),
      order.chain (t + u) (t + m) (k + m) (rw (e, f) at w) (order.sums t k m a h),
    )

module _ (le : ℕ → ℕ → Bool) (order : Order le) (positions : List ℕ) (count n : ℕ) (h : ℕ → ℕ → ℕ) (along : Along le positions count h)
    (a i j s g : ℕ) (ha : a < count) (hi : i < count) (hj : j < count) (pi : 1 ≤ i) (hs : s < n)
    (parts : get_or positions i 0 + get_or positions j 0 ≤ get_or positions a 0) (half : 2 * get_or positions i 0 ≤ get_or positions a 0) (before : h (a - 1) s ≤ g)
    (first second : ℕ → Type 0) (cover_i : Covers le n first (h i) (h (i - 1))) (cover_j : Covers le n second (h j) (h (j - 1)))
    (tried : get_or positions i 0 + get_or positions j 0 ≡ get_or positions a 0 → (t u : ℕ) → t < n → u < n → first t → second u → T (le t (t + u)) → T (le (t + u) s) → h i t + h j u ≤ g) where
  -- two entries that are shorter together than entry a give no more than the entry before a
  shorter : (x y k m : ℕ) → x < count → y < count → get_or positions x 0 + get_or positions y 0 < get_or positions a 0 → T (le k (k + m)) → k + m ≡ s → h x k + h y m ≤ g
  shorter x y k m hx hy l c e = omega (arith, along.sums x y (a - 1) k m hx hy (omega arith) (along.closed x y a hx hy ha l) c, ap (h (a - 1)) e)

  -- so a part that is worth no more than the entry before it gives no more
  first_flat : (k m : ℕ) → T (le k (k + m)) → k + m ≡ s → h i k ≤ h (i - 1) k → h i k + h j m ≤ g
  first_flat k m c e l = omega (arith, shorter (i - 1) j k m (omega arith) hj (omega (arith, along.rise (i - 1) i (omega arith) hi)) c e)

  second_flat : (k m : ℕ) → 1 ≤ j → T (le k (k + m)) → k + m ≡ s → h j m ≤ h (j - 1) m → h i k + h j m ≤ g
  second_flat k m q c e l = omega (arith, shorter i (j - 1) k m hi (omega arith) (omega (arith, along.rise (j - 1) j (omega arith) hj)) c e)

  -- the second part of an exact cut up to half is not empty
  second_some : get_or positions i 0 + get_or positions j 0 ≡ get_or positions a 0 → Dec (j ≡ 0) → 1 ≤ j
  second_some e (yes q) = absurd (omega (arith, ap (λ j. get_or positions j 0) q, along.rise 0 i pi hi))
  second_some e (no q) = omega arith

  -- no cut at entry i gives more than g
  pub covered : (k m : ℕ) → T (le k (k + m)) → k + m ≡ s → h i k + h j m ≤ g
  covered k m c e = go (dec_le (get_or positions a 0) (get_or positions i 0 + get_or positions j 0))
    where
      exact : get_or positions i 0 + get_or positions j 0 ≡ get_or positions a 0
          → (h i k ≤ h (i - 1) k) ⊎ ((t : ℕ) × (t < n) × T (le t k) × first t × (h i k ≤ h i t))
          → (h j m ≤ h (j - 1) m) ⊎ ((t : ℕ) × (t < n) × T (le t m) × second t × (h j m ≤ h j t)) → h i k + h j m ≤ g
      exact f (inl x) y = first_flat k m c e x
      exact f (inr x) (inl y) = second_flat k m (second_some f (ℕ_discrete j 0)) c e y
      exact f (inr x) (inr y) =
          let b = sum_below le order x.0 y.0 k m x.2 y.2 c in
          omega (arith, x.4, y.4, tried f x.0 y.0 x.1 y.1 x.3 y.3 b.0 (rw e at b.1))

      go : Dec (get_or positions a 0 ≤ get_or positions i 0 + get_or positions j 0) → h i k + h j m ≤ g
      go (yes q) = exact (omega arith) (cover_i k (omega (arith, order.less k (k + m) c))) (cover_j m (omega arith))
      go (no q) = shorter i j k m hi hj (omega arith) c e
