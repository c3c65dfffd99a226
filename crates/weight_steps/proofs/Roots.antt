-- The step is the whole part of the root, or 255 where that is above; and how a search from 0 finds it.
use Rattle.weight_steps.proofs.Prelude.{◌≡◌, sym, ◌∙◌, ap, ℕ, zero, suc, ◌+◌, ◌*◌, ◌≤◌, ◌<◌, min, mul-le-mul, mul-le-mul_right, dec_le, arith, le-leb, lt-leb, leb, WholeRoot, pick_number, root_below}
use Rattle.weight_steps.proofs.Sums.{product_most}

-- squares rise
square_rises : (x y q : ℕ) → x ≤ y → x * x * q ≤ y * y * q
square_rises x y q h = mul-le-mul_right {m = x * x} {n = y * y} q (mul-le-mul h h)

-- a number whose square is small enough, and the next one's is not, is the greatest, up to n
pub root_found : (n p q x : ℕ) → x ≤ n → x * x * q ≤ p → (x < n → p < (x + 1) * (x + 1) * q) → root_below n p q ≡ x
unfolding root_below
root_found zero p q x l h k = omega arith
root_found (suc n) p q x l h k = go (dec_le x n) (λ (m : x ≤ n). root_found n p q x m h (λ (z : x < n). k (omega arith)))
  where
    go : Dec (x ≤ n) → (x ≤ n → root_below n p q ≡ x) → pick_number (leb (suc n * suc n * q) p) (suc n) (root_below n p q) ≡ x
    go (yes m) ih =
        let z : p < (x + 1) * (x + 1) * q = k (omega arith) in
        let w : p < suc n * suc n * q = omega (arith, square_rises (x + 1) (suc n) q (omega arith)) in
        ap (λ t. pick_number t (suc n) (root_below n p q)) (lt-leb (suc n * suc n * q) p w) ∙ ih m
    go (no m) ih =
        let e : x ≡ suc n = omega arith in
        let z : suc n * suc n * q ≤ p = rw e at h in
        ap (λ t. pick_number t (suc n) (root_below n p q)) (le-leb (suc n * suc n * q) p z) ∙ sym e

-- the whole part of the root of p / q, at most n
pub root_whole : (n p q x : ℕ) → WholeRoot p q x → root_below n p q ≡ min n x
root_whole n p q x h = go (dec_le x n)
  where
    go : Dec (x ≤ n) → root_below n p q ≡ min n x
    go (yes l) = root_found n p q x l h.0 (λ z. h.1) ∙ omega arith
    go (no l) = root_found n p q n (omega arith) (omega (arith, square_rises n x q (omega arith), h.0)) (λ z. absurd (omega arith)) ∙ omega arith

-- where q is not 0, every p / q has a whole root: the search up to p finds it
pub root_exists : (p q : ℕ) → 1 ≤ q → (x : ℕ) × WholeRoot p q x
root_exists p q h = from p (omega (arith, product_most (p + 1) 1 ((p + 1) * (p + 1)) q (omega (arith, product_most 1 (p + 1) (p + 1) (p + 1) (omega arith) (omega arith))) h))
  where
    from : (n : ℕ) → p < (n + 1) * (n + 1) * q → (x : ℕ) × WholeRoot p q x
    from zero k = (0, (omega arith, k))
    from (suc n) k = go (dec_le (suc n * suc n * q) p) (λ (z : p < (n + 1) * (n + 1) * q). from n z)
      where
        go : Dec (suc n * suc n * q ≤ p) → (p < (n + 1) * (n + 1) * q → (x : ℕ) × WholeRoot p q x) → (x : ℕ) × WholeRoot p q x
        go (yes z) ih = (suc n, (z, k))
        go (no z) ih = ih (omega arith)
