-- Laws of the loops over the kinds: a test of all of them, sums that agree entry by entry.
use Rattle.weight_steps.proofs.Prelude.{◌≡◌, refl, sym, ◌∙◌, ap, ap₂, Bool, true, false, ◌||◌, ℕ, zero, suc, ◌+◌, ◌*◌, ◌≤◌, ◌<◌, mul-le-mul, ℕ_discrete, arith, range, sum, any}

-- whether some number from a on, n of them, passes a test: the last one counted last
any_last : (f : ℕ → Bool) (a n : ℕ) → any f (range a (suc n)) ≡ any f (range a n) || f (a + n)
unfolding any range
any_last f a zero = let e : a ≡ a + 0 = omega arith in or_false (f a) ∙ ap f e
  where
    or_false : (b : Bool) → (b || false) ≡ b
    or_false true = refl
    or_false false = refl
any_last f a (suc n) = let e : suc a + n ≡ a + suc n = omega arith in
    ap (λ b. f a || b) (any_last f (suc a) n ∙ ap (λ k. any f (range (suc a) n) || f k) e) ∙ or_assoc (f a) (any f (range (suc a) n)) (f (a + suc n))
  where
    or_assoc : (a b c : Bool) → (a || (b || c)) ≡ ((a || b) || c)
    or_assoc true b c = refl
    or_assoc false b c = refl

any_step : (f : ℕ → Bool) (n : ℕ) → any f (range 0 (n + 1)) ≡ any f (range 0 n) || f n
any_step f n = let e : n + 1 ≡ suc n = omega arith in let z : 0 + n ≡ n = omega arith in
    ap (λ m. any f (range 0 m)) e ∙ any_last f 0 n ∙ ap (λ k. any f (range 0 n) || f k) z

-- none of no numbers
pub any_none : (f : ℕ → Bool) → any f (range 0 0) ≡ false
unfolding any range
any_none f = refl

-- and not the next one
pub any_more : (f : ℕ → Bool) (n : ℕ) → any f (range 0 n) ≡ false → f n ≡ false → any f (range 0 (n + 1)) ≡ false
any_more f n p q = any_step f n ∙ ap₂ ◌||◌ p q

-- one of them passes
pub any_some : (f : ℕ → Bool) (n k : ℕ) → k < n → f k ≡ true → any f (range 0 n) ≡ true
unfolding any range
any_some f zero k h p = absurd (omega arith)
any_some f (suc n) k h p = any_last f 0 n ∙ go (ℕ_discrete k n) (λ (l : k < n). any_some f n k l p)
  where
    or-true : (b : Bool) → (b || true) ≡ true
    or-true true = refl
    or-true false = refl

    go : Dec (k ≡ n) → (k < n → any f (range 0 n) ≡ true) → any f (range 0 n) || f (0 + n) ≡ true
    go (yes e) ih = let z : 0 + n ≡ k = omega (arith, e) in ap (λ b. any f (range 0 n) || b) (ap f z ∙ p) ∙ or-true (any f (range 0 n))
    go (no e) ih = ap (λ b. b || f (0 + n)) (ih (omega arith))

-- none of them passes
pub none_passes : (f : ℕ → Bool) (n k : ℕ) → any f (range 0 n) ≡ false → k < n → f k ≡ false
none_passes f n k e h = go (f k) refl
  where
    go : (b : Bool) → f k ≡ b → f k ≡ false
    go false p = p
    go true p = let q = any_some f n k h p in absurd (let z : ◌≡◌ {A = ℕ} 0 1 = cc in omega arith)

-- tests that agree below n
pub any_same : (f g : ℕ → Bool) (n : ℕ) → ((i : ℕ) → i < n → f i ≡ g i) → any f (range 0 n) ≡ any g (range 0 n)
unfolding any range
any_same f g zero h = refl
any_same f g (suc n) h = let z : n ≡ 0 + n = omega arith in any_last f 0 n ∙ ap₂ ◌||◌ (any_same f g n (λ i l. h i (omega arith))) (ap f (sym z) ∙ h n (omega arith) ∙ ap g z) ∙ sym (any_last g 0 n)

-- sums that agree below n
pub sum_same : (n : ℕ) (f g : ℕ → ℕ) → ((i : ℕ) → i < n → f i ≡ g i) → sum n f ≡ sum n g
unfolding sum
sum_same zero f g h = refl
sum_same (suc n) f g h = ap₂ ◌+◌ (sum_same n f g (λ i l. h i (omega arith))) (h n (omega arith))

-- a product of two numbers, each at most another
pub product_most : (a b m n : ℕ) → a ≤ m → b ≤ n → a * b ≤ m * n
product_most a b m n h k = mul-le-mul h k
