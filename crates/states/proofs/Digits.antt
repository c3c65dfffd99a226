-- Numbers of several digits are such an order: digit by digit.
use Rattle.states.proofs.Prelude.{◌≡◌, ◌∙◌, ap, ℕ, zero, suc, ◌+◌, ◌-◌, ◌*◌, ◌/◌, ◌%◌, ◌≤◌, ◌<◌, mod-lt, div-add-mod', mul-add-div_right, mul-add-mod_self_right, div-eq_of_lt, mod-eq_of_lt, mul-le-mul_right, div-lt_iff_lt-mul, arith, T, leb, leb→le, le→leb, and_T, T_and, below, Blocks, Order}

-- quotient and rest are the only ones
pub quotient : (x b q r : ℕ) → x ≡ q * b + r → r < b → x / b ≡ q
quotient x b q r e h = ap (λ y. y / b) e ∙ (mul-add-div_right {m = b} (omega arith) q r ∙ omega (arith, div-eq_of_lt {n = r} {m = b} h))

pub rest : (x b q r : ℕ) → x ≡ q * b + r → r < b → x % b ≡ r
rest x b q r e h = ap (λ y. y % b) e ∙ (mul-add-mod_self_right q b r ∙ mod-eq_of_lt {n = r} {m = b} h)

-- two numbers whose last parts do not carry are added part by part
pub parts_add : (b t u : ℕ) → 1 ≤ b → t % b + u % b < b → ((t + u) / b ≡ t / b + u / b) × ((t + u) % b ≡ t % b + u % b)
parts_add b t u p h =
    let e : t + u ≡ (t / b + u / b) * b + (t % b + u % b) = omega (arith, div-add-mod' t b, div-add-mod' u b) in
    (quotient (t + u) b _ _ e h, rest (t + u) b _ _ e h)

-- where neither part of t is above that of t + u, they do not carry
pub no_carry : (b t u : ℕ) → 1 ≤ b → t % b ≤ (t + u) % b → t / b ≤ (t + u) / b → t % b + u % b < b
no_carry b t u p h l =
    let k : (t + u) / b ≡ t / b + ((t + u) / b - t / b) = omega arith in
    let m : (t + u) / b * b ≡ t / b * b + ((t + u) / b - t / b) * b = ap (λ x. x * b) k ∙ omega arith in
    let e : u ≡ ((t + u) / b - t / b) * b + ((t + u) % b - t % b) = omega (arith, div-add-mod' t b, div-add-mod' (t + u) b) in
    omega (arith, rest u b _ _ e (omega (arith, mod-lt (t + u) {m = b} (omega arith))), mod-lt (t + u) {m = b} (omega arith))

-- the digits before the last
pub lower_blocks : (B : ℕ → ℕ) (d : ℕ) → Blocks B (suc d) → Blocks B d
lower_blocks B d blocks = record { some = λ i h. blocks.some i (omega arith); whole = λ i h. blocks.whole i (omega arith) }

module _ (B : ℕ → ℕ) where
  -- the two parts of a comparison: that of the last digit, and that of the others
  pub below_parts : (d t s : ℕ) → T (below B (suc d) t s) → (t / B d ≤ s / B d) × T (below B d (t % B d) (s % B d))
  unfolding below
  below_parts d t s h = let k = T_and (leb (t / B d) (s / B d)) (below B d (t % B d) (s % B d)) h in (leb→le (t / B d) (s / B d) k.0, k.1)

  pub parts_below : (d t s : ℕ) → t / B d ≤ s / B d → T (below B d (t % B d) (s % B d)) → T (below B (suc d) t s)
  unfolding below
  parts_below d t s h k = and_T (leb (t / B d) (s / B d)) (below B d (t % B d) (s % B d)) (le→leb (t / B d) (s / B d) h) k

  pub below_same : (d s : ℕ) → T (below B d s s)
  unfolding below
  below_same zero s = le→leb s s (omega arith)
  below_same (suc d) s = parts_below d s s (omega arith) (below_same d (s % B d))

  pub below_least : (d s : ℕ) → ((i : ℕ) → i < d → 1 ≤ B i) → T (below B d 0 s)
  unfolding below
  below_least zero s some = le→leb 0 s (omega arith)
  below_least (suc d) s some = parts_below d 0 s (omega (arith, quotient 0 (B d) 0 0 (omega arith) (some d (omega arith)))) (rw (rest 0 (B d) 0 0 (omega arith) (some d (omega arith))) (below_least d (s % B d) (λ i h. some i (omega arith))))

  pub below_chain : (d t u s : ℕ) → T (below B d t u) → T (below B d u s) → T (below B d t s)
  unfolding below
  below_chain zero t u s h k = le→leb t s (omega (arith, leb→le t u h, leb→le u s k))
  below_chain (suc d) t u s h k =
      let x = below_parts d t u h in
      let y = below_parts d u s k in
      parts_below d t s (omega arith) (below_chain d (t % B d) (u % B d) (s % B d) x.1 y.1)

  pub below_less : (d t s : ℕ) → T (below B d t s) → t ≤ s
  unfolding below
  below_less zero t s h = leb→le t s h
  below_less (suc d) t s h =
      let x = below_parts d t s h in
      omega (arith, div-add-mod' t (B d), div-add-mod' s (B d), mul-le-mul_right {m = t / B d} {n = s / B d} (B d) x.0, below_less d (t % B d) (s % B d) x.1)

  -- t is below t + u exactly if they add without a carry: digit by digit
  pub below_adds : (d t u : ℕ) → 1 ≤ B d → T (below B (suc d) t (t + u)) → ((t + u) / B d ≡ t / B d + u / B d) × ((t + u) % B d ≡ t % B d + u % B d)
  below_adds d t u p h =
      let x = below_parts d t (t + u) h in
      parts_add (B d) t u p (no_carry (B d) t u p (below_less d (t % B d) ((t + u) % B d) x.1) x.0)

  pub below_other : (d t u : ℕ) → ((i : ℕ) → i < d → 1 ≤ B i) → T (below B d t (t + u)) → T (below B d u (t + u))
  unfolding below
  below_other zero t u some h = le→leb u (t + u) (omega arith)
  below_other (suc d) t u some h =
      let x = below_parts d t (t + u) h in
      let a = below_adds d t u (some d (omega arith)) h in
      parts_below d u (t + u) (omega (arith, a.0))
      (rw a.1 (below_other d (t % B d) (u % B d) (λ i h. some i (omega arith)) (rw a.1 at x.1)))

  pub below_first : (d t s u : ℕ) → ((i : ℕ) → i < d → 1 ≤ B i) → T (below B d t s) → T (below B d s (s + u)) → T (below B d t (t + u)) × T (below B d (t + u) (s + u))
  unfolding below
  below_first zero t s u some h k = (le→leb t (t + u) (omega arith), le→leb (t + u) (s + u) (omega (arith, leb→le t s h)))
  below_first (suc d) t s u some h k =
      let x = below_parts d t s h in
      let y = below_parts d s (s + u) k in
      let a = below_adds d s u (some d (omega arith)) k in
      let b = parts_add (B d) t u (some d (omega arith)) (omega (arith, a.1, below_less d (t % B d) (s % B d) x.1, mod-lt (s + u) {m = B d} (some d (omega arith)))) in
      let r = below_first d (t % B d) (s % B d) (u % B d) (λ i h. some i (omega arith)) x.1 (rw a.1 at y.1) in (
        parts_below d t (t + u) (omega (arith, b.0)) (rw b.1 r.0),
        parts_below d (t + u) (s + u) (omega (arith, a.0, b.0)) (rw (a.1, b.1) r.1),
      )

  -- no digit is above that of the last state
  pub below_last : (d s : ℕ) → Blocks B d → s < B d → T (below B d s (B d - 1))
  unfolding below
  below_last zero s blocks h = le→leb s (B 0 - 1) (omega arith)
  below_last (suc d) s blocks h =
      let o = blocks.whole d (omega arith) in
      let z : d + 1 ≡ suc d = omega arith in
      let b : B (suc d) ≡ o.0 * B d = rw z at o.1 in
      let some = blocks.some d (omega arith) in
      let k : s / B d < o.0 = (div-lt_iff_lt-mul {k = B d} {x = s} {y = o.0} some).1 (omega arith) in
      let m : o.0 * B d ≡ (o.0 - 1) * B d + B d = (let y : o.0 ≡ o.0 - 1 + 1 = omega arith in ap (λ x. x * B d) y ∙ omega arith) in
      let e : B (suc d) - 1 ≡ (o.0 - 1) * B d + (B d - 1) = omega arith in
      parts_below d s (B (suc d) - 1) (omega (arith, quotient (B (suc d) - 1) (B d) (o.0 - 1) (B d - 1) e (omega arith)))
      (rw (rest (B (suc d) - 1) (B d) (o.0 - 1) (B d - 1) e (omega arith)) (below_last d (s % B d) (lower_blocks B d blocks) (mod-lt s {m = B d} some)))

  -- so numbers of several digits are an order of states
  pub digits_order : (d : ℕ) → Blocks B d → Order (below B d)
  digits_order d blocks = record {
    same = below_same d;
    chain = below_chain d;
    less = below_less d;
    other = λ t u h. below_other d t u (λ i l. blocks.some i (omega arith)) h;
    first = λ t s u h k. (below_first d t s u (λ i l. blocks.some i (omega arith)) h k).0;
    sums = λ t s u h k. (below_first d t s u (λ i l. blocks.some i (omega arith)) h k).1;
    least = λ s. below_least d s (λ i l. blocks.some i (omega arith));
  }
