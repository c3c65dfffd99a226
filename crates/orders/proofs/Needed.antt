-- The plates needed: the least number that is enough by the bound, so that fewer cannot hold the order, at the job's own sizes and at true
-- sizes that it stands for. And the two sums of the code.
use Rattle.orders.proofs.Prelude.{◌≡◌, refl, sym, ◌∙◌, ap, ap₂, ℕ, zero, suc, ◌+◌, ◌-◌, ◌*◌, ◌/◌, ◌%◌, ◌≤◌, ◌<◌, mul-le-mul_right, div-add-mod', mod-lt, ℕ_discrete, arith, lt-ltb, le-ltb, eq-eqb, ne_eqb, sum, only, Job, SolidKinds, NoneBetter, SameKinds, relaxed_none, order_worth, endless, plates_by, plates_for, left_beside, plates_needed, Fewest, NoFewer}
use Rattle.std.specs.Int.{div_ceil}
use Rattle.std.proofs.lemmas.Grind.{div_ceil_times}
use Rattle.orders.proofs.Orders.{not_held_beside}

-- the plates needed where the bound is above 0
plates_up : (b c : ℕ) → 0 < b → (c + (b - 1)) / b ≡ plates_for b c
plates_up b c h = sym (ap (λ t. plates_by t b c) (ne_eqb b 0 (λ e. absurd (omega (arith, e, h)))))

-- where it is 0 and something is left
pub plates_endless : (b c : ℕ) → b ≤ 0 → 0 < c → endless ≡ plates_for b c
plates_endless b c h l =
    let e : b ≡ 0 = omega arith in
    sym (ap (λ t. plates_by t b c) (eq-eqb b 0 e) ∙ ap (λ t. only t endless) (lt-ltb 0 c l))

-- where it is 0 and nothing is left
pub plates_none : (b c : ℕ) → b ≤ 0 → c ≤ 0 → 0 ≡ plates_for b c
plates_none b c h l =
    let e : b ≡ 0 = omega arith in
    sym (ap (λ t. plates_by t b c) (eq-eqb b 0 e) ∙ ap (λ t. only t endless) (le-ltb 0 c l))

module _ (b c : ℕ) where
  -- a quotient rounded up, and what it leaves
  abbrev up : ℕ
  up = (c + (b - 1)) / b

  up_parts : up * b + (c + (b - 1)) % b ≡ c + (b - 1)
  up_parts = div-add-mod' (c + (b - 1)) b

  up_enough : 0 < b → c ≤ up * b
  up_enough h = omega (arith, up_parts, mod-lt (c + (b - 1)) h)

  up_least : 0 < b → (m : ℕ) → m < up → m * b < c
  up_least h m l =
      let k : (m + 1) * b ≤ up * b = mul-le-mul_right {m = m + 1} {n = up} b (omega (arith, l)) in
      let d : (m + 1) * b ≡ m * b + b = omega arith in
      omega (arith, up_parts, k, d, h)

  up_none : 0 < b → c ≡ 0 → up ≡ 0
  up_none h e = go up refl
    where
      go : (n : ℕ) → up ≡ n → up ≡ 0
      go zero f = f
      go (suc n) f = absurd (omega (arith, up_least h 0 (omega (arith, f)), e))

  -- no other number is enough by so little
  up_only : (q : ℕ) → c ≤ q * b → q * b < c + b → q ≡ up
  up_only q k l = omega (arith, no_more, no_fewer)
    where
      pos : 0 < b
      pos = omega (arith, k, l)

      no_more : up < q → ⊥
      no_more m = omega (arith, up_enough pos, l, mul-le-mul_right {m = up + 1} {n = q} b (omega (arith, m)))

      no_fewer : q < up → ⊥
      no_fewer m = omega (arith, up_least pos q m, k)

-- the plates needed where the bound is above 0
pub plates_over : (b c : ℕ) → 0 < b → div_ceil c b ≡ plates_for b c
plates_over b c h = let k = div_ceil_times c b h in up_only b c (div_ceil c b) k.0 k.1 ∙ plates_up b c h

-- the plates needed are the fewest
pub fewest : (b c : ℕ) → Fewest b c (plates_for b c)
fewest b c = go (ℕ_discrete b 0) (ℕ_discrete c 0)
  where
    go : Dec (b ≡ 0) → Dec (c ≡ 0) → Fewest b c (plates_for b c)
    go (no d) e = rw (← plates_up b c (omega (arith, d))) (record {
      enough = λ h. up_enough b c h;
      least = up_least b c (omega (arith, d));
      none = up_none b c (omega (arith, d));
      never = λ z. absurd (omega (arith, d, z));
    })
    go (yes d) (yes e) = rw (← plates_none b c (omega (arith, d)) (omega (arith, e))) (record {
      enough = λ h. omega (arith, e);
      least = λ m l. absurd (omega (arith, l));
      none = λ z. refl;
      never = λ z l. absurd (omega (arith, e, l));
    })
    go (yes d) (no e) = rw (← plates_endless b c (omega (arith, d)) (omega (arith, e))) (record {
      enough = λ h. absurd (omega (arith, d, h));
      least = λ m l. rw d (omega (arith, e));
      none = λ z. absurd (omega (arith, e, z));
      never = λ z l. refl;
    })

-- the same kinds are worth the same
same_worth : (J M : Job) → SameKinds J M → order_worth M ≡ order_worth J
unfolding sum
same_worth J M same = ap (λ n. sum n (λ i. M.demand i * M.price i)) same.counts ∙ go J.count (λ i l. ap₂ ◌*◌ (same.demands i l) (same.prices i l))
  where
    go : (n : ℕ) → ((i : ℕ) → i < n → M.demand i * M.price i ≡ J.demand i * J.price i) → sum n (λ i. M.demand i * M.price i) ≡ sum n (λ i. J.demand i * J.price i)
    go zero e = refl
    go (suc n) e = ap₂ ◌+◌ (go n (λ i l. e i (omega (arith, l)))) (e n (omega arith))

-- fewer plates than needed come with `other` to less than the order is worth
below_worth : (J : Job) (b other m : ℕ) → m < plates_needed J b other → m * b + other < order_worth J
below_worth J b other m l = let k = (fewest b (left_beside J other)).least m l in omega (arith, k)

-- so they cannot hold it
pub no_fewer : (M : Job) → SolidKinds M → (b other : ℕ) → NoneBetter M b → NoFewer M (plates_needed M b other) other
no_fewer M solid b other none = record {
  own = λ m l. not_held_beside M m b other none (below_worth M b other m l);
  modelled = λ J same rel m l. not_held_beside J m b other (relaxed_none J M rel solid b none.0) (omega (arith, below_worth M b other m l, same_worth J M same));
}
