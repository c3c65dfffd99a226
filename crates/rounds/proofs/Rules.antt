-- The definitions have the scope's rules of the stop: the test of the demands, the last round.
use Rattle.rounds.proofs.Prelude.{◌≡◌, refl, ◌∙◌, ap, Bool, true, false, ◌||◌, not, ℕ, zero, suc, ◌+◌, ◌*◌, ◌≤◌, ◌<◌, ℕ_discrete, arith, ltb-true, ltb-false, le-ltb, eq-eqb, not-true, not-false, ltb, eqb, range, sum, any, Job, capacity, distance, pick_number, plan_copies, squares, weight_at, within, Lent, round_verdict, refuses, last_here, last_from, last_round, rounds_by, rounds_run, StopRules, any_none, any_more, none_passes, Ok, Err, Checked}

module _ (J : Job) (copies : ℕ → ℕ) where
  -- the test of the demands
  within_true : within J copies ≡ true → (i : ℕ) → i < J.count → copies i ≤ J.demand i
  unfolding within
  within_true e i h = ltb-false (J.demand i) (copies i) (none_passes (λ i. ltb (J.demand i) (copies i)) J.count i (not-true _ e) h)

  none_above : (n : ℕ) → ((i : ℕ) → i < n → copies i ≤ J.demand i) → any (λ i. ltb (J.demand i) (copies i)) (range 0 n) ≡ false
  none_above zero h = any_none (λ i. ltb (J.demand i) (copies i))
  none_above (suc n) h = let e : n + 1 ≡ suc n = omega arith in
      rw e at (any_more (λ i. ltb (J.demand i) (copies i)) n (none_above n (λ i l. h i (omega arith))) (le-ltb (J.demand n) (copies n) (h n (omega arith))))

  true_within : ((i : ℕ) → i < J.count → copies i ≤ J.demand i) → within J copies ≡ true
  unfolding within
  true_within h = ap not (none_above J.count h)

  -- where it fails, the summed squares are not 0: s is a quotient
  square_some : (a b : ℕ) → b < a → 1 ≤ distance a b * distance a b
  square_some a b h = go (distance a b) (omega arith)
    where
      go : (d : ℕ) → 1 ≤ d → 1 ≤ d * d
      go (suc d) l = omega arith
      go zero l = absurd (omega arith)

  sum_some : (n : ℕ) → any (λ i. ltb (J.demand i) (copies i)) (range 0 n) ≡ true → 1 ≤ sum n (λ i. distance (copies i) (J.demand i) * distance (copies i) (J.demand i))
  unfolding sum
  sum_some zero e = absurd (let p = any_none (λ i. ltb (J.demand i) (copies i)) in let z : ◌≡◌ {A = ℕ} 0 1 = cc in omega arith)
  sum_some (suc n) e = go (any f (range 0 n)) refl (ltb (J.demand n) (copies n)) refl (λ p. sum_some n p)
    where
      f : ℕ → Bool
      f i = ltb (J.demand i) (copies i)

      go : (a : Bool) → any f (range 0 n) ≡ a → (b : Bool) → ltb (J.demand n) (copies n) ≡ b → (any f (range 0 n) ≡ true → 1 ≤ sum n (λ i. distance (copies i) (J.demand i) * distance (copies i) (J.demand i)))
          → 1 ≤ sum n (λ i. distance (copies i) (J.demand i) * distance (copies i) (J.demand i)) + distance (copies n) (J.demand n) * distance (copies n) (J.demand n)
      go true p b q ih = omega (arith, ih p)
      go false p true q ih = omega (arith, square_some (copies n) (J.demand n) (ltb-true (J.demand n) (copies n) q))
      go false p false q ih = let k : n + 1 ≡ suc n = omega arith in let r = rw k at (any_more f n p q) in absurd (let z : ◌≡◌ {A = ℕ} 0 1 = cc in omega arith)

  squares_some : within J copies ≡ false → 1 ≤ squares J copies
  unfolding within squares
  squares_some e = sum_some J.count (not-false _ e)

module _ (J : Job) (lower : ℕ) (m : Lent) where
  -- the last round begun is the first that is refused or after which the run stops
  from_most : (n k : ℕ) → last_from J lower m n k ≤ k + n
  unfolding last_from
  from_most zero k = omega arith
  from_most (suc n) k = go (last_here J lower m k) (from_most n (k + 1))
    where
      go : (b : Bool) → last_from J lower m n (k + 1) ≤ k + 1 + n → pick_number b k (last_from J lower m n (k + 1)) ≤ k + suc n
      go true h = omega arith
      go false h = omega arith

  from_before : (n k j : ℕ) → k ≤ j → j < last_from J lower m n k → last_here J lower m j ≡ false
  unfolding last_from
  from_before zero k j h l = absurd (omega arith)
  from_before (suc n) k j h l = go (last_here J lower m k) refl (ℕ_discrete j k) l (λ (g : k + 1 ≤ j) (u : j < last_from J lower m n (k + 1)). from_before n (k + 1) j g u)
    where
      go : (b : Bool) → last_here J lower m k ≡ b → Dec (j ≡ k) → j < pick_number b k (last_from J lower m n (k + 1)) → (k + 1 ≤ j → j < last_from J lower m n (k + 1) → last_here J lower m j ≡ false)
          → last_here J lower m j ≡ false
      go true e d l ih = absurd (omega arith)
      go false e (yes q) l ih = ap (last_here J lower m) q ∙ e
      go false e (no q) l ih = ih (omega arith) l

  from_here : (n k : ℕ) → last_from J lower m n k < k + n → last_here J lower m (last_from J lower m n k) ≡ true
  unfolding last_from
  from_here zero k h = absurd (omega arith)
  from_here (suc n) k h = go (last_here J lower m k) refl h (λ (l : last_from J lower m n (k + 1) < k + 1 + n). from_here n (k + 1) l)
    where
      go : (b : Bool) → last_here J lower m k ≡ b → pick_number b k (last_from J lower m n (k + 1)) < k + suc n
          → (last_from J lower m n (k + 1) < k + 1 + n → last_here J lower m (last_from J lower m n (k + 1)) ≡ true) → last_here J lower m (pick_number b k (last_from J lower m n (k + 1))) ≡ true
      go true e l ih = e
      go false e l ih = ih (omega arith)

  last_most : last_round J lower m ≤ 17
  last_most = omega (arith, from_most 17 0)

  last_first : (j : ℕ) → j < last_round J lower m → last_here J lower m j ≡ false
  last_first j h = from_before 17 0 j (omega arith) h

  last_17 : (k : ℕ) → k ≡ 17 → last_here J lower m k ≡ true
  unfolding last_here
  last_17 k e = go (refuses (round_verdict J (weight_at J lower k) m)) (within J (plan_copies J (weight_at J lower k))) (eqb k 17) (ltb 4095 (capacity J (weight_at J lower (suc k)))) (eq-eqb k 17 e)
    where
      go : (a b c d : Bool) → c ≡ true → (a || (b || (c || d))) ≡ true
      go true b c d e = refl
      go false true c d e = refl
      go false false true d e = refl
      go false false false d e = absurd (let z : ◌≡◌ {A = ℕ} 0 1 = cc in omega arith)

  last_is : last_here J lower m (last_round J lower m) ≡ true
  last_is = go (ℕ_discrete (last_round J lower m) 17)
    where
      go : Dec (last_round J lower m ≡ 17) → last_here J lower m (last_round J lower m) ≡ true
      go (yes e) = last_17 (last_round J lower m) e
      go (no e) = from_here 17 0 (omega (arith, last_most))

  -- at most 18 rounds are run
  pub rounds_most : rounds_run J lower m ≤ 18
  rounds_most = go (round_verdict J (weight_at J lower (last_round J lower m)) m)
    where
      go : (v : Checked) → rounds_by v (last_round J lower m) ≤ 18
      go (Ok _) = omega (arith, last_most)
      go (Err r) = omega (arith, last_most)

  -- the rules of the stop
  pub stop_rules : StopRules J lower m
  stop_rules = record {
    kept = λ weight e. within_true J (plan_copies J weight) e;
    keeps = λ weight h. true_within J (plan_copies J weight) h;
    some = λ weight e. squares_some J (plan_copies J weight) e;
    last = last_is;
    first = last_first;
  }
