-- The states of a job's remaining copies: they are numbers of several digits, one a kind, and a piece that may lie has the state of one copy
-- of its kind.
use Rattle.exact.proofs.Prelude.{◌≡◌, refl, sym, ◌∙◌, ap, subst, Bool, true, false, List-as-Memᴰ, ℕ, zero, suc, ◌+◌, ◌-◌, ◌*◌, ◌/◌, ◌%◌, ◌≤◌, ◌<◌, mul-le-mul_right, mul-le-mul, add-one, ℕ_discrete, arith, lt-ltb, eq-eqb, ne_eqb, T, ltb, eqb, only, Rect, Tree, waste, piece, cut, Pieces, Saw, Guillotine, Within, Monotone, Piece, upright, turned, kind, Job, MayLie, states, full_state, no_more, by_copies, by_state, Blocks, Order, digit, own_state, by_state_monotone, quotient, rest, digits_order}

-- without kinds there is one state
pub zero_one : (f : ℕ → ℕ) → states f 0 ≡ 1
unfolding states
zero_one f = refl

module _ (f : ℕ → ℕ) where
  -- the number of states of the kinds up to the i-th
  abbrev pub B : ℕ → ℕ
  B i = states f (suc i)

  -- one copy of kind i
  abbrev pub one : ℕ → Piece → ℕ
  one i p = only (eqb (kind p) i) 1

  -- there is a state, and more kinds have no fewer
  pub states_some : (n : ℕ) → 1 ≤ states f n
  unfolding states
  states_some zero = omega arith
  states_some (suc n) = omega (arith, mul-le-mul (states_some n) (one_more (f n)))
    where
      one_more : (k : ℕ) → 1 ≤ k + 1
      one_more k = omega arith

  pub step : (n : ℕ) → states f (suc n) ≡ f n * states f n + states f n
  unfolding states
  step n = omega arith

  pub states_rise : (m k : ℕ) → states f m ≤ states f (m + k)
  states_rise m zero = let e : m + 0 ≡ m = omega arith in rw e (omega arith)
  states_rise m (suc k) = let e : m + suc k ≡ suc (m + k) = omega arith in rw e (omega (arith, states_rise m k, step (m + k)))

  pub rise : (m n : ℕ) → m ≤ n → states f m ≤ states f n
  rise m n h = let e : m + (n - m) ≡ n = omega arith in rw e at (states_rise m (n - m))

  -- they are digits
  pub blocked : (d : ℕ) → Blocks B d
  blocked d = record { some = λ i h. states_some (suc i); whole = λ i h. (f (suc i) + 1, whole i) }
    where
      whole : (i : ℕ) → B (i + 1) ≡ (f (suc i) + 1) * B i
      whole i = ap B (add-one i) ∙ step (suc i) ∙ omega arith

  -- a piece past the digits has no state among them
  own_none : (d : ℕ) (p : Piece) → d < kind p → own_state B one d p ≡ 0
  unfolding own_state
  own_none zero p h = ap (λ b. only b 1) (ne_eqb (kind p) 0 (λ e. omega arith))
  own_none (suc d) p h = ap {B = ℕ} (λ x. elim (ltb x (B d)) [ true ↦ one (suc d) p * B d + x | false ↦ B (suc d) ]) (own_none d p (omega arith))
      ∙ ap {B = ℕ} (λ b. elim b [ true ↦ one (suc d) p * B d + 0 | false ↦ B (suc d) ]) (lt-ltb 0 (B d) (states_some (suc d)))
      ∙ (ap (λ b. only b 1 * B d + 0) (ne_eqb (kind p) (suc d) (λ e. omega arith)) ∙ omega arith)

  -- the state of one copy of an ordered kind
  pub own_one : (d : ℕ) (p : Piece) → kind p ≤ d → 1 ≤ f (kind p) → own_state B one d p ≡ states f (kind p)
  unfolding own_state
  own_one zero p h some = let e : kind p ≡ 0 = omega arith in ap (λ b. only b 1) (eq-eqb (kind p) 0 e) ∙ sym (ap (states f) e ∙ first)
    where
      first : states f 0 ≡ 1
      first = zero_one f
  own_one (suc d) p h some = go (ℕ_discrete (kind p) (suc d)) (λ (l : kind p ≤ d). own_one d p l some)
    where
      go : Dec (kind p ≡ suc d) → (kind p ≤ d → own_state B one d p ≡ states f (kind p)) → own_state B one (suc d) p ≡ states f (kind p)
      go (yes e) g = ap {B = ℕ} (λ x. elim (ltb x (B d)) [ true ↦ one (suc d) p * B d + x | false ↦ B (suc d) ]) (own_none d p (omega arith))
          ∙ ap {B = ℕ} (λ b. elim b [ true ↦ one (suc d) p * B d + 0 | false ↦ B (suc d) ]) (lt-ltb 0 (B d) (states_some (suc d)))
          ∙ ap (λ b. only b 1 * B d + 0) (eq-eqb (kind p) (suc d) e) ∙ (omega arith ∙ ap (states f) (sym e))
      go (no e) g =
          let l : kind p ≤ d = omega arith in
          let room : states f (kind p) < B d = omega (arith, rise (suc (kind p)) (suc d) (omega arith), step (kind p), states_some (kind p), mul-le-mul_right (states f (kind p)) some) in
          ap {B = ℕ} (λ x. elim (ltb x (B d)) [ true ↦ one (suc d) p * B d + x | false ↦ B (suc d) ]) (g l)
          ∙ ap {B = ℕ} (λ b. elim b [ true ↦ one (suc d) p * B d + states f (kind p) | false ↦ B (suc d) ]) (lt-ltb (states f (kind p)) (B d) room)
          ∙ (ap (λ b. only b 1 * B d + states f (kind p)) (ne_eqb (kind p) (suc d) e) ∙ omega arith)

  -- in the last state every copy remains
  pub digit_full : (d i : ℕ) → i ≤ d → digit B d i (B d - 1) ≡ f i
  unfolding digit
  digit_full zero i h = let e : i ≡ 0 = omega arith in rw e (omega (arith, step 0, zero_one f, ap (λ x. f 0 * x) (zero_one f)))
  digit_full (suc d) i h = go (ℕ_discrete i (suc d)) (λ (l : i ≤ d). digit_full d i l)
    where
      some : 1 ≤ B d
      some = states_some (suc d)

      last : B (suc d) - 1 ≡ f (suc d) * B d + (B d - 1)
      last = omega (arith, step (suc d), some)

      go : Dec (i ≡ suc d) → (i ≤ d → digit B d i (B d - 1) ≡ f i) → elim (eqb i (suc d)) [ true ↦ (B (suc d) - 1) / B d | false ↦ digit B d i ((B (suc d) - 1) % B d) ] ≡ f i
      go (yes e) g = ap {B = ℕ} (λ b. elim b [ true ↦ (B (suc d) - 1) / B d | false ↦ digit B d i ((B (suc d) - 1) % B d) ]) (eq-eqb i (suc d) e)
          ∙ (quotient (B (suc d) - 1) (B d) (f (suc d)) (B d - 1) last (omega (arith, some)) ∙ ap f (sym e))
      go (no e) g = ap {B = ℕ} (λ b. elim b [ true ↦ (B (suc d) - 1) / B d | false ↦ digit B d i ((B (suc d) - 1) % B d) ]) (ne_eqb i (suc d) e)
          ∙ (ap (digit B d i) (rest (B (suc d) - 1) (B d) (f (suc d)) (B d - 1) last (omega (arith, some))) ∙ g (omega arith))

-- what is within a state by one state a piece is within it by another that is the same for all pieces that may lie
pub within_own : (K : Pieces Piece) (C : Saw) (le : ℕ → ℕ → Bool) (own own' : Piece → ℕ) → ((p : Piece) → List-as-Memᴰ p K.members → own p ≡ own' p)
    → (t : Tree Piece) (r : Rect) (s : ℕ) → Guillotine K C r t → Within (by_state le own) s t → Within (by_state le own') s t
unfolding by_state
within_own K C le own own' e waste r s g w = tt
within_own K C le own own' e (piece p) r s g w = subst (λ x. T (le x s)) (e p g.0) w
within_own K C le own own' e (cut d x a b) r s g w = (w.0, w.1, within_own K C le own own' e a _ w.0.0 g.1 w.2, within_own K C le own own' e b _ w.0.1 g.2 w.3)

module _ (J : Job) (some : 1 ≤ J.count) where
  -- the last digit
  abbrev pub d : ℕ
  d = J.count - 1

  pub copies_order : Order (no_more J)
  copies_order = digits_order (B J.demand) d (blocked J.demand d)

  pub copies_monotone : Monotone (by_copies J)
  copies_monotone = by_state_monotone (no_more J) copies_order _

  -- the state of a piece that may lie
  pub lying_own : (p : Piece) → MayLie J p → own_state (B J.demand) (one J.demand) d p ≡ states J.demand (kind p)
  lying_own (upright i) h = own_one J.demand d (upright i) (omega (arith, h.0)) h.1
  lying_own (turned i) h = own_one J.demand d (turned i) (omega (arith, h.0)) h.1

  pub full_is : full_state J ≡ B J.demand d - 1
  full_is = let e : suc d ≡ J.count = omega arith in ap (λ n. states J.demand n - 1) (sym e)
