-- The copies that remain in a state: its digit of each kind, and a tree is within a state exactly if it has of no kind more copies than
-- remain, within the last exactly if it keeps every demand.
use Rattle.exact.proofs.Prelude.{◌≡◌, sym, ◌∙◌, ap, true, false, ℕ, zero, suc, ◌+◌, ◌-◌, ◌*◌, ◌/◌, ◌%◌, ◌≤◌, ◌<◌, mul-le-mul_right, mod-lt, div-add-mod', mul-add-mod_self_right, mod-eq_of_lt, div-lt_iff_lt-mul, ℕ_discrete, dec_lt, arith, eq-eqb, ne_eqb, T, eqb, leb→le, le→leb, Rect, Tree, Saw, Guillotine, Within, Piece, kind, sized, Job, KeepsDemands, pieces, states, state_count, full_state, no_more, by_copies, one_copy, copies_left, OfState, member_lies, below, digit, own_state, quotient, below_parts, parts_below, digit_last, digit_lower, within_digits, digits_within, CopiesByDigits}
use Rattle.exact.proofs.States.{zero_one, B, one, states_some, rise, step, blocked, digit_full, within_own, d, lying_own, full_is}

-- a digit reads nothing of the digits above it
low_digit : (s M K N c : ℕ) → 1 ≤ K → M ≡ c * (K * N) → s % M / K % N ≡ s / K % N
low_digit s M K N c some e =
    let r = s % M in
    let parts : s ≡ (s / M * c * N + r / K) * K + r % K = omega (arith, div-add-mod' s M, div-add-mod' r K, ap (λ m. s / M * m) e) in
    sym (ap (λ x. x % N) (quotient s K (s / M * c * N + r / K) (r % K) parts (mod-lt r {m = K} some)) ∙ mul-add-mod_self_right (s / M * c) N (r / K))

module _ (B : ℕ → ℕ) where
  -- a number below another has no greater digit
  digits_fewer : (d t s i : ℕ) → i ≤ d → T (below B d t s) → digit B d i t ≤ digit B d i s
  unfolding below digit
  digits_fewer zero t s i h l = leb→le t s l
  digits_fewer (suc d) t s i h l = go (ℕ_discrete i (suc d)) (below_parts B d t s l) (λ (k : i ≤ d) (m : T (below B d (t % B d) (s % B d))). digits_fewer d (t % B d) (s % B d) i k m)
    where
      go : Dec (i ≡ suc d) → (t / B d ≤ s / B d) × T (below B d (t % B d) (s % B d)) → (i ≤ d → T (below B d (t % B d) (s % B d)) → digit B d i (t % B d) ≤ digit B d i (s % B d))
          → digit B (suc d) i t ≤ digit B (suc d) i s
      go (yes e) p g = rw e (omega (arith, digit_last B d t, digit_last B d s, p.0))
      go (no e) p g = omega (arith, digit_lower B d i t e, digit_lower B d i s e, g (omega arith) p.1)

  -- and one with no greater digit is below
  fewer_digits : (d t s : ℕ) → ((i : ℕ) → i ≤ d → digit B d i t ≤ digit B d i s) → T (below B d t s)
  unfolding below digit
  fewer_digits zero t s h = le→leb t s (h 0 (omega arith))
  fewer_digits (suc d) t s h = parts_below B d t s (omega (arith, digit_last B d t, digit_last B d s, h (suc d) (omega arith)))
      (fewer_digits d (t % B d) (s % B d) (λ i l. omega (arith, digit_lower B d i t (λ e. omega arith), digit_lower B d i s (λ e. omega arith), h i (omega arith))))

module _ (f : ℕ → ℕ) where
  -- the states of more kinds are a multiple
  multiple : (m k : ℕ) → (c : ℕ) × (states f (m + k) ≡ c * states f m)
  multiple m zero = (1, (let e : m + 0 ≡ m = omega arith in rw e (omega arith)))
  multiple m (suc k) =
      let u = multiple m k in
      let e : m + suc k ≡ suc (m + k) = omega arith in
      ((f (m + k) + 1) * u.0, rw e (step f (m + k) ∙ omega (arith, ap (λ x. f (m + k) * x) u.1, u.1)))

  -- the digit of a kind in plain words
  digit_remains : (d i s : ℕ) → i ≤ d → s < B f d → digit (B f) d i s ≡ s / states f i % (f i + 1)
  unfolding digit
  digit_remains zero i s h l =
      let e : i ≡ 0 = omega arith in
      let few : s < f 0 + 1 = omega (arith, step f 0, zero_one f, ap (λ x. f 0 * x) (zero_one f)) in
      rw (e, zero_one f) (sym (ap (λ x. x % (f 0 + 1)) (quotient s 1 s 0 (omega arith) (omega arith)) ∙ mod-eq_of_lt {n = s} {m = f 0 + 1} few))
  digit_remains (suc d) i s h l = go (ℕ_discrete i (suc d)) (λ (k : i ≤ d). digit_remains d i (s % B f d) k (mod-lt s {m = B f d} (states_some f (suc d))))
    where
      go : Dec (i ≡ suc d) → (i ≤ d → digit (B f) d i (s % B f d) ≡ s % B f d / states f i % (f i + 1)) → elim (eqb i (suc d)) [ true ↦ s / B f d | false ↦ digit (B f) d i (s % B f d) ] ≡ s / states f i % (f i + 1)
      go (yes e) g = ap {B = ℕ} (λ b. elim b [ true ↦ s / B f d | false ↦ digit (B f) d i (s % B f d) ]) (eq-eqb i (suc d) e)
          ∙ rw e (sym (mod-eq_of_lt {n = s / B f d} {m = f (suc d) + 1} ((div-lt_iff_lt-mul (states_some f (suc d))).1 (omega (arith, step f (suc d))))))
      go (no e) g =
          let u = multiple (suc i) (d - i) in
          let last : suc i + (d - i) ≡ suc d = omega arith in
          let whole : B f d ≡ u.0 * (states f i * (f i + 1)) = sym (ap (states f) last) ∙ (u.1 ∙ ap (λ x. u.0 * x) (step f i ∙ omega arith)) in
          ap {B = ℕ} (λ b. elim b [ true ↦ s / B f d | false ↦ digit (B f) d i (s % B f d) ]) (ne_eqb i (suc d) e)
          ∙ (g (omega arith) ∙ low_digit s (B f d) (states f i) (f i + 1) u.0 (states_some f i) whole)

  -- one copy of an ordered kind has one copy of it, and none of another kind
  one_left : (i : ℕ) → 1 ≤ f i → states f i / states f i % (f i + 1) ≡ 1
  one_left i h = ap (λ x. x % (f i + 1)) (quotient (states f i) (states f i) 1 0 (omega arith) (states_some f i)) ∙ mod-eq_of_lt {n = 1} {m = f i + 1} (omega arith)

  none_left : (i j : ℕ) → 1 ≤ f i → (j ≡ i → ⊥) → states f i / states f j % (f j + 1) ≡ 0
  none_left i j h e = go (dec_lt j i)
    where
      nothing : 0 % (f j + 1) ≡ 0
      nothing = mod-eq_of_lt {n = 0} {m = f j + 1} (omega arith)

      go : Dec (j < i) → states f i / states f j % (f j + 1) ≡ 0
      go (yes l) =
          let u = multiple (suc j) (i - suc j) in
          let at : suc j + (i - suc j) ≡ i = omega arith in
          let whole : states f i ≡ u.0 * (f j + 1) * states f j + 0 = sym (ap (states f) at) ∙ (u.1 ∙ omega (arith, ap (λ x. u.0 * x) (step f j))) in
          let many : u.0 * (f j + 1) ≡ u.0 * (f j + 1) + 0 = omega arith in
          ap (λ x. x % (f j + 1)) (quotient (states f i) (states f j) (u.0 * (f j + 1)) 0 whole (states_some f j) ∙ many) ∙ (mul-add-mod_self_right u.0 (f j + 1) 0 ∙ nothing)
      go (no l) =
          let less : states f i < states f j = omega (arith, rise f (suc i) j (omega arith), step f i, states_some f i, mul-le-mul_right (states f i) h) in
          ap (λ x. x % (f j + 1)) (quotient (states f i) (states f j) 0 (states f i) (omega arith) less) ∙ nothing

module _ (J : Job) (some : 1 ≤ J.count) where
  -- the states of all digits
  all_states : B J.demand (d J some) ≡ state_count J
  all_states = let e : suc (d J some) ≡ J.count = omega arith in ap (states J.demand) e

  -- in the last state every copy remains
  full_remains : (i : ℕ) → i < J.count → copies_left J (full_state J) i ≡ J.demand i
  full_remains i l = sym (digit_remains J.demand (d J some) i (full_state J) (omega arith) (omega (arith, all_states, states_some J.demand J.count)))
      ∙ (ap (digit (B J.demand) (d J some) i) (full_is J some) ∙ digit_full J.demand (d J some) i (omega arith))

  -- the digit of a kind is what remains of it
  digit_left : (s i : ℕ) → s < state_count J → i < J.count → digit (B J.demand) (d J some) i s ≡ copies_left J s i
  digit_left s i h l = digit_remains J.demand (d J some) i s (omega arith) (omega (arith, all_states))

  -- so the order of states is that of the copies that remain
  pub copies_by_digits : CopiesByDigits J
  copies_by_digits = record { fewer = fewer; none_more = none_more; remains = remains; one_more = one_more }
    where
      fewer : (t s i : ℕ) → t < state_count J → s < state_count J → i < J.count → T (no_more J t s) → copies_left J t i ≤ copies_left J s i
      fewer t s i ht hs l k = omega (arith, digit_left t i ht l, digit_left s i hs l, digits_fewer (B J.demand) (d J some) t s i (omega arith) k)

      none_more : (t s : ℕ) → t < state_count J → s < state_count J → ((i : ℕ) → i < J.count → copies_left J t i ≤ copies_left J s i) → T (no_more J t s)
      none_more t s ht hs k = fewer_digits (B J.demand) (d J some) t s (λ i l. omega (arith, digit_left t i ht (omega arith), digit_left s i hs (omega arith), k i (omega arith)))

      small : (i : ℕ) → i < J.count → 1 ≤ J.demand i → one_copy J i < state_count J
      small i l h = omega (arith, rise J.demand (suc i) J.count (omega arith), step J.demand i, states_some J.demand i, mul-le-mul_right (states J.demand i) h)

      remains : (s i : ℕ) → s < state_count J → i < J.count → 1 ≤ J.demand i → T (no_more J (one_copy J i) s) → 1 ≤ copies_left J s i
      remains s i hs l h k = omega (arith, one_left J.demand i h, fewer (one_copy J i) s i (small i l h) hs l k)

      one_more : (s i : ℕ) → s < state_count J → i < J.count → 1 ≤ J.demand i → 1 ≤ copies_left J s i → T (no_more J (one_copy J i) s)
      one_more s i hs l h k = none_more (one_copy J i) s (small i l h) hs (λ j m. go j (ℕ_discrete j i))
        where
          go : (j : ℕ) → Dec (j ≡ i) → copies_left J (one_copy J i) j ≤ copies_left J s j
          go j (yes e) = rw e (omega (arith, one_left J.demand i h))
          go j (no e) = omega (arith, none_left J.demand i j h e)

  module _ (t : Tree Piece) (C : Saw) (r : Rect) (g : Guillotine (pieces J) C r t) where
    -- what has of no kind more copies than remain in a state is within it
    pub copies_within : (s : ℕ) → s < state_count J → OfState J s t → Within (by_copies J) s t
    unfolding pieces sized
    copies_within s h k = within_own (pieces J) C (no_more J) (own_state (B J.demand) (one J.demand) (d J some)) (λ p. states J.demand (kind p)) (λ p m. lying_own J some p (member_lies J p m)) t r s g
        (digits_within (B J.demand) (one J.demand) (d J some) t s (blocked J.demand (d J some))
        (λ i l. omega (arith, k i (omega arith), digit_remains J.demand (d J some) i s l (omega (arith, all_states)))))

    -- and the other way round
    pub within_copies : (s : ℕ) → s < state_count J → Within (by_copies J) s t → OfState J s t
    unfolding pieces sized
    within_copies s h w i l =
        let own = within_own (pieces J) C (no_more J) (λ p. states J.demand (kind p)) (own_state (B J.demand) (one J.demand) (d J some)) (λ p m. sym (lying_own J some p (member_lies J p m))) t r s g w in
        omega (
          arith,
          within_digits (B J.demand) (one J.demand) (d J some) t s (blocked J.demand (d J some)) (omega (arith, all_states)) own i (omega arith),
          digit_remains J.demand (d J some) i s (omega arith) (omega (arith, all_states)),
        )

    -- in the last state these are what keeps the demands
    pub keeps_within : KeepsDemands J t → Within (by_copies J) (full_state J) t
    keeps_within k = copies_within (full_state J) (omega (arith, states_some J.demand J.count)) (λ i l. omega (arith, k i l, full_remains i l))

    pub within_keeps : Within (by_copies J) (full_state J) t → KeepsDemands J t
    within_keeps w i l = omega (arith, within_copies (full_state J) (omega (arith, states_some J.demand J.count)) w i l, full_remains i l)
