-- The shares that states stand for: one weight, two weights, the remaining copies of each kind. A tree is within a state exactly if, at each
-- digit, its pieces come to no more than the digit; so the figures over states are those over these shares.
use Rattle.states.proofs.Prelude.{◌≡◌, refl, sym, ◌∙◌, ap, ap₂, subst, Bool, true, false, ◌&&◌, List, [], ◌∷◌, ℕ, zero, suc, ◌+◌, ◌-◌, ◌*◌, ◌/◌, ◌%◌, ◌≤◌, ◌<◌, mod-lt, div-add-mod', mul-le-mul_right, ℕ_discrete, dec_le, arith, lt-ltb, le-ltb, eq-eqb, ne_eqb, T, leb, ltb, eqb, get_or, Length, Width, only, Tree, waste, piece, cut, total, Within, figure, saw, by_weight, paired, state, exact, Piece, kind, Job, pieces, by_kind, figure_of, figure_within, saw_proper, within_weight, weight_within, paired_within, within_paired, exact_within, within_exact, position_count, position, words_needed, word, Figures as Shared, Kept, pair_count, two_words, two_word, TwoBy, below, Blocks, by_state, Order, figure_at, digit, own_state, pair_blocks, figure_pair, two_weights, pair_state, under, Digits, split_state, state_split, one_within, within_one, figure_one}
use Rattle.cutting.specs.Two as two
use Rattle.states.specs.States.{Figures}
use Rattle.states.proofs.Digits.{quotient, rest, lower_blocks, below_parts, parts_below, below_less, below_adds, digits_order}

-- the last digit, and those before
pub digit_last : (B : ℕ → ℕ) (d s : ℕ) → digit B (suc d) (suc d) s ≡ s / B d
unfolding digit
digit_last B d s = ap (λ b. elim b [ true ↦ s / B d | false ↦ digit B d (suc d) (s % B d) ]) (eq-eqb (suc d) (suc d) refl)

pub digit_lower : (B : ℕ → ℕ) (d i s : ℕ) → (i ≡ suc d → ⊥) → digit B (suc d) i s ≡ digit B d i (s % B d)
unfolding digit
digit_lower B d i s h = ap (λ b. elim b [ true ↦ s / B d | false ↦ digit B d i (s % B d) ]) (ne_eqb i (suc d) h)

module _ {P : Type 0} (B : ℕ → ℕ) where
  -- a state that has room for all digits
  own_room : (w : ℕ → P → ℕ) (d : ℕ) (p : P) → own_state B w d p < B d → own_state B w (suc d) p ≡ w (suc d) p * B d + own_state B w d p
  unfolding own_state
  own_room w d p k = ap (λ b. elim b [ true ↦ w (suc d) p * B d + own_state B w d p | false ↦ B (suc d) ]) (lt-ltb (own_state B w d p) (B d) k)

  -- what a piece's state admits, one digit more
  pub own_above : (w : ℕ → P → ℕ) (d : ℕ) (p : P) (s : ℕ) → Blocks B (suc d) → s < B (suc d) → T (below B (suc d) (own_state B w (suc d) p) s) → (w (suc d) p ≤ s / B d) × T (below B d (own_state B w d p) (s % B d))
  unfolding own_state
  own_above w d p s blocks h = go (dec_le (B d) (own_state B w d p))
    where
      go : Dec (B d ≤ own_state B w d p) → T (below B (suc d) (elim (ltb (own_state B w d p) (B d)) [ true ↦ w (suc d) p * B d + own_state B w d p | false ↦ B (suc d) ]) s)
          → (w (suc d) p ≤ s / B d) × T (below B d (own_state B w d p) (s % B d))
      go (yes k) t = absurd (omega (arith, below_less B (suc d) (B (suc d)) s (rw (le-ltb (own_state B w d p) (B d) k) at t)))
      go (no k) t =
          let a = below_parts B d (w (suc d) p * B d + own_state B w d p) s (rw (lt-ltb (own_state B w d p) (B d) (omega arith)) at t) in
          let q = quotient (w (suc d) p * B d + own_state B w d p) (B d) (w (suc d) p) (own_state B w d p) refl (omega arith) in
          let r = rest (w (suc d) p * B d + own_state B w d p) (B d) (w (suc d) p) (own_state B w d p) refl (omega arith) in
          (omega (arith, a.0), rw r at a.1)

  pub above_own : (w : ℕ → P → ℕ) (d : ℕ) (p : P) (s : ℕ) → Blocks B (suc d) → w (suc d) p ≤ s / B d → T (below B d (own_state B w d p) (s % B d)) → T (below B (suc d) (own_state B w (suc d) p) s)
  above_own w d p s blocks h t =
      let k : own_state B w d p < B d = omega (arith, below_less B d (own_state B w d p) (s % B d) t, mod-lt s {m = B d} (blocks.some d (omega arith))) in
      let q = quotient (w (suc d) p * B d + own_state B w d p) (B d) (w (suc d) p) (own_state B w d p) refl k in
      let r = rest (w (suc d) p * B d + own_state B w d p) (B d) (w (suc d) p) (own_state B w d p) refl k in
      rw (own_room w d p k) (parts_below B d (w (suc d) p * B d + own_state B w d p) s (omega (arith, q)) (rw r t))

  -- one digit more: what a tree comes to at the last digit, and the digits before
  more_within : (w : ℕ → P → ℕ) (d : ℕ) (t : Tree P) (s : ℕ) → Blocks B (suc d) → Order (below B (suc d)) → Order (below B d) → s < B (suc d) → Within (by_state (below B (suc d)) (own_state B w (suc d))) s t
      → (total (w (suc d)) t ≤ s / B d) × Within (by_state (below B d) (own_state B w d)) (s % B d) t
  unfolding by_state total
  more_within w d waste s blocks order lower l h = (omega arith, tt)
  more_within w d (piece p) s blocks order lower l h = own_above w d p s blocks l h
  more_within w d (cut e x a b) s blocks order lower l h =
      let q = split_state (below B (suc d)) order (own_state B w (suc d)) e s h.0 h.1 in
      let k = below_adds B d h.0.0 h.0.1 (blocks.some d (omega arith)) (rw q.1 q.0) in
      let m : T (below B d (h.0.0 % B d) (h.0.0 % B d + h.0.1 % B d)) = rw k.1 at (below_parts B d h.0.0 (h.0.0 + h.0.1) (rw q.1 q.0)).1 in
      let u = more_within w d a h.0.0 blocks order lower (omega (arith, q.1)) h.2 in
      let v = more_within w d b h.0.1 blocks order lower (omega (arith, q.1)) h.3 in
      let y : h.0.0 % B d + h.0.1 % B d ≡ s % B d = sym k.1 ∙ ap (λ z. z % B d) q.1 in (
        omega (arith, u.0, v.0, k.0, ap (λ z. z / B d) q.1),
        ((h.0.0 % B d, h.0.1 % B d), rw y at (state_split (below B d) lower (own_state B w d) e (h.0.0 % B d) (h.0.1 % B d) m), u.1, v.1),
      )

  within_more : (w : ℕ → P → ℕ) (d : ℕ) (t : Tree P) (s : ℕ) → Blocks B (suc d) → Order (below B (suc d)) → Order (below B d) → total (w (suc d)) t ≤ s / B d → Within (by_state (below B d) (own_state B w d)) (s % B d) t
      → Within (by_state (below B (suc d)) (own_state B w (suc d))) s t
  unfolding by_state total
  within_more w d waste s blocks order lower l h = tt
  within_more w d (piece p) s blocks order lower l h = above_own w d p s blocks l h
  within_more w d (cut e x a b) s blocks order lower l h =
      let q = split_state (below B d) lower (own_state B w d) e (s % B d) h.0 h.1 in
      let low = mod-lt s {m = B d} (blocks.some d (omega arith)) in
      let x1 = total (w (suc d)) a in
      let x2 = s / B d - total (w (suc d)) a in
      let h1 : h.0.0 < B d = omega (arith, q.1) in
      let h2 : h.0.1 < B d = omega (arith, q.1) in
      let q1 = quotient (total (w (suc d)) a * B d + h.0.0) (B d) (total (w (suc d)) a) h.0.0 refl h1 in
      let r1 = rest (total (w (suc d)) a * B d + h.0.0) (B d) (total (w (suc d)) a) h.0.0 refl h1 in
      let q2 = quotient ((s / B d - total (w (suc d)) a) * B d + h.0.1) (B d) (s / B d - total (w (suc d)) a) h.0.1 refl h2 in
      let r2 = rest ((s / B d - total (w (suc d)) a) * B d + h.0.1) (B d) (s / B d - total (w (suc d)) a) h.0.1 refl h2 in
      let z : total (w (suc d)) a + (s / B d - total (w (suc d)) a) ≡ s / B d = omega arith in
      let y : total (w (suc d)) a * B d + (s / B d - total (w (suc d)) a) * B d ≡ s / B d * B d = omega arith ∙ ap (λ k. k * B d) z in
      let sum : total (w (suc d)) a * B d + h.0.0 + ((s / B d - total (w (suc d)) a) * B d + h.0.1) ≡ s = omega (arith, y, q.1, div-add-mod' s (B d)) in (
        (total (w (suc d)) a * B d + h.0.0, (s / B d - total (w (suc d)) a) * B d + h.0.1),
        rw sum at (state_split (below B (suc d)) order (own_state B w (suc d)) e (total (w (suc d)) a * B d + h.0.0) ((s / B d - total (w (suc d)) a) * B d + h.0.1)
            (rw sum (parts_below B d (total (w (suc d)) a * B d + h.0.0) s (omega (arith, q1)) (rw r1 q.0)))),
        within_more w d a (total (w (suc d)) a * B d + h.0.0) blocks order lower (omega (arith, q1)) (rw r1 h.2),
        within_more w d b ((s / B d - total (w (suc d)) a) * B d + h.0.1) blocks order lower (omega (arith, q2)) (rw r2 h.3),
      )

  -- a tree is within a state exactly if at each digit it comes to no more than the digit
  pub within_digits : (w : ℕ → P → ℕ) (d : ℕ) (t : Tree P) (s : ℕ) → Blocks B d → s < B d → Within (by_state (below B d) (own_state B w d)) s t → (i : ℕ) → i ≤ d → total (w i) t ≤ digit B d i s
  unfolding below digit own_state
  within_digits w zero t s blocks l h i k = let z : i ≡ 0 = omega arith in rw z (one_within (λ p. w 0 p) t s h)
  within_digits w (suc d) t s blocks l h i k = go (ℕ_discrete i (suc d))
      (more_within w d t s blocks (digits_order B (suc d) blocks) (digits_order B d (lower_blocks B d blocks)) l h)
      (λ x. within_digits w d t (s % B d) (lower_blocks B d blocks) (mod-lt s {m = B d} (blocks.some d (omega arith))) x i)
    where
      go : Dec (i ≡ suc d) → (total (w (suc d)) t ≤ s / B d) × Within (by_state (below B d) (own_state B w d)) (s % B d) t
          → (Within (by_state (below B d) (own_state B w d)) (s % B d) t → i ≤ d → total (w i) t ≤ digit B d i (s % B d))
          → total (w i) t ≤ digit B (suc d) i s
      go (yes e) u v = omega (arith, u.0, ap (λ i. total (w i) t) e, ap (λ i. digit B (suc d) i s) e, digit_last B d s)
      go (no e) u v = omega (arith, v u.1 (omega arith), digit_lower B d i s e)

  pub digits_within : (w : ℕ → P → ℕ) (d : ℕ) (t : Tree P) (s : ℕ) → Blocks B d → ((i : ℕ) → i ≤ d → total (w i) t ≤ digit B d i s) → Within (by_state (below B d) (own_state B w d)) s t
  unfolding below digit own_state
  digits_within w zero t s blocks h = within_one (λ p. w 0 p) t s (h 0 (omega arith))
  digits_within w (suc d) t s blocks h = within_more w d t s blocks (digits_order B (suc d) blocks) (digits_order B d (lower_blocks B d blocks))
      (omega (arith, h (suc d) (omega arith), digit_last B d s))
      (digits_within w d t (s % B d) (lower_blocks B d blocks) (λ i k. omega (arith, h i (omega arith), digit_lower B d i s (λ e. omega arith))))

-- the state of a piece is that of its kind
kind_state : (B : ℕ → ℕ) (v : ℕ → ℕ → ℕ) (d : ℕ) (p : Piece) → own_state B v d (kind p) ≡ own_state B (λ i q. v i (kind q)) d p
unfolding own_state
kind_state B v zero p = refl
kind_state B v (suc d) p = ap {B = ℕ} (λ s. elim (ltb s (B d)) [ true ↦ v (suc d) (kind p) * B d + s | false ↦ B (suc d) ]) (kind_state B v d p)

module _ (J : Job) (B : ℕ → ℕ) where
  -- the figure over states of the kinds is that over states of the pieces
  kind_figure : (le : ℕ → ℕ → Bool) (v : ℕ → ℕ → ℕ) (d l w s : ℕ) → figure_at J le (own_state B v d) l w s ≡ figure (pieces J) (saw 0) (by_state le (own_state B (λ i (p : Piece). v i (kind p)) d)) (l, w) s
  unfolding figure_at
  kind_figure le v d l w s = ap (λ own. figure (pieces J) (saw 0) (by_state le own) (l, w) s) (λ i p. kind_state B v d p i)

  -- two weights by their digits
  two_digits : (first second : ℕ → ℕ) (v : ℕ → ℕ → ℕ) → v 1 ≡ first → v 0 ≡ second → (l w s : ℕ) → Blocks B 1 → s < B 1
      → figure_at J (below B 1) (own_state B v 1) l w s ≡ figure (pieces J) (saw 0) (paired (by_kind first) (by_kind second)) (l, w) (s / B 0, s % B 0)
  unfolding digit
  two_digits first second v e f l w s blocks h = rw (← e, ← f) (kind_figure (below B 1) v 1 l w s
      ∙ figure_within (pieces J) (saw 0) (saw_proper 0) (by_state (below B 1) (own_state B u 1)) (paired (by_weight (u 1)) (by_weight (u 0))) (l, w) s (s / B 0, s % B 0)
      (λ t k. (let x = within_digits B u 1 t s blocks h k in within_paired (by_weight (u 1)) (by_weight (u 0)) t (s / B 0, s % B 0) (weight_within (u 1) t (s / B 0) (x 1 (omega arith))) (weight_within (u 0) t (s % B 0) (x 0 (omega arith)))))
      (λ t k. (let x = paired_within (by_weight (u 1)) (by_weight (u 0)) t (s / B 0, s % B 0) k in digits_within B u 1 t s blocks (both t (within_weight (u 1) t (s / B 0) x.0) (within_weight (u 0) t (s % B 0) x.1)))))
    where
      u : ℕ → Piece → ℕ
      u i p = v i (kind p)

      both : (t : Tree Piece) → total (u 1) t ≤ s / B 0 → total (u 0) t ≤ s % B 0 → (i : ℕ) → i ≤ 1 → total (u i) t ≤ digit B 1 i s
      both t x y i k = go (ℕ_discrete i 0)
        where
          go : Dec (i ≡ 0) → total (u i) t ≤ digit B 1 i s
          go (yes z) = rw z y
          go (no z) = let o : i ≡ 1 = omega arith in rw o x

  -- the remaining copies of each kind, kind 0 running fastest
  pub figure_exact : (d l w s : ℕ) → Blocks B d → s < B d
      → figure_at J (below B d) (own_state B (λ i k. only (eqb k i) 1) d) l w s ≡ figure (pieces J) (saw 0) (exact kind (suc d)) (l, w) (state (suc d) (λ i. digit B d i s))
  figure_exact d l w s blocks h = kind_figure (below B d) (λ i k. only (eqb k i) 1) d l w s
      ∙ figure_within (pieces J) (saw 0) (saw_proper 0) (by_state (below B d) (own_state B one d)) (exact kind (suc d)) (l, w) s (state (suc d) (λ i. digit B d i s))
      (λ t k. exact_within kind (suc d) (λ i. digit B d i s) t (λ i l. within_digits B one d t s blocks h k i (omega arith)))
      (λ t k. (let u = within_exact kind (suc d) (λ i. digit B d i s) t k in digits_within B one d t s blocks (λ i l. u i (omega arith))))
    where
      one : ℕ → Piece → ℕ
      one i p = only (eqb (kind p) i) 1

-- two digits
pub pair_blocked : (q q' : ℕ) → Blocks (pair_blocks q q') 1
pair_blocked q q' = record { some = λ i h. some i (ℕ_discrete i 0) h; whole = λ i h. (let e : i ≡ 0 = omega arith in (q + 1, rw e refl)) }
  where
    some : (i : ℕ) → Dec (i ≡ 0) → i ≤ 1 → 1 ≤ pair_blocks q q' i
    some i (yes e) h = rw e (omega arith)
    some i (no e) h = let f : i ≡ 1 = omega arith in rw f (omega arith)

pub two_digit : (q q' : ℕ) → pair_count q q' ≤ 65536 → Digits ((q' + 1) ∷ (q + 1) * (q' + 1) ∷ []) 1 ((q + 1) * (q' + 1))
two_digit q q' most = record { digits = pair_blocked q q'; listed = omega arith; states = refl; most = most }

module _ (J : Job) (q q' : ℕ) where
  -- the number of a pair of shares is a state
  pair_below : (c c' : ℕ) → c < q + 1 → c' < q' + 1 → c * (q' + 1) + c' < (q + 1) * (q' + 1)
  pair_below c c' h h' = omega (arith, mul-le-mul_right {m = c + 1} {n = q + 1} (q' + 1) (omega arith))

  -- the figure of a pair by its number is that of the two weights
  pub figure_two : (first second : ℕ → ℕ) (l w c c' : ℕ) → c < q + 1 → c' < q' + 1 → figure_pair J q q' (pair_state q q' first second) l w c c' ≡ two.figure_two J first second l w c c'
  unfolding two.figure_two
  figure_two first second l w c c' h h' = two_digits J (pair_blocks q q') first second (two_weights first second) refl refl l w (c * (q' + 1) + c') (pair_blocked q q') (pair_below c c' h h')
      ∙ ap₂ (λ x y. figure (pieces J) (saw 0) (paired (by_kind first) (by_kind second)) (l, w) (x, y)) (quotient (c * (q' + 1) + c') (q' + 1) c c' refl h') (rest (c * (q' + 1) + c') (q' + 1) c c' refl h')

  -- a filled table of two digits is that of the pairs
  pub figures_two : (own : ℕ → ℕ) (old new : List ℕ) → Figures J (below (pair_blocks q q') 1) own ((q + 1) * (q' + 1)) new × Kept (position_count J Length * position_count J Width * ((q + 1) * (q' + 1))) old new
      → TwoBy J (figure_pair J q q' own) q q' old new
  figures_two own old new w = (
    λ a b c c' ha hb hc hc'. ap (λ i. get_or new i 0) (at a b c c') ∙ w.0 a b (c * (q' + 1) + c') ha hb (pair_below c c' hc hc'),
    subst (λ n. Kept n old new) all w.1,
  )
    where
      all : position_count J Length * position_count J Width * ((q + 1) * (q' + 1)) ≡ two_words J q q'
      all = omega arith

      at : (a b c c' : ℕ) → two_word J q q' a b c c' ≡ (a * position_count J Width + b) * ((q + 1) * (q' + 1)) + (c * (q' + 1) + c')
      at a b c c' = omega arith

-- one digit of n states
one_block : (n : ℕ) → 1 ≤ n → Blocks (λ i. get_or (n ∷ []) i 0) 0
one_block n some = record { some = λ i h. (let e : i ≡ 0 = omega arith in rw e some); whole = λ i h. absurd (omega arith) }

pub one_digit : (n : ℕ) → 1 ≤ n → n ≤ 65536 → Digits (n ∷ []) 0 n
one_digit n some most = record { digits = one_block n some; listed = omega arith; states = refl; most = most }

-- a filled table of one digit is that of the weights: its states are the shares
pub figures_one : (J : Job) (weight : ℕ → ℕ) (old new : List ℕ) (q : ℕ)
    → Figures J (under ((q + 1) ∷ []) 0) weight (q + 1) new × Kept (words_needed J q) old new → Shared J weight q new × Kept (words_needed J q) old new
unfolding below
figures_one J weight old new q w = (λ a b c ha hb hc. w.0 a b c ha hb hc ∙ figure_one J weight (position J Length a) (position J Width b) c, w.1)

-- where the second capacity is 0, the pairs are the shares of the first
module _ (J : Job) (own : ℕ → ℕ) (q : ℕ) where
  no_second : (t s : ℕ) → below (pair_blocks q 0) 1 t s ≡ leb t s
  unfolding below
  no_second t s = rw (quotient t 1 t 0 (omega arith) (omega arith), quotient s 1 s 0 (omega arith) (omega arith), rest t 1 t 0 (omega arith) (omega arith), rest s 1 s 0 (omega arith) (omega arith)) (whole (leb t s))
    where
      whole : (b : Bool) → b && true ≡ b
      whole true = refl
      whole false = refl

  pair_one : (l w c : ℕ) → figure_of J own l w c ≡ figure_pair J q 0 own l w c 0
  pair_one l w c = sym (figure_one J own l w c) ∙ ap₂ (λ le s. figure_at J le own l w s) (λ i t s. sym (no_second t s) i) (omega arith)

  -- a filled table of the first is that of the pairs
  pub figures_pairs : (old new : List ℕ) → Shared J own q new × Kept (words_needed J q) old new → TwoBy J (figure_pair J q 0 own) q 0 old new
  figures_pairs old new w = (λ a b c c' ha hb hc hc'. (let e : c' ≡ 0 = omega arith in rw e (ap (λ i. get_or new i 0) (at a b c) ∙ w.0 a b c ha hb hc ∙ pair_one (position J Length a) (position J Width b) c)), subst (λ n. Kept n old new) all w.1)
    where
      all : words_needed J q ≡ two_words J q 0
      all = omega arith

      at : (a b c : ℕ) → two_word J q 0 a b c 0 ≡ word J q a b c
      at a b c = omega arith
