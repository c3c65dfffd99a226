-- Digit sums: two states add without a carry exactly if the sums of their digits add up to that of their sum; and the words that hold them.
use Rattle.states.proofs.Prelude.{◌≡◌, refl, sym, ◌∙◌, ap, Bool, true, false, List, ℕ, zero, suc, ◌+◌, ◌-◌, ◌*◌, ◌/◌, ◌%◌, ◌≤◌, ◌<◌, mod-lt, div-add-mod', mul-le-mul_right, ℕ_discrete, dec_le, arith, T, eqb, eqb→eq, le→leb, length, get_or, set, get_or-set_same, get_or-set_other, le-leb, eqb_same, Outside, Run, below, Blocks, under, digit_sum, Sums, Summed, Stepped, FirstRow}
use Rattle.states.proofs.Digits.{quotient, rest, parts_add, lower_blocks, below_parts, parts_below, below_adds}
use Rattle.states.proofs.Lifting.{below_zero}

-- two tests that pass together
same : (x y : Bool) → (T x → T y) → (T y → T x) → x ≡ y
same true true h k = refl
same true false h k = absurd (h tt)
same false true h k = absurd (k tt)
same false false h k = refl

module _ (B : ℕ → ℕ) where
  -- a number of digits up to the one before the last
  pub sum_low : (d s : ℕ) → s < B d → digit_sum B (suc d) s ≡ digit_sum B d s
  unfolding digit_sum
  sum_low d s h = rw (quotient s (B d) 0 s (omega arith) h, rest s (B d) 0 s (omega arith) h) (omega arith)

  -- k steps of the last digit
  sum_steps : (d s k : ℕ) → 1 ≤ B d → digit_sum B (suc d) (s + k * B d) ≡ digit_sum B (suc d) s + k
  unfolding digit_sum
  sum_steps d s k some =
      let e : s + k * B d ≡ (s / B d + k) * B d + s % B d = omega (arith, div-add-mod' s (B d)) in
      rw (quotient (s + k * B d) (B d) _ _ e (mod-lt s {m = B d} some), rest (s + k * B d) (B d) _ _ e (mod-lt s {m = B d} some)) (omega arith)

  -- one step
  pub sum_step : (d s : ℕ) → 1 ≤ B d → B d ≤ s → digit_sum B (suc d) s ≡ digit_sum B (suc d) (s - B d) + 1
  sum_step d s some h =
      let e : s ≡ s - B d + 1 * B d = omega arith in
      ap (λ s. digit_sum B (suc d) s) e ∙ sum_steps d (s - B d) 1 some

  -- a number is no less than the sum of its digits
  pub sum_most : (d s : ℕ) → Blocks B d → digit_sum B d s ≤ s
  unfolding digit_sum
  sum_most zero s blocks = omega arith
  sum_most (suc d) s blocks = omega (
    arith,
    div-add-mod' s (B d),
    sum_most d (s % B d) (lower_blocks B d blocks),
    mul-le-mul_right {m = 1} {n = B d} (s / B d) (blocks.some d (omega arith)),
  )

  -- the number of states of digit d + 1, as steps of it
  radix : (d : ℕ) → Blocks B (suc d) → (k : ℕ) × (B (suc d) ≡ k * B d)
  radix d blocks =
      let o = blocks.whole d (omega arith) in
      let z : d + 1 ≡ suc d = omega arith in
      (o.0, rw z at o.1)

  some_radix : (d k : ℕ) → Blocks B (suc d) → B (suc d) ≡ k * B d → 1 ≤ k
  some_radix d zero blocks e = absurd (omega (arith, blocks.some (suc d) (omega arith)))
  some_radix d (suc k) blocks e = omega arith

  -- no digits have more states than all
  pub blocks_rise : (d e : ℕ) → Blocks B d → e ≤ d → B e ≤ B d
  blocks_rise zero e blocks h = let z : e ≡ 0 = omega arith in rw z (omega arith)
  blocks_rise (suc d) e blocks h = go (ℕ_discrete e (suc d)) (λ l. blocks_rise d e (lower_blocks B d blocks) l)
    where
      go : Dec (e ≡ suc d) → (e ≤ d → B e ≤ B d) → B e ≤ B (suc d)
      go (yes z) l = rw z (omega arith)
      go (no z) l = let k = radix d blocks in omega (arith, l (omega arith), k.1, mul-le-mul_right {m = 1} {n = k.0} (B d) (some_radix d k.0 blocks k.1))

  -- a carry out of the last digit loses a step at least
  carry : (d s : ℕ) → Blocks B d → digit_sum B d s + 1 ≤ digit_sum B d (s + B d)
  unfolding digit_sum
  carry zero s blocks = omega (arith, blocks.some 0 (omega arith))
  carry (suc d) s blocks =
      let k = radix d blocks in
      rw k.1 (omega (arith, sum_steps d s k.0 (blocks.some d (omega arith)), some_radix d k.0 blocks k.1))

  -- and two where the digits before it do not carry
  carries : (d x y : ℕ) → Blocks B d → x < B d → y < B d → B d ≤ x + y → T (below B d x (x + y)) → digit_sum B d (x + y - B d) + 2 ≤ digit_sum B d (x + y)
  unfolding digit_sum
  carries zero x y blocks hx hy h t = omega arith
  carries (suc d) x y blocks hx hy h t = go k.0 k.1
    where
      k : (k : ℕ) × (B (suc d) ≡ k * B d)
      k = radix d blocks

      go : (k : ℕ) → B (suc d) ≡ k * B d → digit_sum B (suc d) (x + y - B (suc d)) + 2 ≤ digit_sum B (suc d) (x + y)
      go zero e = absurd (omega (arith, blocks.some (suc d) (omega arith)))
      go (suc zero) e =
          let a = below_adds B d x y (blocks.some d (omega arith)) t in
          let q : (x + y) / B d ≡ 0 = a.0 ∙ omega (arith, quotient x (B d) 0 x (omega arith) (omega arith), quotient y (B d) 0 y (omega arith) (omega arith)) in
          absurd (omega (arith, ap (λ q. q * B d) q, div-add-mod' (x + y) (B d), mod-lt (x + y) {m = B d} (blocks.some d (omega arith))))
      go (suc (suc m)) e =
          let f : x + y ≡ x + y - B (suc d) + (suc (suc m)) * B d = omega arith in
          omega (arith, ap (λ s. digit_sum B (suc d) s) f, sum_steps d (x + y - B (suc d)) (suc (suc m)) (blocks.some d (omega arith)))

  -- parts that carry
  parts_carry : (b t u : ℕ) → 1 ≤ b → b ≤ t % b + u % b → ((t + u) / b ≡ t / b + u / b + 1) × ((t + u) % b ≡ t % b + u % b - b)
  parts_carry b t u p h =
      let l : t % b + u % b - b < b = omega (arith, mod-lt t {m = b} p, mod-lt u {m = b} p) in
      let e : t + u ≡ (t / b + u / b + 1) * b + (t % b + u % b - b) = omega (arith, div-add-mod' t b, div-add-mod' u b) in
      (quotient (t + u) b _ _ e l, rest (t + u) b _ _ e l)

  -- the digits of a sum come to no more than those of its two numbers, and to as much only where no digit carries
  abbrev Adds : ℕ → ℕ → ℕ → Type 0
  Adds d t u = (digit_sum B d (t + u) ≤ digit_sum B d t + digit_sum B d u) × (digit_sum B d t + digit_sum B d u ≡ digit_sum B d (t + u) → T (below B d t (t + u)))

  sum_adds : (d t u : ℕ) → Blocks B d → Adds d t u
  unfolding digit_sum below
  sum_adds zero t u blocks = (omega arith, λ e. le→leb t (t + u) (omega arith))
  sum_adds (suc d) t u blocks = go (dec_le (B d) (t % B d + u % B d)) (sum_adds d (t % B d) (u % B d) (lower_blocks B d blocks))
    where
      some : 1 ≤ B d
      some = blocks.some d (omega arith)

      go : Dec (B d ≤ t % B d + u % B d) → Adds d (t % B d) (u % B d) → Adds (suc d) t u
      go (no h) l =
          let a = parts_add (B d) t u some (omega arith) in (
            omega (arith, l.0, a.0, ap (λ x. digit_sum B d x) a.1),
            λ e. parts_below B d t (t + u) (omega (arith, a.0)) (rw a.1 (l.1 (omega (arith, a.0, ap (λ x. digit_sum B d x) a.1)))),
          )
      go (yes h) l =
          let a = parts_carry (B d) t u some h in
          let z : t % B d + u % B d - B d + B d ≡ t % B d + u % B d = omega arith in
          let c = carry d (t % B d + u % B d - B d) (lower_blocks B d blocks) in
          let f = ap (λ x. digit_sum B d x) z in
          let m = ap (λ x. digit_sum B d x) a.1 in (
            omega (arith, l.0, a.0, c, f, m),
            λ e. absurd (omega (
              arith,
              l.0,
              a.0,
              c,
              f,
              m,
              carries d (t % B d) (u % B d) (lower_blocks B d blocks) (mod-lt t {m = B d} some) (mod-lt u {m = B d} some) h (l.1 (omega (arith, l.0, a.0, c, f, m))),
            )),
          )

  pub below_sums : (d t u : ℕ) → Blocks B d → T (below B d t (t + u)) → digit_sum B d t + digit_sum B d u ≡ digit_sum B d (t + u)
  unfolding digit_sum
  below_sums zero t u blocks h = refl
  below_sums (suc d) t u blocks h =
      let a = below_adds B d t u (blocks.some d (omega arith)) h in
      let q = below_sums d (t % B d) (u % B d) (lower_blocks B d blocks) (rw a.1 at (below_parts B d t (t + u) h).1) in
      rw (a.0, a.1) (omega (arith, q))

  -- so the test of sums is that of digits
  pub sums_test : (d t u a b c : ℕ) → Blocks B d → a ≡ digit_sum B d t → b ≡ digit_sum B d u → c ≡ digit_sum B d (t + u) → eqb (a + b) c ≡ below B d t (t + u)
  sums_test d t u a b c blocks e f g = same (eqb (a + b) c) (below B d t (t + u)) (λ h. (sum_adds d t u blocks).1 (omega (arith, eqb→eq (a + b) c h))) (λ h. eqb_same (a + b) c (omega (arith, below_sums d t u blocks h)))

-- words that gain 1 with `size` words: one more
pub stepped_more : (size s : ℕ) (old xs : List ℕ) → 1 ≤ size → size ≤ s → s < length xs → Stepped size s old xs → Stepped size (s + 1) old (set xs s (get_or xs (s - size) 0 + 1))
stepped_more size s old xs some h room p = record {
  steps = λ f a b j l. go f a b j l (ℕ_discrete j s);
  rest = λ i l. get_or-set_other xs s i (get_or xs (s - size) 0 + 1) 0 (λ z. omega arith) ∙ p.rest i (omega arith);
}
  where
    go : (f : ℕ → ℕ) → ((j : ℕ) → j < size → get_or old j 0 ≡ f j) → ((j : ℕ) → size ≤ j → j < s + 1 → f j ≡ f (j - size) + 1) → (j : ℕ) → j < s + 1 → Dec (j ≡ s) → get_or (set xs s (get_or xs (s - size) 0 + 1)) j 0 ≡ f j
    go f a b j l (yes e) = rw e (get_or-set_same xs s (get_or xs (s - size) 0 + 1) 0 room ∙ omega (arith, b s h (omega arith), p.steps f a (λ i m n. b i m (omega arith)) (s - size) (omega arith)))
    go f a b j l (no e) = get_or-set_other xs s j (get_or xs (s - size) 0 + 1) 0 e ∙ p.steps f a (λ i m n. b i m (omega arith)) j (omega arith)

pub small_more : (size s : ℕ) (xs : List ℕ) → 1 ≤ size → size ≤ s → s < length xs → ((j : ℕ) → j < s → get_or xs j 0 ≤ j) → (j : ℕ) → j < s + 1 → get_or (set xs s (get_or xs (s - size) 0 + 1)) j 0 ≤ j
small_more size s xs some h room small j l = go (ℕ_discrete j s)
  where
    go : Dec (j ≡ s) → get_or (set xs s (get_or xs (s - size) 0 + 1)) j 0 ≤ j
    go (yes e) = rw e (omega (arith, get_or-set_same xs s (get_or xs (s - size) 0 + 1) 0 room, small (s - size) (omega arith)))
    go (no e) = omega (arith, get_or-set_other xs s j (get_or xs (s - size) 0 + 1) 0 e, small j (omega arith))

-- one digit never carries
pub one_apart : (blocks : List ℕ) (d t u : ℕ) → d ≡ 0 → under blocks d t (t + u) ≡ true
one_apart blocks d t u e = rw e (below_zero blocks t (t + u) ∙ le-leb t (t + u) (omega arith))

-- the sums stay where words from `at` on are written
pub summed_kept : {blocks : List ℕ} {d words at end : ℕ} {old new : List ℕ} → Outside at end old new → Summed blocks d words at old → Summed blocks d words at new
summed_kept o w = record { before = w.before; sums = λ h s l. o.before s (omega (arith, w.before h)) ∙ w.sums h s l }

-- the sums of one digit, and with one digit more
module _ (blocks : List ℕ) where
  pub sums_first : (b : ℕ) (old new : List ℕ) → b ≡ get_or blocks 0 0 → get_or old 0 0 ≡ 0 → Stepped 1 b old new → Sums blocks 0 (get_or blocks 0 0) new
  unfolding digit_sum
  sums_first b old new e z w s h = w.steps (λ s. s) (λ s l. (let y : s ≡ 0 = omega arith in rw y z)) (λ s l m. omega arith) s (omega arith)

  pub sums_more : (e b c : ℕ) (old new : List ℕ) → Blocks (λ i. get_or blocks i 0) (e + 1) → b ≡ get_or blocks e 0 → c ≡ get_or blocks (e + 1) 0 → Sums blocks e (get_or blocks e 0) old → Stepped b c old new → Sums blocks (e + 1) (get_or blocks (e + 1) 0) new
  sums_more e b c old new given f g sums w s h =
      let z : e + 1 ≡ suc e = omega arith in
      rw z (w.steps (digit_sum (λ i. get_or blocks i 0) (suc e))
      (λ s l. sums s (omega arith) ∙ sym (sum_low (λ i. get_or blocks i 0) e s (omega arith)))
      (λ s l m. rw f (sum_step (λ i. get_or blocks i 0) e s (given.some e (omega arith)) (omega arith))) s (omega arith))

  pub sums_small : (e : ℕ) (xs : List ℕ) → Blocks (λ i. get_or blocks i 0) e → Sums blocks e (get_or blocks e 0) xs → (s : ℕ) → s < get_or blocks e 0 → get_or xs s 0 ≤ s
  sums_small e xs given sums s h = omega (arith, sums s h, sum_most (λ i. get_or blocks i 0) e s given)

  -- fewer digits
  pub fewer_blocks : (d e : ℕ) → Blocks (λ i. get_or blocks i 0) d → e ≤ d → Blocks (λ i. get_or blocks i 0) e
  fewer_blocks d e given h = record { some = λ i l. given.some i (omega arith); whole = λ i l. given.whole i (omega arith) }

pub summed_before : {blocks : List ℕ} {d words at end : ℕ} {old new : List ℕ} → words ≤ at → Outside at end old new → Summed blocks d words words old → Summed blocks d words words new
summed_before h o w = record { before = w.before; sums = λ k s l. o.before s (omega arith) ∙ w.sums k s l }

-- the row of length 0: cleared, and then the sums
pub first_row_of : {blocks : List ℕ} {d words stride : ℕ} {old mid new : List ℕ} → words ≤ stride → Run (λ j. 0) 0 stride old mid → Sums blocks d words new → ((i : ℕ) → words ≤ i → get_or new i 0 ≡ get_or mid i 0) → FirstRow blocks d words stride old new
first_row_of h run sums rest = record {
  sums = sums;
  zeros = λ i l m. (let z : 0 + i ≡ i = omega arith in rest i l ∙ rw z at (run.here i m));
  rest = λ i l. rest i (omega arith) ∙ run.rest.after i (omega arith);
}
