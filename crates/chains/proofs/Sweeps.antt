-- Sweeps over a part of the table, from the last entry down: one entry more, and two parts one after the other.
use Rattle.chains.proofs.Prelude.{◌≡◌, sym, ◌∙◌, List, ℕ, ◌+◌, ◌-◌, ◌≤◌, ◌<◌, min, dec_lt, ℕ_discrete, arith, length, set, length-set, get_or-set_same, get_or-set_other, most_entry, entry, stepped, Steps, Passed, Swept, Unmoved}

module _ (old : List ℕ) (m t : ℕ) where
  module _ (hi k s : ℕ) (e : k ≡ s + 1) (top : k ≤ hi) {table : List ℕ} (h : Swept old m t k hi table) where
    -- what is written there
    pub value : 1 ≤ m → m ≤ s → (x z : ℕ) → x ≡ entry table (s - m) + t → z ≡ min x (entry table s) → z ≡ stepped m t m t (entry old) s
    unfolding stepped
    value some l x z f g = let a = h.below (s - m) (omega arith) in let b = h.below s (omega arith) in omega (arith, a, b, f, g)

    -- and where one piece alone fills it
    pub first_value : s < m → (x z : ℕ) → x ≡ entry old 0 + t → z ≡ min x (entry table s) → z ≡ stepped m t m t (entry old) s
    unfolding stepped
    first_value l x z f g = let n : s - m ≡ 0 = omega arith in let b = h.below s (omega arith) in rw n (omega (arith, b, f, g))

    module _ (v : ℕ) (q : v ≡ stepped m t m t (entry old) s) where
      -- the entry before
      pub swept_more : hi ≤ length old → Swept old m t s hi (set table s v)
      swept_more b = record {
        long = length-set table s v ∙ h.long;
        below = λ x i. get_or-set_other table s x v 0 (omega arith) ∙ h.below x (omega arith);
        inside = λ x i y. go x i y (ℕ_discrete x s);
        past = λ x i. get_or-set_other table s x v 0 (omega arith) ∙ h.past x i;
      }
        where
          go : (x : ℕ) → s ≤ x → x < hi → Dec (x ≡ s) → entry (set table s v) x ≡ stepped m t m t (entry old) x
          go x i y (yes p) = rw p (get_or-set_same table s v 0 (omega (arith, h.long)) ∙ q)
          go x i y (no p) = get_or-set_other table s x v 0 p ∙ h.inside x (omega arith) y

      -- which did not change either
      pub unmoved_more : v ≡ entry table s → Unmoved old m t k hi → Unmoved old m t s hi
      unmoved_more g w x i y = go (ℕ_discrete x s)
        where
          go : Dec (x ≡ s) → stepped m t m t (entry old) x ≡ entry old x
          go (yes p) = rw p (sym q ∙ g ∙ h.below s (omega arith))
          go (no p) = w x (omega arith) y

  -- a part, and then the one below it
  module _ (lo mid hi : ℕ) (l : lo ≤ mid) (u : mid ≤ hi) {table new : List ℕ} (h : Swept old m t mid hi table) (g : Swept table m t lo mid new) where
    same_step : (s : ℕ) → s < mid → stepped m t m t (entry table) s ≡ stepped m t m t (entry old) s
    unfolding stepped
    same_step s i = rw (h.below (s - m) (omega arith), h.below s i)

    pub swept_on : Swept old m t lo hi new
    swept_on = record {
      long = g.long ∙ h.long;
      below = λ s i. g.below s i ∙ h.below s (omega arith);
      inside = λ s i j. go s i j (dec_lt s mid);
      past = λ s i. g.past s (omega arith) ∙ h.past s i;
    }
      where
        go : (s : ℕ) → lo ≤ s → s < hi → Dec (s < mid) → entry new s ≡ stepped m t m t (entry old) s
        go s i j (yes p) = g.inside s i p ∙ same_step s p
        go s i j (no p) = g.past s (omega arith) ∙ h.inside s (omega arith) j

    pub unmoved_on : Unmoved old m t mid hi → Unmoved table m t lo mid → Unmoved old m t lo hi
    unmoved_on v w s i j = go (dec_lt s mid)
      where
        go : Dec (s < mid) → stepped m t m t (entry old) s ≡ entry old s
        go (yes p) = sym (same_step s p) ∙ w s i p ∙ h.below s p
        go (no p) = v s (omega arith) j

  -- what a sweep asks holds after one
  pub steps_on : {lo hi : ℕ} {table : List ℕ} → Steps old m t m t → Swept old m t lo hi table → Steps table m t m t
  unfolding stepped
  steps_on {lo} {hi} {table} w h = record { first = w.first; second = w.second; first_fits = w.first_fits; second_fits = w.second_fits; entries_fit = λ s. go s (dec_lt s lo) (dec_lt s hi) }
    where
      less : (s : ℕ) → stepped m t m t (entry old) s ≤ entry old s
      less s = omega arith

      go : (s : ℕ) → Dec (s < lo) → Dec (s < hi) → entry table s ≤ most_entry
      go s (yes p) q = omega (arith, h.below s p, w.entries_fit s)
      go s (no p) (yes q) = omega (arith, h.inside s (omega arith) q, less s, w.entries_fit s)
      go s (no p) (no q) = omega (arith, h.past s (omega arith), w.entries_fit s)

  -- a sweep over the whole table is a pass
  pub swept_all : {hi : ℕ} {new : List ℕ} → hi ≡ length old → Swept old m t 0 hi new → Passed old m t m t new
  swept_all e h = record { long = h.long; entries = λ s l. h.inside s (omega arith) (omega arith) }
