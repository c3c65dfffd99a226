-- Searches step by step: what is left of a search over a run of numbers, and of one over pairs, after the members tried so far failed.
use Rattle.choice.proofs.Prelude.{◌≡◌, refl, ◌∙◌, ap, Bool, true, false, ◌&&◌, Maybe, none, some, List, [], ◌∷◌, ◌++◌, map, ℕ, suc, ◌+◌, ◌-◌, ◌*◌, ◌≤◌, ◌<◌, add-one, arith, eqb, length, get_or, most_wide_figure, range, first, pairs, CutSearch, pair_test, Row, Searchable}

-- a run of numbers from i to n, and what is left of it
pub run_more : (i n : ℕ) → i < n → range i (n - i) ≡ i ∷ range (i + 1) (n - (i + 1))
unfolding range
run_more i n h = let e : n - i ≡ suc (n - suc i) = omega arith in rw (e, add-one) refl

pub run_end : (i n : ℕ) → n ≤ i → range i (n - i) ≡ []
unfolding range
run_end i n h = let e : n - i ≡ 0 = omega arith in rw e refl

module _ {A : Type 0} (f : A → Bool) where
  -- a member that fails is left out, and one that passes is found
  pub first_fails : (x : A) (xs : List A) → f x ≡ false → first f (x ∷ xs) ≡ first f xs
  unfolding first
  first_fails x xs e = ap (λ b. elim b [ true ↦ some x | false ↦ first f xs ]) e

  pub first_passes : (x : A) (xs : List A) → f x ≡ true → first f (x ∷ xs) ≡ some x
  unfolding first
  first_passes x xs e = ap (λ b. elim b [ true ↦ some x | false ↦ first f xs ]) e

  pub first_empty : first f [] ≡ none
  unfolding first
  first_empty = refl

-- what is left of a search over the numbers below n, from i on
abbrev pub left : (ℕ → Bool) → ℕ → ℕ → Maybe ℕ
left f n i = first f (range i (n - i))

module _ (f : ℕ → Bool) (n i : ℕ) where
  pub left_fails : i < n → f i ≡ false → left f n i ≡ left f n (i + 1)
  left_fails h e = ap (first f) (run_more i n h) ∙ first_fails f i (range (i + 1) (n - (i + 1))) e

  pub left_passes : i < n → f i ≡ true → left f n i ≡ some i
  left_passes h e = ap (first f) (run_more i n h) ∙ first_passes f i (range (i + 1) (n - (i + 1))) e

  pub left_end : n ≤ i → left f n i ≡ none
  left_end h = ap (first f) (run_end i n h) ∙ first_empty f

-- what is left of a search over pairs below m and n: from row i on, and from the k-th pair of row i on
abbrev pub rows_left : (ℕ × ℕ → Bool) → ℕ → ℕ → ℕ → Maybe (ℕ × ℕ)
rows_left f m n i = first f (pairs (range i (m - i)) (range 0 n))

abbrev pub row_left : (ℕ × ℕ → Bool) → ℕ → ℕ → ℕ → ℕ → Maybe (ℕ × ℕ)
row_left f m n i k = first f (map (λ y. (i, y)) (range k (n - k)) ++ pairs (range (i + 1) (m - (i + 1))) (range 0 n))

module _ (f : ℕ × ℕ → Bool) (m n i : ℕ) where
  pub row_starts : i < m → rows_left f m n i ≡ row_left f m n i 0
  unfolding pairs
  row_starts h = let e : n - 0 ≡ n = omega arith in rw (e, run_more i m h) refl

  pub rows_end : m ≤ i → rows_left f m n i ≡ none
  unfolding pairs
  rows_end h = ap (λ xs. first f (pairs xs (range 0 n))) (run_end i m h) ∙ first_empty f

  pub row_fails : (k : ℕ) → k < n → f (i, k) ≡ false → row_left f m n i k ≡ row_left f m n i (k + 1)
  row_fails k h e = ap (λ ys. first f (map (λ y. (i, y)) ys ++ pairs (range (i + 1) (m - (i + 1))) (range 0 n))) (run_more k n h)
      ∙ first_fails f (i, k) (map (λ y. (i, y)) (range (k + 1) (n - (k + 1))) ++ pairs (range (i + 1) (m - (i + 1))) (range 0 n)) e

  pub row_passes : (k : ℕ) → k < n → f (i, k) ≡ true → row_left f m n i k ≡ some (i, k)
  row_passes k h e = ap (λ ys. first f (map (λ y. (i, y)) ys ++ pairs (range (i + 1) (m - (i + 1))) (range 0 n))) (run_more k n h)
      ∙ first_passes f (i, k) (map (λ y. (i, y)) (range (k + 1) (n - (k + 1))) ++ pairs (range (i + 1) (m - (i + 1))) (range 0 n)) e

  pub row_ends : (k : ℕ) → n ≤ k → row_left f m n i k ≡ rows_left f m n (i + 1)
  row_ends k h = ap (λ ys. first f (map (λ y. (i, y)) ys ++ pairs (range (i + 1) (m - (i + 1))) (range 0 n))) (run_end k n h)

-- the search for a cut: i is the position's index, x the position, and rest the row of the remainder
module _ {positions floors table : List ℕ} {cut : CutSearch} (s : Searchable positions floors table cut) where
  -- the words of the remainder's row are there
  pub second_word : (i k : ℕ) {x rest : ℕ} → x ≡ get_or positions i 0 → rest ≡ get_or floors (cut.side - x) 0 → k < cut.share + 1
      → (rest * cut.stride + cut.base + cut.share < length table) × (rest * cut.stride + cut.base + cut.share - k < length table) × (get_or table (rest * cut.stride + cut.base + cut.share - k) 0 ≤ most_wide_figure)
  second_word i k {x} {rest} e f h =
      let r : Row table cut rest = rw f (s.remainders (cut.side - x) (omega arith)) in
      let g : rest * cut.stride + cut.base + cut.share - k ≡ rest * cut.stride + cut.base + (cut.share - k) = omega arith in
      let u = r (cut.share - k) (omega arith) in
      ((r cut.share (omega arith)).0, rw g u.0, rw g u.1)

  module _ (le : ℕ → ℕ → Bool) where
    -- the test of a pair as the loop makes it
    pair_sum : (i k x rest : ℕ) → x ≡ get_or positions i 0 → rest ≡ get_or floors (cut.side - x) 0 → k < cut.share + 1
        → pair_test le positions floors table cut (i, k) ≡ (eqb (get_or table (i * cut.stride + cut.base + k) 0 + get_or table (rest * cut.stride + cut.base + cut.share - k) 0) cut.value && le k cut.share)
    pair_sum i k x rest e f h =
        let g : rest * cut.stride + cut.base + cut.share - k ≡ rest * cut.stride + cut.base + (cut.share - k) = omega arith in
        rw (g, f, e) refl

    -- a pair that does not earn the value is left out, and the first that does is found
    pub pair_fails : (i k : ℕ) {x rest : ℕ} → x ≡ get_or positions i 0 → rest ≡ get_or floors (cut.side - x) 0 → k < cut.share + 1
        → (eqb (get_or table (i * cut.stride + cut.base + k) 0 + get_or table (rest * cut.stride + cut.base + cut.share - k) 0) cut.value && le k cut.share) ≡ false
        → row_left (pair_test le positions floors table cut) cut.last (cut.share + 1) i k ≡ row_left (pair_test le positions floors table cut) cut.last (cut.share + 1) i (k + 1)
    pair_fails i k {x} {rest} e f h t = row_fails (pair_test le positions floors table cut) cut.last (cut.share + 1) i k h (pair_sum i k x rest e f h ∙ t)

    pub pair_passes : (i k : ℕ) {x rest : ℕ} → x ≡ get_or positions i 0 → rest ≡ get_or floors (cut.side - x) 0 → k < cut.share + 1
        → (eqb (get_or table (i * cut.stride + cut.base + k) 0 + get_or table (rest * cut.stride + cut.base + cut.share - k) 0) cut.value && le k cut.share) ≡ true
        → row_left (pair_test le positions floors table cut) cut.last (cut.share + 1) i k ≡ some (i, k)
    pair_passes i k {x} {rest} e f h t = row_passes (pair_test le positions floors table cut) cut.last (cut.share + 1) i k h (pair_sum i k x rest e f h ∙ t)
