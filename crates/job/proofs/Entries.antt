-- Laws of the record's arrays: their length, their entries, and one entry more by a store. One set of laws for all arrays.
use Rattle.job.proofs.Prelude.{◌≡◌, refl, sym, ◌∙◌, ap, List, map, ℕ, zero, suc, ◌+◌, ◌≤◌, ◌<◌, ℕ_discrete, dec_lt, arith, lt-ltb, le-ltb, ltb, length, get_or, set, length-set, length-map, replicate, List·getD-eq-default, get_or-set_same, get_or-set_other, ext_get_or, range_length, range, only, entries}

-- an entry of a mapped range
get_or_range : (g : ℕ → ℕ) (a n i : ℕ) → i < n → get_or (map g (range a n)) i 0 ≡ g (a + i)
unfolding range
get_or_range g a zero i h = absurd (omega arith)
get_or_range g a (suc n) zero h = let e : a ≡ a + 0 = omega arith in ap g e
get_or_range g a (suc n) (suc i) h = let e : suc a + i ≡ a + suc i = omega arith in get_or_range g (suc a) n i (omega arith) ∙ ap g e

-- an array has 64 entries
pub entries_length : (f : ℕ → ℕ) (n : ℕ) → length (entries f n) ≡ 64
unfolding entries
entries_length f n = length-map (range 0 64) (λ i. only (ltb i n) (f i)) ∙ range_length 0 64

-- an entry of the 64
entries_at : (f : ℕ → ℕ) (n i : ℕ) → i < 64 → get_or (entries f n) i 0 ≡ only (ltb i n) (f i)
unfolding entries
entries_at f n i h = let e : 0 + i ≡ i = omega arith in get_or_range (λ i. only (ltb i n) (f i)) 0 64 i h ∙ ap (λ i. only (ltb i n) (f i)) e

-- an entry of the first n
pub entries_in : (f : ℕ → ℕ) (n i : ℕ) → n ≤ 64 → i < n → get_or (entries f n) i 0 ≡ f i
entries_in f n i b h = entries_at f n i (omega arith) ∙ ap (λ t. only t (f i)) (lt-ltb i n h)

-- an entry past them
pub entries_past : (f : ℕ → ℕ) (n i : ℕ) → n ≤ i → get_or (entries f n) i 0 ≡ 0
entries_past f n i h = go (dec_lt i 64)
  where
    go : Dec (i < 64) → get_or (entries f n) i 0 ≡ 0
    go (yes l) = entries_at f n i l ∙ ap (λ t. only t (f i)) (le-ltb i n h)
    go (no l) = List·getD-eq-default (entries f n) 0 (omega (arith, entries_length f n))

-- no entry yet
pub entries_none : (f : ℕ → ℕ) → replicate 64 0 ≡ entries f 0
unfolding entries range
entries_none f = refl

-- one entry more, by a store at the next place
pub entries_more : (f : ℕ → ℕ) (i : ℕ) (a : List ℕ) (v : ℕ) → i < 64 → v ≡ f i → a ≡ entries f i → set a i v ≡ entries f (i + 1)
entries_more f i a v h e p = ap (λ a. set a i v) p ∙ ap (set (entries f i) i) e
    ∙ ext_get_or 0 (set (entries f i) i (f i)) (entries f (i + 1)) (length-set (entries f i) i (f i) ∙ entries_length f i ∙ sym (entries_length f (i + 1)))
    (λ k l. entry k (omega (arith, length-set (entries f i) i (f i), entries_length f i)))
  where
    at_other : (k : ℕ) → (k ≡ i → ⊥) → only (ltb k i) (f k) ≡ only (ltb k (i + 1)) (f k)
    at_other k d = split (dec_lt k i)
      where
        split : Dec (k < i) → only (ltb k i) (f k) ≡ only (ltb k (i + 1)) (f k)
        split (yes l) = ap (λ t. only t (f k)) (lt-ltb k i l ∙ sym (lt-ltb k (i + 1) (omega arith)))
        split (no l) = ap (λ t. only t (f k)) (le-ltb k i (omega arith) ∙ sym (le-ltb k (i + 1) (omega arith)))

    entry : (k : ℕ) → k < 64 → get_or (set (entries f i) i (f i)) k 0 ≡ get_or (entries f (i + 1)) k 0
    entry k l = split (ℕ_discrete k i)
      where
        split : Dec (k ≡ i) → get_or (set (entries f i) i (f i)) k 0 ≡ get_or (entries f (i + 1)) k 0
        split (yes d) = ap (λ k. get_or (set (entries f i) i (f i)) k 0) d ∙ get_or-set_same (entries f i) i (f i) 0 (omega (arith, entries_length f i)) ∙ sym (ap (λ k. get_or (entries f (i + 1)) k 0) d ∙ entries_at f (i + 1) i h ∙ ap (λ t. only t (f i)) (lt-ltb i (i + 1) (omega arith)))
        split (no d) = get_or-set_other (entries f i) i k (f i) 0 d ∙ entries_at f i k l ∙ at_other k d ∙ sym (entries_at f (i + 1) k l)
