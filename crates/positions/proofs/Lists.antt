-- Laws of lists written at the front of an array, entry after entry: what one turn of a loop adds.
use Rattle.positions.proofs.Prelude.{◌≡◌, refl, sym, ◌∙◌, ap, Bool, true, false, List, [], ◌∷◌, ◌++◌, append-nil, ℕ, zero, suc, ◌+◌, ◌≤◌, ◌<◌, add-one, arith, below_more, length, get_or, set, take, drop, length-append, drop-cons, take-append_seam, get_or-set_same, get_or-set_other, set-append_seam, append_snoc, range, keep, filter, range_length, filter_length, Holds}

keep_front : (b : Bool) (x : ℕ) (xs ys : List ℕ) → keep b x (xs ++ ys) ≡ keep b x xs ++ ys
keep_front true x xs ys = refl
keep_front false x xs ys = refl

module _ (f : ℕ → Bool) where
  -- the members of a run of numbers that pass, with one number more
  filter_more : (a n k : ℕ) → k ≡ a + n → filter f (range a (suc n)) ≡ filter f (range a n) ++ keep (f k) k []
  unfolding range filter
  filter_more a zero k e = let z : k ≡ a = omega arith in rw z
  filter_more a (suc n) k e = ap (keep (f a) a) (filter_more (suc a) n k (omega arith)) ∙ keep_front (f a) a (filter f (range (suc a) n)) _

  filter_next : (n : ℕ) (b : Bool) → f n ≡ b → filter f (range 0 (n + 1)) ≡ filter f (range 0 n) ++ keep b n []
  filter_next n b h = rw (add-one, filter_more 0 n n (omega arith), h)

  pub filter_taken : (n : ℕ) → f n ≡ true → filter f (range 0 (n + 1)) ≡ filter f (range 0 n) ++ (n ∷ [])
  filter_taken n h = filter_next n true h

  pub filter_left : (n : ℕ) → f n ≡ false → filter f (range 0 (n + 1)) ≡ filter f (range 0 n)
  filter_left n h = filter_next n false h ∙ append-nil _

  pub filter_count : (n : ℕ) → length (filter f (range 0 n)) ≤ n
  filter_count n = omega (arith, filter_length f (range 0 n), range_length 0 n)

-- one entry more is written
pub holds_more : (xs old new : List ℕ) (n v : ℕ) → Holds xs n old new → n < length old → Holds (xs ++ (v ∷ [])) (n + 1) old (set new n v)
holds_more xs old new n v w h =
    let e : length (xs ++ (v ∷ [])) ≡ suc (length xs) = omega (arith, length-append xs (v ∷ [])) in
    record { number = omega (arith, e, w.number); contents = rw (w.contents, w.number) (ap (λ ys. set (xs ++ ys) (length xs) v) (drop-cons old (length xs) 0 (omega arith)) ∙ set-append_seam xs _ _ v ∙ sym (ap (λ k. (xs ++ (v ∷ [])) ++ drop k old) e ∙ append_snoc xs v _)) }

-- a number more is listed, or not, as it passes a test
pub listed_more : (f : ℕ → Bool) {x n : ℕ} {old new : List ℕ} (b : Bool) → b ≡ f x → b ≡ true → Holds (filter f (range 0 x)) n old new → n < length old → Holds (filter f (range 0 (x + 1))) (n + 1) old (set new n x)
listed_more f {x} b h e w l = rw (filter_taken f x (sym h ∙ e)) (holds_more _ _ _ _ x w l)

pub listed_left : (f : ℕ → Bool) {x n : ℕ} {old new : List ℕ} (b : Bool) → b ≡ f x → b ≡ false → Holds (filter f (range 0 x)) n old new → Holds (filter f (range 0 (x + 1))) n old new
listed_left f {x} b h e w = rw (filter_left f x (sym h ∙ e)) w

-- the list, read back
pub holds_take : {xs old new : List ℕ} {n : ℕ} → Holds xs n old new → take n new ≡ xs
holds_take {xs} w = rw (w.contents, w.number) (take-append_seam xs _)

-- the array has room for it
pub holds_length : {xs old new : List ℕ} {n : ℕ} → Holds xs n old new → n ≤ length new
holds_length {xs} {old} w = rw (w.contents, w.number) (omega (arith, length-append xs (drop (length xs) old)))

-- what holds of each entry below x, and of a value stored at x, holds of each entry below x + 1 after the store
pub entries_more : {A : Type 0} (P : ℕ → A → Type 0) (l : List A) (x : ℕ) (a d : A) → x < length l
    → ((y : ℕ) → y < x → P y (get_or l y d)) → P x a → (y : ℕ) → y < x + 1 → P y (get_or (set l x a) y d)
entries_more P l x a d h below here = below_more (λ y. P y (get_or (set l x a) y d)) x
    (λ y k. rw (get_or-set_other l x y a d (λ e. omega arith)) (below y k)) (rw (get_or-set_same l x a d h) here)
