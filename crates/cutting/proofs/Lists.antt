-- Laws of the lists of specs/Lists: who is a member of a range, of a filtered or mapped list and of a list of pairs, and their lengths;
-- and a list after its first entries were written.
use Rattle.cutting.proofs.Prelude.{◌≡◌, refl, sym, ◌∙◌, ap, ap₂, subst, ◌⊎◌, inl, inr, Bool, true, false, ◌||◌, ◌&&◌, Option, none, some, List, [], ◌∷◌, ◌++◌, map, List-as-Memᴰ, List·Memᴰ·head, List·Memᴰ·tail, List·Memᴰ·not-nil, List·Memᴰ·cases-cons, List·Memᴰ·append-cases, Memᴰ·append-left, Memᴰ·append-right, Memᴰ·cast, ℕ, zero, suc, ◌+◌, ◌*◌, ◌≤◌, ◌<◌, ℕ_discrete, arith, T, length, get_or, length-append, sets, sets-eq, range, keep, filter, any, first, each, pairs, over}

-- a function on what is found
abbrev pub through : {A B : Type 0} → (A → B) → Option A → Option B
through g none = none
through g (some x) = some (g x)

pub range_mem : (a n x : ℕ) → a ≤ x → x < a + n → List-as-Memᴰ x (range a n)
unfolding range
range_mem a zero x h l = absurd (omega arith)
range_mem a (suc n) x h l = go (ℕ_discrete x a) (λ (k : suc a ≤ x). range_mem (suc a) n x k (omega arith))
  where
    go : Dec (x ≡ a) → (suc a ≤ x → List-as-Memᴰ x (range (suc a) n)) → List-as-Memᴰ x (a ∷ range (suc a) n)
    go (yes e) f = List·Memᴰ·head e
    go (no e) f = List·Memᴰ·tail (f (omega arith))

pub mem_range : (a n x : ℕ) → List-as-Memᴰ x (range a n) → (a ≤ x) × (x < a + n)
unfolding range
mem_range a zero x m = absurd (List·Memᴰ·not-nil m)
mem_range a (suc n) x m = go (List·Memᴰ·cases-cons m) (λ (k : List-as-Memᴰ x (range (suc a) n)). mem_range (suc a) n x k)
  where
    go : (x ≡ a) ⊎ List-as-Memᴰ x (range (suc a) n) → (List-as-Memᴰ x (range (suc a) n) → (suc a ≤ x) × (x < suc a + n)) → (a ≤ x) × (x < a + suc n)
    go (inl e) f = omega arith
    go (inr k) f = let h = f k in omega arith

pub range_entry : (a n i d : ℕ) → i < n → get_or (range a n) i d ≡ a + i
unfolding range
range_entry a zero i d h = absurd (omega arith)
range_entry a (suc n) zero d h = omega arith
range_entry a (suc n) (suc i) d h = omega (arith, range_entry (suc a) n i d (omega arith))

pub range_length : (a n : ℕ) → length (range a n) ≡ n
unfolding range
range_length a zero = refl
range_length a (suc n) = ap suc (range_length (suc a) n)

module _ {A : Type 0} where
  pub filter_length : (f : A → Bool) (xs : List A) → length (filter f xs) ≤ length xs
  unfolding filter
  filter_length f [] = omega arith
  filter_length f (x ∷ xs) = go (f x) (filter_length f xs)
    where
      go : (b : Bool) → length (filter f xs) ≤ length xs → length (keep b x (filter f xs)) ≤ suc (length xs)
      go true h = omega arith
      go false h = omega arith

  pub filter_mem : (f : A → Bool) {x : A} (xs : List A) → List-as-Memᴰ x xs → T (f x) → List-as-Memᴰ x (filter f xs)
  unfolding filter
  filter_mem f [] m t = absurd (List·Memᴰ·not-nil m)
  filter_mem f {x} (y ∷ ys) m t = go (f y) refl (List·Memᴰ·cases-cons m) (λ (k : List-as-Memᴰ x ys). filter_mem f ys k t)
    where
      go : (b : Bool) → f y ≡ b → (x ≡ y) ⊎ List-as-Memᴰ x ys → (List-as-Memᴰ x ys → List-as-Memᴰ x (filter f ys)) → List-as-Memᴰ x (keep b y (filter f ys))
      go true e (inl p) h = List·Memᴰ·head p
      go true e (inr k) h = List·Memᴰ·tail (h k)
      go false e (inl p) h = absurd (subst T (ap f p ∙ e) t)
      go false e (inr k) h = h k

  pub mem_filter : (f : A → Bool) {x : A} (xs : List A) → List-as-Memᴰ x (filter f xs) → List-as-Memᴰ x xs × T (f x)
  unfolding filter
  mem_filter f [] m = absurd (List·Memᴰ·not-nil m)
  mem_filter f {x} (y ∷ ys) m = go (f y) refl m (λ (k : List-as-Memᴰ x (filter f ys)). mem_filter f ys k)
    where
      go : (b : Bool) → f y ≡ b → List-as-Memᴰ x (keep b y (filter f ys)) → (List-as-Memᴰ x (filter f ys) → List-as-Memᴰ x ys × T (f x)) → List-as-Memᴰ x (y ∷ ys) × T (f x)
      go true e k h = more (List·Memᴰ·cases-cons k)
        where
          more : (x ≡ y) ⊎ List-as-Memᴰ x (filter f ys) → List-as-Memᴰ x (y ∷ ys) × T (f x)
          more (inl p) = (List·Memᴰ·head p, subst T (sym (ap f p ∙ e)) tt)
          more (inr k) = let r = h k in (List·Memᴰ·tail r.0, r.1)
      go false e k h = let r = h k in (List·Memᴰ·tail r.0, r.1)

  -- where all pass, the list is whole
  pub filter_all : (f : A → Bool) (xs : List A) → ((x : A) → List-as-Memᴰ x xs → T (f x)) → filter f xs ≡ xs
  unfolding filter
  filter_all f [] h = refl
  filter_all f (x ∷ xs) h = go (f x) (h x (List·Memᴰ·head refl)) (filter_all f xs (λ y m. h y (List·Memᴰ·tail m)))
    where
      go : (b : Bool) → T b → filter f xs ≡ xs → keep b x (filter f xs) ≡ x ∷ xs
      go true t e = ap (λ ys. x ∷ ys) e
      go false t e = absurd t

  filter_append : (f : A → Bool) (xs ys : List A) → filter f (xs ++ ys) ≡ filter f xs ++ filter f ys
  unfolding filter
  filter_append f [] ys = refl
  filter_append f (x ∷ xs) ys = go (f x) (filter_append f xs ys)
    where
      go : (b : Bool) → filter f (xs ++ ys) ≡ filter f xs ++ filter f ys → keep b x (filter f (xs ++ ys)) ≡ keep b x (filter f xs) ++ filter f ys
      go true e = ap (λ zs. x ∷ zs) e
      go false e = e

  -- the first of a filtered list passes both tests
  pub first_filter : (f g : A → Bool) (xs : List A) → first f (filter g xs) ≡ first (λ x. f x && g x) xs
  unfolding first filter
  first_filter f g [] = refl
  first_filter f g (x ∷ xs) = go (f x) (g x) refl (first_filter f g xs)
    where
      go : (b c : Bool) → f x ≡ b → first f (filter g xs) ≡ first (λ x. f x && g x) xs → first f (keep c x (filter g xs)) ≡ elim (b && c) [ true ↦ some x | false ↦ first (λ x. f x && g x) xs ]
      go true true p e = rw p refl
      go false true p e = rw p e
      go true false p e = e
      go false false p e = e

  pub any_mem : (f : A → Bool) {x : A} (xs : List A) → List-as-Memᴰ x xs → T (f x) → T (any f xs)
  unfolding any
  any_mem f [] m t = absurd (List·Memᴰ·not-nil m)
  any_mem f {x} (y ∷ ys) m t = go (f y) refl (List·Memᴰ·cases-cons m) (λ (k : List-as-Memᴰ x ys). any_mem f ys k t)
    where
      go : (b : Bool) → f y ≡ b → (x ≡ y) ⊎ List-as-Memᴰ x ys → (List-as-Memᴰ x ys → T (any f ys)) → T (b || any f ys)
      go true e k h = tt
      go false e (inl p) h = absurd (subst T (ap f p ∙ e) t)
      go false e (inr k) h = h k

  pub mem_any : (f : A → Bool) (xs : List A) → T (any f xs) → (x : A) × List-as-Memᴰ x xs × T (f x)
  unfolding any
  mem_any f [] t = absurd t
  mem_any f (y ∷ ys) t = go (f y) refl t (λ (k : T (any f ys)). mem_any f ys k)
    where
      go : (b : Bool) → f y ≡ b → T (b || any f ys) → (T (any f ys) → (x : A) × List-as-Memᴰ x ys × T (f x)) → (x : A) × List-as-Memᴰ x (y ∷ ys) × T (f x)
      go true e k h = (y, List·Memᴰ·head refl, subst T (sym e) tt)
      go false e k h = let r = h k in (r.0, List·Memᴰ·tail r.1, r.2)

  -- the first member that passes depends on the test's answers at the members only
  pub first_cong : (f g : A → Bool) (xs : List A) → ((x : A) → List-as-Memᴰ x xs → f x ≡ g x) → first f xs ≡ first g xs
  unfolding first
  first_cong f g [] h = refl
  first_cong f g (x ∷ xs) h = ap₂ (λ b o. elim b [ true ↦ some x | false ↦ o ]) (h x (List·Memᴰ·head refl)) (first_cong f g xs (λ y m. h y (List·Memᴰ·tail m)))

module _ {A B : Type 0} where
  pub map_mem : (f : A → B) {x : A} {xs : List A} → List-as-Memᴰ x xs → List-as-Memᴰ (f x) (map f xs)
  map_mem f (List·Memᴰ·head e) = List·Memᴰ·head (ap f e)
  map_mem f (List·Memᴰ·tail m) = List·Memᴰ·tail (map_mem f m)

  pub mem_map : (f : A → B) (y : B) (xs : List A) → List-as-Memᴰ y (map f xs) → (x : A) × List-as-Memᴰ x xs × (y ≡ f x)
  mem_map f y [] m = absurd (List·Memᴰ·not-nil m)
  mem_map f y (x ∷ xs) m = go (List·Memᴰ·cases-cons m) (λ (k : List-as-Memᴰ y (map f xs)). mem_map f y xs k)
    where
      go : (y ≡ f x) ⊎ List-as-Memᴰ y (map f xs) → (List-as-Memᴰ y (map f xs) → (z : A) × List-as-Memᴰ z xs × (y ≡ f z)) → (z : A) × List-as-Memᴰ z (x ∷ xs) × (y ≡ f z)
      go (inl e) h = (x, List·Memᴰ·head refl, e)
      go (inr k) h = let t = h k in (t.0, List·Memᴰ·tail t.1, t.2)

module _ {A B : Type 0} where
  pub pairs_mem : {x : A} {y : B} {xs : List A} {ys : List B} → List-as-Memᴰ x xs → List-as-Memᴰ y ys → List-as-Memᴰ (x, y) (pairs xs ys)
  unfolding pairs
  pairs_mem {y = y} {ys = ys} (List·Memᴰ·head {x = z} {xs = zs} e) k = Memᴰ·cast (ap (λ u. (u, y)) e) (Memᴰ·append-left (pairs zs ys) (map_mem (λ y. (z, y)) k))
  pairs_mem {ys = ys} (List·Memᴰ·tail {x = z} m) k = Memᴰ·append-right (map (λ y. (z, y)) ys) (pairs_mem m k)

  pub mem_pairs : (u : A × B) (xs : List A) (ys : List B) → List-as-Memᴰ u (pairs xs ys) → List-as-Memᴰ u.0 xs × List-as-Memᴰ u.1 ys
  unfolding pairs
  mem_pairs u [] ys m = absurd (List·Memᴰ·not-nil m)
  mem_pairs u (x ∷ xs) ys m = go (List·Memᴰ·append-cases (map (λ y. (x, y)) ys) m) (λ (k : List-as-Memᴰ u (pairs xs ys)). mem_pairs u xs ys k)
    where
      go : List-as-Memᴰ u (map (λ y. (x, y)) ys) ⊎ List-as-Memᴰ u (pairs xs ys) → (List-as-Memᴰ u (pairs xs ys) → List-as-Memᴰ u.0 xs × List-as-Memᴰ u.1 ys)
          → List-as-Memᴰ u.0 (x ∷ xs) × List-as-Memᴰ u.1 ys
      go (inl k) h = let t = mem_map (λ y. (x, y)) u ys k in (List·Memᴰ·head (ap (λ v. v.0) t.2), Memᴰ·cast (ap (λ v. v.1) t.2) t.1)
      go (inr k) h = let t = h k in (List·Memᴰ·tail t.0, t.1)

-- entries written from the first on stand over the old contents
pub over_sets : {A : Type 0} (values old : List A) → length values ≤ length old → sets old 0 values ≡ over values old
over_sets values old h = let e : 0 + length values ≡ length values = omega arith in rw e at (sets-eq values old 0 (omega arith))

module _ {A B : Type 0} where
  pub each_length : (f : A → List B) (n : ℕ) → ((x : A) → length (f x) ≤ n) → (xs : List A) → length (each f xs) ≤ n * length xs
  unfolding each
  each_length f n h [] = omega arith
  each_length f n h (x ∷ xs) = omega (arith, length-append (f x) (each f xs), h x, each_length f n h xs)

  pub each_mem : (f : A → List B) {x : A} {y : B} (xs : List A) → List-as-Memᴰ x xs → List-as-Memᴰ y (f x) → List-as-Memᴰ y (each f xs)
  unfolding each
  each_mem f {x} {y} [] m k = absurd (List·Memᴰ·not-nil m)
  each_mem f {x} {y} (z ∷ zs) m k = go (List·Memᴰ·cases-cons m) (λ (i : List-as-Memᴰ x zs). each_mem f zs i k)
    where
      go : (x ≡ z) ⊎ List-as-Memᴰ x zs → (List-as-Memᴰ x zs → List-as-Memᴰ y (each f zs)) → List-as-Memᴰ y (f z ++ each f zs)
      go (inl e) h = Memᴰ·append-left (each f zs) (subst (λ u. List-as-Memᴰ y (f u)) e k)
      go (inr i) h = Memᴰ·append-right (f z) (h i)

  pub mem_each : (f : A → List B) (y : B) (xs : List A) → List-as-Memᴰ y (each f xs) → (x : A) × List-as-Memᴰ x xs × List-as-Memᴰ y (f x)
  unfolding each
  mem_each f y [] m = absurd (List·Memᴰ·not-nil m)
  mem_each f y (z ∷ zs) m = go (List·Memᴰ·append-cases (f z) m) (λ (k : List-as-Memᴰ y (each f zs)). mem_each f y zs k)
    where
      go : List-as-Memᴰ y (f z) ⊎ List-as-Memᴰ y (each f zs) → (List-as-Memᴰ y (each f zs) → (x : A) × List-as-Memᴰ x zs × List-as-Memᴰ y (f x))
          → (x : A) × List-as-Memᴰ x (z ∷ zs) × List-as-Memᴰ y (f x)
      go (inl k) h = (z, List·Memᴰ·head refl, k)
      go (inr k) h = let t = h k in (t.0, List·Memᴰ·tail t.1, t.2)

module _ {A : Type 0} where
  entries_from : (xs : List A) (d : A) (a : ℕ) (f : ℕ → A) → ((i : ℕ) → f (a + i) ≡ get_or xs i d) → xs ≡ map f (range a (length xs))
  unfolding range
  entries_from [] d a f h = refl
  entries_from (x ∷ xs) d a f h = ap₂ ◌∷◌ (sym (ap f start ∙ h 0)) (entries_from xs d (suc a) f (λ i. ap f (later i) ∙ h (suc i)))
    where
      start : a ≡ a + 0
      start = omega arith

      later : (i : ℕ) → suc a + i ≡ a + suc i
      later i = omega arith

  -- a list is its entries in order
  pub entries : (xs : List A) (d : A) → xs ≡ map (λ i. get_or xs i d) (range 0 (length xs))
  entries xs d = entries_from xs d 0 (λ i. get_or xs i d) (λ i. ap (λ k. get_or xs k d) (whole i))
    where
      whole : (i : ℕ) → 0 + i ≡ i
      whole i = omega arith

module _ {A B : Type 0} where
  pub filter_map : (f : B → Bool) (g : A → B) (xs : List A) → filter f (map g xs) ≡ map g (filter (λ x. f (g x)) xs)
  unfolding filter
  filter_map f g [] = refl
  filter_map f g (x ∷ xs) = go (f (g x)) (filter_map f g xs)
    where
      go : (b : Bool) → filter f (map g xs) ≡ map g (filter (λ x. f (g x)) xs) → keep b (g x) (filter f (map g xs)) ≡ map g (keep b x (filter (λ x. f (g x)) xs))
      go true e = ap (λ ys. g x ∷ ys) e
      go false e = e

  -- what is found first in a list that a function gives
  pub first_map : (f : B → Bool) (g : A → B) (xs : List A) → first f (map g xs) ≡ through g (first (λ x. f (g x)) xs)
  unfolding first
  first_map f g [] = refl
  first_map f g (x ∷ xs) = go (f (g x)) (first_map f g xs)
    where
      go : (b : Bool) → first f (map g xs) ≡ through g (first (λ x. f (g x)) xs)
          → elim b [ true ↦ some (g x) | false ↦ first f (map g xs) ] ≡ through g (elim b [ true ↦ some x | false ↦ first (λ x. f (g x)) xs ])
      go true e = refl
      go false e = e

  -- a filtered and mapped list depends on the answers at the members only
  pub filter_map_cong : (f g : A → Bool) (p q : A → B) (xs : List A) → ((x : A) → List-as-Memᴰ x xs → (f x ≡ g x) × (p x ≡ q x)) → map p (filter f xs) ≡ map q (filter g xs)
  unfolding filter
  filter_map_cong f g p q [] h = refl
  filter_map_cong f g p q (x ∷ xs) h =
      let e = h x (List·Memᴰ·head refl) in
      rw e.0 (go (g x) e.1 (filter_map_cong f g p q xs (λ y m. h y (List·Memᴰ·tail m))))
    where
      go : (b : Bool) → p x ≡ q x → map p (filter f xs) ≡ map q (filter g xs) → map p (keep b x (filter f xs)) ≡ map q (keep b x (filter g xs))
      go true u v = ap₂ (λ y ys. y ∷ ys) u v
      go false u v = v

module _ {A B : Type 0} where
  -- pairs with the members that pass are the pairs whose second member passes
  pub pairs_filter : (f : B → Bool) (xs : List A) (ys : List B) → pairs xs (filter f ys) ≡ filter (λ u. f u.1) (pairs xs ys)
  unfolding pairs filter
  pairs_filter f [] ys = refl
  pairs_filter f (x ∷ xs) ys = ap₂ ◌++◌ (sym (filter_map (λ u. f u.1) (λ y. (x, y)) ys)) (pairs_filter f xs ys) ∙ sym (filter_append (λ u. f u.1) (map (λ y. (x, y)) ys) (pairs xs ys))
