-- The operands of a plan block, read one after the other.
use Rattle.plan.proofs.Prelude.{◌≡◌, ◌∙◌, sym, ap, ap₂, List, [], ◌∷◌, ◌++◌, map, ℕ, zero, suc, ◌+◌, ◌*◌, ◌<◌, arith, add-one, length, take, set, take-suc-set, range, u16_at, plan_count, plan_operands}

-- a run of numbers with one more
values_more : (f : ℕ → ℕ) (a n : ℕ) → map f (range a (suc n)) ≡ map f (range a n) ++ (f (a + n) ∷ [])
unfolding range
values_more f a zero = ap (λ k. f k ∷ []) (let e : a ≡ a + 0 = omega arith in e)
values_more f a (suc n) = ap (λ l. f a ∷ l) (values_more f (suc a) n ∙ ap (λ k. map f (range (suc a) n) ++ (f k ∷ [])) (let e : suc a + n ≡ a + suc n = omega arith in e))

-- one entry more, by a store at the next place
pub entry_more : (f : ℕ → ℕ) (i : ℕ) (l : List ℕ) (v : ℕ) → i < length l → v ≡ f i → take i l ≡ map f (range 0 i) → take (i + 1) (set l i v) ≡ map f (range 0 (i + 1))
entry_more f i l v h e p =
    rw add-one (take-suc-set l i v h ∙ ap₂ (λ x y. x ++ (y ∷ [])) p (e ∙ ap f (let z : i ≡ 0 + i = omega arith in z)) ∙ sym (values_more f 0 i))

-- all entries, where the count is the block's
pub entries_read : (p : List ℕ) (n i : ℕ) (l : List ℕ) → n ≡ plan_count p → i ≡ n → take i l ≡ map (λ k. u16_at p (2 + n + 2 * k)) (range 0 i) → take n l ≡ plan_operands p
unfolding plan_operands
entries_read p n i l e h q = sym (ap (λ k. take k l) h) ∙ q ∙ ap (λ m. map (λ k. u16_at p (2 + n + 2 * k)) (range 0 m)) h ∙ ap (λ m. map (λ k. u16_at p (2 + m + 2 * k)) (range 0 m)) e
