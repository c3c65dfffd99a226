-- Values stored in the answer words: one after another, list after list, and at the front.
use Rattle.answer_words.proofs.Prelude.{◌≡◌, sym, ◌∙◌, ap, ap₂, List, [], ◌∷◌, ◌++◌, ℕ, suc, ◌+◌, ◌≤◌, ◌<◌, add-one, arith, length, get_or, set, take, drop, length-append, sets, sets-eq, paste, paste-suc, take-length, over, over_sets}

-- values stored one list after the other
pub sets_append : (xs zs old : List ℕ) (i : ℕ) → sets old i (xs ++ zs) ≡ sets (sets old i xs) (i + length xs) zs
sets_append [] zs old i = let e : i ≡ i + 0 = omega arith in ap (λ k. sets old k zs) e
sets_append (x ∷ xs) zs old i = let e : suc i + length xs ≡ i + suc (length xs) = omega arith in sets_append xs zs (set old i x) (suc i) ∙ ap (λ k. sets (sets (set old i x) (suc i) xs) k zs) e

-- one value more behind the values at the front
pub over_more : (values old : List ℕ) (at k : ℕ) → length values ≡ at → at < length old → set (over values old) at k ≡ over (values ++ (k ∷ [])) old
over_more values old at k e h =
    let f : at ≡ 0 + length values = omega (arith, e) in
    ap (λ xs. set xs at k) (sym (over_sets values old (omega (arith, e, h))))
    ∙ ap (λ i. set (sets old 0 values) i k) f
    ∙ sym (sets_append values (k ∷ []) old 0)
    ∙ over_sets (values ++ (k ∷ [])) old (omega (arith, e, h, length-append values (k ∷ [])))

-- values behind those at the front
pub behind_over : (front entries old new : List ℕ) → length front + length entries ≤ length old → new ≡ sets (over front old) (length front) entries → new ≡ over (front ++ entries) old
behind_over front entries old new h e =
    let at : length front ≡ 0 + length front = omega arith in
    e ∙ ap₂ (λ xs i. sets xs i entries) (sym (over_sets front old (omega (arith, h)))) at
    ∙ sym (sets_append front entries old 0)
    ∙ over_sets (front ++ entries) old (omega (arith, h, length-append front entries))

-- a copy with one value more
pub pasted_more : (old values new : List ℕ) (at i : ℕ) {v : ℕ} → new ≡ paste old at values i → v ≡ get_or values i 0 → at + i < length old → i < length values
    → set new (at + i) v ≡ paste old at values (i + 1)
pasted_more old values new at i p e h l = ap₂ (λ r x. set r (at + i) x) p e ∙ paste-suc old at values i 0 h l ∙ ap (λ k. paste old at values k) (sym (add-one i))

-- a copy of a whole list is a run of its stores
pub pasted : (old values : List ℕ) (at n : ℕ) → length values ≡ n → at + n ≤ length old → paste old at values n ≡ sets old at values
pasted old values at n e h =
    ap (λ k. paste old at values k) (sym e)
    ∙ ap (λ r. take at old ++ r ++ drop (at + length values) old) (take-length values)
    ∙ sym (sets-eq values old at (omega arith))
