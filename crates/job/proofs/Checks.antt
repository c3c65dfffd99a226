-- Laws of the list of checks: how the first refusal goes down a list, through an append, and through the kinds of a loop.
use Rattle.job.proofs.Prelude.{◌≡◌, refl, sym, ◌∙◌, ap, Bool, true, false, List, [], ◌∷◌, ◌++◌, ℕ, zero, suc, ◌+◌, ◌-◌, ◌≤◌, ◌<◌, ℕ_discrete, arith, ltb-false, ltb, Check, refuse_when, next, first_refusal, Refusal, each_kind, Ok, Err, passed, Checked}

pub next_stops : {a : Checked} (b : Checked) {r : Refusal} → a ≡ Err r → a ≡ next a b
next_stops b p = p ∙ sym (ap (λ x. next x b) p)

pub next_passes : {a : Checked} (b : Checked) → a ≡ passed → b ≡ next a b
next_passes b p = sym (ap (λ x. next x b) p)

pub next_passed : (a : Checked) → a ≡ next a passed
next_passed (Ok _) = refl
next_passed (Err r) = refl

next_assoc : (a b c : Checked) → next a (next b c) ≡ next (next a b) c
next_assoc (Ok _) b c = refl
next_assoc (Err r) b c = refl

-- both of two checks passed
pub passed_both : (a b : Checked) → next a b ≡ passed → (a ≡ passed) × (b ≡ passed)
passed_both (Ok _) b p = (refl, p)
passed_both (Err r) b p = (p, cc)

-- a check that passed: its condition does not hold
pub passed_false : (t : Bool) (r : Refusal) → refuse_when t r ≡ passed → t ≡ false
passed_false true r p = cc
passed_false false r p = refl

-- a check of a least number that passed
pub passed_least : (m n : ℕ) (r : Refusal) {a : Checked} → a ≡ refuse_when (ltb m n) r → a ≡ passed → n ≤ m
passed_least m n r e p = ltb-false m n (passed_false (ltb m n) r (sym e ∙ p))

-- a check that refuses decides for the list
pub check_stops : (t : Bool) (r : Refusal) (cs : List Check) {a : Checked} {x : Refusal} → a ≡ refuse_when t r → a ≡ Err x → a ≡ first_refusal ((t, r) ∷ cs)
unfolding first_refusal
check_stops t r cs e p = e ∙ next_stops (first_refusal cs) (sym e ∙ p)

-- a check that passes leaves the decision to the others
pub check_passes : (t : Bool) (r : Refusal) (cs : List Check) {a : Checked} → a ≡ refuse_when t r → a ≡ passed → first_refusal cs ≡ first_refusal ((t, r) ∷ cs)
unfolding first_refusal
check_passes t r cs e p = next_passes (first_refusal cs) (sym e ∙ p)

-- the last check decides
pub check_last : (t : Bool) (r : Refusal) {a : Checked} → a ≡ refuse_when t r → a ≡ first_refusal ((t, r) ∷ [])
unfolding first_refusal
check_last t r e = e ∙ next_passed (refuse_when t r)

-- two lists of checks, one after the other
pub first_append : (xs ys : List Check) → first_refusal (xs ++ ys) ≡ next (first_refusal xs) (first_refusal ys)
unfolding first_refusal
first_append [] ys = refl
first_append (c ∷ xs) ys = ap (next (refuse_when c.0 c.1)) (first_append xs ys) ∙ next_assoc (refuse_when c.0 c.1) (first_refusal xs) (first_refusal ys)

-- both lists passed
pub append_passed : (xs ys : List Check) → first_refusal (xs ++ ys) ≡ passed → (first_refusal xs ≡ passed) × (first_refusal ys ≡ passed)
append_passed xs ys p = passed_both (first_refusal xs) (first_refusal ys) (sym (first_append xs ys) ∙ p)

-- and the other way
pub passed_append : (xs ys : List Check) → first_refusal xs ≡ passed → first_refusal ys ≡ passed → first_refusal (xs ++ ys) ≡ passed
passed_append xs ys p q = first_append xs ys ∙ ap (λ a. next a (first_refusal ys)) p ∙ q

-- the first check passed, and the others
pub cons_passed : (t : Bool) (r : Refusal) (cs : List Check) → first_refusal ((t, r) ∷ cs) ≡ passed → (t ≡ false) × (first_refusal cs ≡ passed)
unfolding first_refusal
cons_passed t r cs p = let q = passed_both (refuse_when t r) (first_refusal cs) p in (passed_false t r q.0, q.1)

-- the checks of the kinds from i on: kind i's, then the others'
each_step : (f : ℕ → List Check) (i n : ℕ) → i < n → first_refusal (each_kind f i (n - i)) ≡ next (first_refusal (f i)) (first_refusal (each_kind f (i + 1) (n - (i + 1))))
unfolding each_kind
each_step f i n h =
    let e : n - i ≡ suc (n - (i + 1)) = omega arith in
    let s : suc i ≡ i + 1 = omega arith in
    ap (λ m. first_refusal (each_kind f i m)) e ∙ first_append (f i) (each_kind f (suc i) (n - (i + 1)))
    ∙ ap (λ k. next (first_refusal (f i)) (first_refusal (each_kind f k (n - (i + 1))))) s

-- where a loop over the kinds stands: the checks from kind i on decide
abbrev pub Decides : (ℕ → List Check) → ℕ → ℕ → Type 0
Decides f n i = first_refusal (each_kind f 0 n) ≡ first_refusal (each_kind f i (n - i))

-- it begins
pub begins : (f : ℕ → List Check) (n : ℕ) → Decides f n 0
begins f n = let e : n ≡ n - 0 = omega arith in ap (λ m. first_refusal (each_kind f 0 m)) e

-- kind i passes
pub passes : (f : ℕ → List Check) (i n : ℕ) {a : Checked} → i < n → Decides f n i → a ≡ first_refusal (f i) → a ≡ passed → Decides f n (i + 1)
passes f i n h inv e p = inv ∙ each_step f i n h ∙ ap (λ a. next a (first_refusal (each_kind f (i + 1) (n - (i + 1))))) (sym e ∙ p)

-- kind i is refused
pub stops : (f : ℕ → List Check) (i n : ℕ) {a : Checked} {r : Refusal} → i < n → Decides f n i → a ≡ first_refusal (f i) → a ≡ Err r → a ≡ first_refusal (each_kind f 0 n)
stops f i n h inv e p = e ∙ next_stops (first_refusal (each_kind f (i + 1) (n - (i + 1)))) (sym e ∙ p) ∙ sym (inv ∙ each_step f i n h)

-- all kinds passed
pub ends : (f : ℕ → List Check) (i n : ℕ) → n ≤ i → Decides f n i → passed ≡ first_refusal (each_kind f 0 n)
unfolding each_kind first_refusal
ends f i n h inv = let e : n - i ≡ 0 = omega arith in sym (inv ∙ ap (λ m. first_refusal (each_kind f i m)) e)

-- where all kinds passed, each did
pub each_passed : (f : ℕ → List Check) (i n k : ℕ) → first_refusal (each_kind f i n) ≡ passed → i ≤ k → k < i + n → first_refusal (f k) ≡ passed
unfolding each_kind
each_passed f i zero k p l h = absurd (omega arith)
each_passed f i (suc n) k p l h =
    let q = append_passed (f i) (each_kind f (suc i) n) p in
    go (ℕ_discrete k i) q.0 (λ (m : suc i ≤ k). each_passed f (suc i) n k q.1 m (omega arith))
  where
    go : Dec (k ≡ i) → first_refusal (f i) ≡ passed → (suc i ≤ k → first_refusal (f k) ≡ passed) → first_refusal (f k) ≡ passed
    go (yes e) p q = ap (λ j. first_refusal (f j)) e ∙ p
    go (no e) p q = q (omega arith)
