-- The totals of the kinds over the rack, with a plan's own copies added kind after kind.
use Rattle.rack.proofs.Prelude.{◌≡◌, ◌∙◌, refl, sym, ap, List, ℕ, zero, suc, ◌+◌, ◌≤◌, ◌<◌, ℕ_discrete, add-one, arith, ltb, length, get_or, set, length-set, get_or-set_same, get_or-set_other, ltb-false, Check, refuse_when, first_refusal, RackDemand, each_kind, Decides, begins, passes, stops, ends, check_last, cons_passed, each_passed, no_pass, total_check, with_own, TotalsAfter, Refusal, IsErrAnd, handed, Checked, Err, passed}

module _ (totals own : List ℕ) where
  pub with_own_length : (n : ℕ) → length (with_own totals own n) ≡ length totals
  unfolding with_own
  with_own_length zero = refl
  with_own_length (suc n) = length-set (with_own totals own n) n (get_or totals n 0 + get_or own n 0) ∙ with_own_length n

  -- a kind past those added
  pub with_own_past : (n j : ℕ) → n ≤ j → get_or (with_own totals own n) j 0 ≡ get_or totals j 0
  unfolding with_own
  with_own_past zero j h = refl
  with_own_past (suc n) j h = get_or-set_other (with_own totals own n) n j (get_or totals n 0 + get_or own n 0) 0 (λ e. omega arith) ∙ with_own_past n j (omega arith)

  -- a kind that is added
  pub with_own_in : (n j : ℕ) → j < n → n ≤ length totals → get_or (with_own totals own n) j 0 ≡ get_or totals j 0 + get_or own j 0
  unfolding with_own
  with_own_in zero j h l = absurd (omega arith)
  with_own_in (suc n) j h l = go (ℕ_discrete j n) (λ (k : j < n). with_own_in n j k (omega arith))
    where
      go : Dec (j ≡ n) → (j < n → get_or (with_own totals own n) j 0 ≡ get_or totals j 0 + get_or own j 0) → get_or (with_own totals own (suc n)) j 0 ≡ get_or totals j 0 + get_or own j 0
      go (yes e) ih = rw e (get_or-set_same (with_own totals own n) n (get_or totals n 0 + get_or own n 0) 0 (omega (arith, with_own_length n)))
      go (no e) ih = get_or-set_other (with_own totals own n) n j (get_or totals n 0 + get_or own n 0) 0 e ∙ ih (omega arith)

-- where the loop over the kinds stands before kind j
pub record Adding (count : ℕ) (demands : List ℕ) (plate : ℕ) (totals own now : List ℕ) (j : ℕ) : Type 0 where
  pub inside : j ≤ count
  pub decides : Decides (total_check (λ j. get_or demands j 0) plate totals own) count j
  pub added : now ≡ with_own totals own j

module _ (count : ℕ) (demands : List ℕ) (plate : ℕ) (totals own : List ℕ) where
  abbrev f : ℕ → List Check
  f = total_check (λ j. get_or demands j 0) plate totals own

  pub adding_begins : Adding count demands plate totals own totals 0
  unfolding with_own
  adding_begins = record { inside = omega arith; decides = begins f count; added = refl }

  module _ {now : List ℕ} {j : ℕ} (g : Adding count demands plate totals own now j) where
    -- the kind's total is still that of the plates before
    here : get_or now j 0 ≡ get_or totals j 0
    here = ap (λ l. get_or l j 0) g.added ∙ with_own_past totals own j j (omega arith)

    decided : {v : Checked} → v ≡ refuse_when (ltb (get_or demands j 0) (get_or now j 0 + get_or own j 0)) (RackDemand plate) → v ≡ first_refusal (f j)
    decided e = check_last _ _ (e ∙ ap (λ t. refuse_when (ltb (get_or demands j 0) (t + get_or own j 0)) (RackDemand plate)) here)

    pub adding_stops : j < count → {v : Checked} {x : Refusal} → v ≡ refuse_when (ltb (get_or demands j 0) (get_or now j 0 + get_or own j 0)) (RackDemand plate) → v ≡ Err x → (r : Checked) → IsErrAnd r (λ y. y ≡ x) → TotalsAfter count demands plate totals own now r
    adding_stops l e p r h = let q = handed r h in record { decided = q ∙ sym p ∙ stops f j count l g.decides (decided e) p; added = λ z. no_pass (sym q ∙ z) }

    pub adding_goes : j < count → {v : Checked} → v ≡ refuse_when (ltb (get_or demands j 0) (get_or now j 0 + get_or own j 0)) (RackDemand plate) → v ≡ passed → Adding count demands plate totals own (set now j (get_or now j 0 + get_or own j 0)) (j + 1)
    unfolding with_own
    adding_goes l e p =
        record {
          inside = omega arith;
          decides = passes f j count l g.decides (decided e) p;
          added = ap (λ t. set now j (t + get_or own j 0)) here ∙ ap (λ l. set l j (get_or totals j 0 + get_or own j 0)) g.added ∙ ap (with_own totals own) (sym (add-one j));
        }

    pub adding_ends : count ≤ j → TotalsAfter count demands plate totals own now passed
    adding_ends h = let e : j ≡ count = omega (arith, g.inside) in record { decided = ends f j count h g.decides; added = λ z. g.added ∙ ap (with_own totals own) e }

-- where 29 passes, no kind's total passes its demand
pub totals_within : (count : ℕ) (demand : ℕ → ℕ) (plate : ℕ) (totals own : List ℕ) → first_refusal (each_kind (total_check demand plate totals own) 0 count) ≡ passed
    → (j : ℕ) → j < count → get_or totals j 0 + get_or own j 0 ≤ demand j
totals_within count demand plate totals own p j l = ltb-false (demand j) (get_or totals j 0 + get_or own j 0) (cons_passed _ _ _ (each_passed (total_check demand plate totals own) 0 count j p (omega arith) (omega (arith, l)))).0
