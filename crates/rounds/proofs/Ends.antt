-- The end of a round: what the loops over the kinds say of the plan's copies, and the three tests in their order.
use Rattle.rounds.proofs.Prelude.{◌≡◌, refl, sym, ◌∙◌, ap, ap₂, subst, fun_ext, Bool, true, false, ◌||◌, not, List, map, ℕ, ◌-◌, ◌*◌, ◌≤◌, ◌<◌, dec_lt, arith, ltb-false, lt-ltb, le-ltb, eq-eqb, ne_eqb, ltb, eqb, length, get_or, take, List·getD-eq-default, length-take-le, get_or-take, range, only, any, Job, capacity, Refusal, JobRecord, entries, job_of, weight_in, weights_answer, entries_length, entries_in, entries_past, weights_passed, bound_held, factor, distance, adjusted, summed_squares, plan_copies, squares, gap, next_weight, within, pieces_in, Made, any_same, sum_same, Ok, Err, Answer, Option, None, Some, following, stops_with, first_refusal, weight_checks, passed}
use Rattle.refusal.proofs.Results.{value_answered, refusal_answered}

-- arrays whose first n entries agree
pub entries_same : (f g : ℕ → ℕ) (n : ℕ) → ((i : ℕ) → i < n → f i ≡ g i) → entries f n ≡ entries g n
unfolding entries
entries_same f g n h = ap (λ (e : ℕ → ℕ). map e (range 0 64)) (fun_ext (λ i. at i (dec_lt i n)))
  where
    at : (i : ℕ) → Dec (i < n) → only (ltb i n) (f i) ≡ only (ltb i n) (g i)
    at i (yes l) = ap (λ x. only (ltb i n) x) (h i l)
    at i (no l) = let e = le-ltb i n (omega arith) in ap (λ t. only t (f i)) e ∙ sym (ap (λ t. only t (g i)) e)

-- the weights of n kinds in an array, as a list of n, are the weights
pub listed : (f : ℕ → ℕ) (n : ℕ) → n ≤ 64 → ((i : ℕ) → n ≤ i → f i ≡ 0) → weight_in (take n (entries f n)) ≡ f
listed f n h z = fun_ext (λ i. at i (dec_lt i n))
  where
    at : (i : ℕ) → Dec (i < n) → get_or (take n (entries f n)) i 0 ≡ f i
    at i (yes l) = get_or-take n (entries f n) i 0 l ∙ entries_in f n i h l
    at i (no l) = List·getD-eq-default (take n (entries f n)) 0 (omega (arith, length-take-le n (entries f n) (omega (arith, entries_length f n)))) ∙ sym (z i (omega arith))

-- and so are the array's own
pub listed_all : (f : ℕ → ℕ) (n : ℕ) → n ≤ 64 → ((i : ℕ) → n ≤ i → f i ≡ 0) → weight_in (entries f n) ≡ f
listed_all f n h z = fun_ext (λ i. at i (dec_lt i n))
  where
    at : (i : ℕ) → Dec (i < n) → get_or (entries f n) i 0 ≡ f i
    at i (yes l) = entries_in f n i h l
    at i (no l) = entries_past f n i (omega arith) ∙ sym (z i (omega arith))

-- no weight past the kinds
pub next_past : (J : Job) (lower k : ℕ) (weight : ℕ → ℕ) (i : ℕ) → J.count ≤ i → next_weight J lower k weight i ≡ 0
unfolding next_weight
next_past J lower k weight i h = simp (le-ltb i J.count h)

-- weights that are as many as the kinds, of a capacity that is small enough
pub weights_good : (J : Job) (ws : List ℕ) → length ws ≡ J.count → capacity J (weight_in ws) ≤ 4095 → first_refusal (weight_checks J ws) ≡ passed
unfolding first_refusal
weights_good J ws h l = simp (eq-eqb (length ws) J.count h, le-ltb 4095 (capacity J (weight_in ws)) l)

-- a tested number that passed its limit, or not
by_test : {A : Type 0} (n : ℕ) → (ltb 4095 n ≡ true → A) → (n ≤ 4095 → A) → A
by_test {A} n p q = go (ltb 4095 n) refl
  where
    go : (b : Bool) → ltb 4095 n ≡ b → A
    go true e = p e
    go false e = q (ltb-false 4095 n e)

module _ (job : JobRecord) (lower round bound nodes : ℕ) (weights kinds operands copies : List ℕ) (made : Made (job_of job) lower round bound nodes (weight_in weights) kinds operands)
    (counted : (k : ℕ) → k < 64 → get_or copies k 0 ≡ pieces_in kinds operands nodes k) where
  copies_are : (i : ℕ) → i < job.count → get_or copies i 0 ≡ plan_copies (job_of job) (weight_in weights) i
  copies_are i h = let l : i < 64 = omega (arith, made.in_range.kinds.1) in counted i l ∙ made.copies i l

  -- the test of the demands
  within_is : {r : Bool} → r ≡ not (any (λ i. ltb (get_or job.demands i 0) (get_or copies i 0)) (range 0 job.count)) → within (job_of job) (plan_copies (job_of job) (weight_in weights)) ≡ r
  unfolding within
  within_is e = sym (e ∙ ap not (any_same _ _ job.count (λ i h. ap (ltb (get_or job.demands i 0)) (copies_are i h))))

  squares_are : summed_squares copies job.demands job.count ≡ squares (job_of job) (plan_copies (job_of job) (weight_in weights))
  unfolding squares
  squares_are = sum_same job.count _ _ (λ i h. ap (λ x. distance x (get_or job.demands i 0) * distance x (get_or job.demands i 0)) (copies_are i h))

  -- the gap is small enough to be multiplied
  pub gap_most : bound - lower ≤ 1000000000000
  gap_most = omega (arith, made.bound_is, (bound_held (job_of job) (weight_in weights) made.in_range).ceiling)

  -- the next weights
  pub next_are : {next : List ℕ} → next ≡ entries (λ i. adjusted (factor round) (bound - lower) (summed_squares copies job.demands job.count) (get_or weights i 0) (get_or copies i 0) (get_or job.demands i 0)) job.count
      → next ≡ entries (next_weight (job_of job) lower round (weight_in weights)) job.count
  unfolding next_weight
  next_are e = e ∙ entries_same _ _ job.count (λ i h.
      ap (λ c. adjusted (factor round) (bound - lower) (summed_squares copies job.demands job.count) (get_or weights i 0) c (get_or job.demands i 0)) (copies_are i h)
      ∙ ap₂ (λ b s. adjusted (factor round) (b - lower) s (get_or weights i 0) (plan_copies (job_of job) (weight_in weights) i) (get_or job.demands i 0)) made.bound_is squares_are
      ∙ sym (ap (λ t. only t (adjusted (factor round) (gap (job_of job) lower (weight_in weights)) (squares (job_of job) (plan_copies (job_of job) (weight_in weights))) (get_or weights i 0) (plan_copies (job_of job) (weight_in weights) i) (get_or job.demands i 0))) (lt-ltb i job.count h)))

  -- the array holds them
  pub next_room : {next : List ℕ} → next ≡ entries (λ i. adjusted (factor round) (bound - lower) (summed_squares copies job.demands job.count) (get_or weights i 0) (get_or copies i 0) (get_or job.demands i 0)) job.count
      → length (take job.count next) ≡ job.count
  next_room {next} f = length-take-le job.count next (omega (arith, ap length (next_are f), entries_length (next_weight (job_of job) lower round (weight_in weights)) job.count, made.in_range.kinds.1))

  -- what the round's end gives
  abbrev Turned : Option (List ℕ) → Type 0
  Turned o = o ≡ following (stops_with (job_of job) lower round (weight_in weights)) (entries (next_weight (job_of job) lower round (weight_in weights)) job.count)

  -- no weights where the run stops
  turned_stop : stops_with (job_of job) lower round (weight_in weights) ≡ true → Turned None
  turned_stop e = sym (ap (λ b. following b (entries (next_weight (job_of job) lower round (weight_in weights)) job.count)) e)

  module _ {r : Bool} (e : r ≡ not (any (λ i. ltb (get_or job.demands i 0) (get_or copies i 0)) (range 0 job.count))) where
    -- the plan keeps all demands
    pub turned_kept : r ≡ true → Turned None
    turned_kept p = turned_stop (ap (λ b. b || (eqb round 17 || ltb 4095 (capacity (job_of job) (next_weight (job_of job) lower round (weight_in weights))))) (within_is e ∙ p))

    module _ (p : r ≡ false) where
      module _ (q : round ≡ 17 → ⊥) {next : List ℕ} (f : next ≡ entries (λ i. adjusted (factor round) (bound - lower) (summed_squares copies job.demands job.count) (get_or weights i 0) (get_or copies i 0) (get_or job.demands i 0)) job.count)
          {a : Answer ℕ} (g : a ≡ weights_answer (job_of job) (take job.count next)) where
        tested : {b : Bool} → ltb 4095 (capacity (job_of job) (next_weight (job_of job) lower round (weight_in weights))) ≡ b → stops_with (job_of job) lower round (weight_in weights) ≡ b
        tested {b} h = ap₂ (λ x y. x || (y || ltb 4095 (capacity (job_of job) (next_weight (job_of job) lower round (weight_in weights))))) (within_is e ∙ p) (ne_eqb round 17 q) ∙ h

        next_weights_are : weight_in (take job.count next) ≡ next_weight (job_of job) lower round (weight_in weights)
        next_weights_are = ap (λ x. weight_in (take job.count x)) (next_are f) ∙ listed _ job.count made.in_range.kinds.1 (next_past (job_of job) lower round (weight_in weights))

        -- the next capacity is within 4,095
        pub turned_on : {c : ℕ} → a ≡ Ok c → Turned (Some next)
        turned_on h =
            let m = (weights_passed (job_of job) (take job.count next) (value_answered _ _ (sym g ∙ h)).0).1 in
            sym (ap₂ following (tested (le-ltb 4095 _ (subst (λ w. capacity (job_of job) w ≤ 4095) next_weights_are m))) (sym (next_are f)))

        -- it passes 4,095
        pub turned_full : {x : Refusal} → a ≡ Err x → Turned None
        turned_full h = turned_stop (tested (by_test _ (λ t. t) (λ m. (
            let k = weights_good (job_of job) (take job.count next) (next_room f) (subst (λ w. capacity (job_of job) w ≤ 4095) (sym next_weights_are) m) in
            let v = refusal_answered _ _ (sym g ∙ h) in
            absurd (let z : ◌≡◌ {A = ℕ} 0 1 = cc in omega arith)
            ))))
