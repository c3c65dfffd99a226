-- What is known of a sizes block that passed its checks, of the sizes that were read from it, and of the answer.
use Rattle.sizes.proofs.Prelude.{◌≡◌, refl, sym, ◌∙◌, ap, ap₂, subst, false, List, [], ◌∷◌, ℕ, ◌+◌, ◌*◌, ◌≤◌, ◌<◌, arith, ltb-false, eqb-true, not-false, ltb, eqb, length, most_true_side, most_true_kerf, Job, InRange, SameKinds, first_refusal, Refusal, Choices, count_at, outside, each_kind, job_checks, record_of, read_of, block_job, passed_both, cons_passed, each_passed, entries_in, or_false, inside, read_in_range, answered, TrueSizes, TrueJob, true_plate_length_at, true_plate_width_at, true_kerf_at, true_length_at, true_width_at, true_sides_outside, kind_check, sizes_checks, sizes_of, sizes_read, true_job, block_true_job, true_verdict, true_read, TrueRange, Ok, Err, passed, Answer, JobRecord}
use Rattle.std.specs.Result.{IsErrAnd}
use Rattle.refusal.proofs.Results.{refused_answer, given_answer, before_passes, value_answered, refusal_answered}

-- two true sides of which none lies outside
both_inside : (x y : ℕ) → true_sides_outside x y ≡ false → ((1 ≤ x) × (x ≤ most_true_side)) × ((1 ≤ y) × (y ≤ most_true_side))
both_inside x y p = let q = or_false (outside 1 most_true_side x) (outside 1 most_true_side y) p in (inside 1 most_true_side x q.0, inside 1 most_true_side y q.1)

module _ (n : ℕ) (s : List ℕ) (p : first_refusal (sizes_checks n s) ≡ passed) where
  -- the plate and the kerf, and the checks of the kinds
  parts : (length s ≡ 12 + 8 * n) × (((1 ≤ true_plate_length_at s) × (true_plate_length_at s ≤ most_true_side)) × ((1 ≤ true_plate_width_at s) × (true_plate_width_at s ≤ most_true_side))) × (true_kerf_at s ≤ most_true_kerf) × (first_refusal (each_kind (λ i. kind_check s i ∷ []) 0 n) ≡ passed)
  unfolding sizes_checks
  parts =
      let a = cons_passed _ _ _ p in
      let b = cons_passed _ _ _ a.1 in
      let c = or_false (true_sides_outside (true_plate_length_at s) (true_plate_width_at s)) (ltb most_true_kerf (true_kerf_at s)) b.0 in
      (eqb-true (length s) (12 + 8 * n) (not-false (eqb (length s) (12 + 8 * n)) a.0), both_inside (true_plate_length_at s) (true_plate_width_at s) c.0, ltb-false most_true_kerf (true_kerf_at s) c.1, b.1)

  -- such a block has the bytes of its kinds
  pub sizes_bytes : length s ≡ 12 + 8 * n
  sizes_bytes = parts.0

  -- the sides of kind i
  sides : (i : ℕ) → i < n → ((1 ≤ true_length_at s i) × (true_length_at s i ≤ most_true_side)) × ((1 ≤ true_width_at s i) × (true_width_at s i ≤ most_true_side))
  sides i l = both_inside (true_length_at s i) (true_width_at s i) (cons_passed _ _ _ (each_passed (λ i. kind_check s i ∷ []) 0 n i parts.3 (omega arith) (omega (arith, l)))).0

  -- the true job of its sizes is in the ranges of true sizes
  pub sizes_in_range : (M : Job) → M.count ≡ n → n ≤ 64 → TrueRange (true_job M (sizes_of n s))
  unfolding sizes_of
  sizes_in_range M e h = record {
    plate_length = parts.1.0;
    plate_width = parts.1.1;
    kerfs = parts.2;
    lengths = λ i l. (let k : i < n = omega (arith, e, l) in subst (λ x. (1 ≤ x) × (x ≤ most_true_side)) (sym (entries_in (true_length_at s) n i h k)) (sides i k).0);
    widths = λ i l. (let k : i < n = omega (arith, e, l) in subst (λ x. (1 ≤ x) × (x ≤ most_true_side)) (sym (entries_in (true_width_at s) n i h k)) (sides i k).1);
  }

-- the answer on two blocks, by what reading each of them gave
module _ (s : List ℕ) (choices : Choices) (z : List ℕ) where
  -- a job that was read has at most 64 kinds
  pub counted : {a : Answer JobRecord} {j : JobRecord} → a ≡ read_of s choices → a ≡ Ok j → (j.count ≡ count_at s) × (count_at s ≤ 64)
  unfolding record_of
  counted e p = let q = answered s choices e p in (ap (λ j. j.count) q.1, (read_in_range s choices q.0).kinds.1)

  -- the sizes block was refused
  pub sizes_stop : {a : Answer JobRecord} {j : JobRecord} {m : Answer TrueSizes} {x : Refusal} {b : Answer TrueJob} → a ≡ read_of s choices → a ≡ Ok j → m ≡ sizes_read j.count z → m ≡ Err x
      → IsErrAnd b (λ y. y ≡ x) → b ≡ true_read s choices z
  sizes_stop e p g q h =
      let r = refusal_answered _ _ (sym (g ∙ ap (λ n. sizes_read n z) (counted e p).0) ∙ q) in
      refused_answer (true_verdict s choices z) _ _ (before_passes _ _ (answered s choices e p).0 ∙ r) h

  -- both passed
  pub both_pass : {a : Answer JobRecord} {j : JobRecord} {m : Answer TrueSizes} {y : TrueSizes} → a ≡ read_of s choices → a ≡ Ok j → m ≡ sizes_read j.count z → m ≡ Ok y
      → Ok (record { model = j; sizes = y }) ≡ true_read s choices z
  both_pass e p g q =
      let j = answered s choices e p in
      let y = value_answered _ _ (sym (g ∙ ap (λ n. sizes_read n z) (counted e p).0) ∙ q) in
      given_answer (true_verdict s choices z) _ (before_passes _ _ j.0 ∙ y.0) (ap₂ (λ j y. Ok (record { model = j; sizes = y })) j.1 y.1)

  module _ {a : Answer TrueJob} (e : a ≡ true_read s choices z) where
    -- what a caller knows from an answer that the two blocks passed
    pub record Given (t : TrueJob) : Type 0 where
      pub job_passed : first_refusal (job_checks s choices) ≡ passed
      pub sizes_passed : first_refusal (sizes_checks (count_at s) z) ≡ passed
      pub model_is : t.model ≡ record_of s choices
      pub sizes_are : t.sizes ≡ sizes_of (count_at s) z

    pub given : {t : TrueJob} → a ≡ Ok t → Given t
    given p =
        let q = value_answered (true_verdict s choices z) _ (sym e ∙ p) in
        let r = passed_both (first_refusal (job_checks s choices)) (first_refusal (sizes_checks (count_at s) z)) q.0 in
        record { job_passed = r.0; sizes_passed = r.1; model_is = ap (λ t. t.model) q.1; sizes_are = ap (λ t. t.sizes) q.1 }

    -- and from an answer that one was refused
    pub stopped : {x : Refusal} → a ≡ Err x → true_verdict s choices z ≡ Err x
    stopped p = refusal_answered (true_verdict s choices z) _ (sym e ∙ p)

  -- the ranges of the two jobs where the blocks passed
  pub ranges : first_refusal (job_checks s choices) ≡ passed → first_refusal (sizes_checks (count_at s) z) ≡ passed → InRange (block_job s choices) × TrueRange (block_true_job s choices z)
  unfolding record_of
  ranges p q = let r = read_in_range s choices p in (r, sizes_in_range (count_at s) z q (block_job s choices) refl r.kinds.1)

-- the true job has the model's kinds but for their sizes
pub true_kinds : (M : Job) (z : TrueSizes) → SameKinds (true_job M z) M
true_kinds M z = record { counts = refl; turns = λ i l. refl; prices = λ i l. refl; demands = λ i l. refl }
