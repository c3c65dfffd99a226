-- Second weights that are all 0: checks, answer and memory are those of the bound call of the first.
use Rattle.two_bound.proofs.Prelude.{◌≡◌, refl, sym, ◌∙◌, ap, ap₂, subst, Bool, true, false, not, ◌||◌, List, [], ◌∷◌, ℕ, arith, ltb-false, le-ltb, ltb, eqb, length, get_or, Length, Width, Job, capacity, normal_positions, figure_two, capacity_none, two_one, next, refuse_when, first_refusal, WeightCount, SecondCount, Capacity, CapacityProduct, TableShort, Choices, job_checks, block_job, weight_in, weight_checks, first_append, position, word, words_needed, Figures, Kept, pair_count, two_words, two_word, TwoFigures, BoundReport, Memory, list_check, list_after, TableAfter, wide_job, block_capacity, block_report, accept_verdict, bound_verdict, bound_answer, BoundLeaves, two_checks, two_storage_checks, two_report, answer_by, TwoAfter, TwoLeaves, weighed_verdict, two_verdict, block_figure, two_answer, with_second_none, TwoReport, Ok, Err, passed, Checked}
use Rattle.two_bound.proofs.Storage.{report_is}

-- the verdict of the checks of two lists, by their conditions
abbrev verdict_by : Bool → Bool → Bool → Bool → Checked
verdict_by one two heavy many = next (refuse_when (not one) WeightCount) (next (refuse_when (not two) SecondCount) (next (refuse_when heavy Capacity) (next (refuse_when many CapacityProduct) passed)))

alone : (one heavy many : Bool) → (heavy ≡ false → many ≡ false) → verdict_by one one (heavy || false) many ≡ next (refuse_when (not one) WeightCount) (next (refuse_when heavy Capacity) passed)
alone false heavy many f = refl
alone true true many f = refl
alone true false many f = ap (λ many. verdict_by true true false many) (f refl)

-- the report of the bound call with a second capacity of 0
abbrev none_beside : BoundReport → TwoReport
none_beside b = record { bound = b.bound; first_capacity = b.capacity; second_capacity = 0; length_count = b.length_count; columns = b.columns }

none_by : (v : Checked) (b : BoundReport) → answer_by v (none_beside b) ≡ with_second_none (answer_by v b)
none_by (Ok _) b = refl
none_by (Err r) b = refl

module _ (first second : List ℕ) (same : length second ≡ length first) (none : (i : ℕ) → weight_in second i ≡ 0) where
  one_checks : (J : Job) → first_refusal (two_checks J first second) ≡ first_refusal (weight_checks J first)
  unfolding first_refusal
  one_checks J =
      let q = capacity J (weight_in first) in
      ap₂ (λ n q'. verdict_by (eqb (length first) J.count) (eqb n J.count) (ltb 4095 q || ltb 4095 q') (ltb 65536 (pair_count q q'))) same (capacity_none J (weight_in first) (weight_in second) none)
      ∙ alone (eqb (length first) J.count) (ltb 4095 q) (ltb 65536 (pair_count q 0)) (λ e. le-ltb 65536 (pair_count q 0) (omega (arith, ltb-false 4095 q e)))

  -- the figures of the table
  one_figures : (J : Job) (q : ℕ) (xs : List ℕ) → TwoFigures J (figure_two J (weight_in first) (weight_in second)) q 0 xs → Figures J (weight_in first) q xs
  one_figures J q xs f a b c ha hb hc =
      let e : word J q a b c ≡ two_word J q 0 a b c 0 = omega arith in
      ap (λ i. get_or xs i 0) e ∙ f a b c 0 ha hb hc (omega arith) ∙ two_one J (weight_in first) (weight_in second) none (position J Length a) (position J Width b) c

  one_words : (J : Job) (q : ℕ) → two_words J q 0 ≡ words_needed J q
  one_words J q = omega arith

  one_table : (v : Checked) (J : Job) (q : ℕ) (old new : List ℕ) → TwoAfter v J (figure_two J (weight_in first) (weight_in second)) q 0 old new → TableAfter v J (weight_in first) q old new
  one_table (Ok _) J q old new t = (one_figures J q new t.0, subst (λ n. Kept n old new) (one_words J q) t.1)
  one_table (Err r) J q old new t = t

  module _ (s : List ℕ) (choices : Choices) (old : Memory) where
    -- the job, its figures and its first capacity
    abbrev J : Job
    J = wide_job s choices

    abbrev F : ℕ → ℕ → ℕ → ℕ → ℕ
    F = block_figure s choices first second

    abbrev q : ℕ
    q = block_capacity s choices first

    second_none : block_capacity s choices second ≡ 0
    second_none = capacity_none (block_job s choices) (weight_in first) (weight_in second) none

    before : weighed_verdict s choices first second ≡ accept_verdict s choices first
    before = first_append (job_checks s choices) (two_checks (block_job s choices) first second) ∙ ap (next (first_refusal (job_checks s choices))) (one_checks (block_job s choices))
        ∙ sym (first_append (job_checks s choices) (weight_checks (block_job s choices) first))

    verdict : two_verdict s choices first second old ≡ bound_verdict s choices first old
    verdict = ap₂ (λ v q'. next v (first_refusal (two_storage_checks J q q' old))) before second_none
        ∙ ap (λ k. next (accept_verdict s choices first) (first_refusal (list_check J (length old.lengths) (length old.widths) ∷ (ltb (length old.table) k, TableShort k) ∷ []))) (one_words J q)

    -- the answer is the bound call's
    pub one_answer : two_answer s choices first second old ≡ with_second_none (bound_answer s choices first old)
    one_answer = ap₂ answer_by verdict (ap (λ q'. two_report J F q q') second_none ∙ report_is (two_one J (weight_in first) (weight_in second) none J.plate.0 J.plate.1 q) refl refl refl refl)
        ∙ none_by (bound_verdict s choices first old) (block_report s choices first)

    -- and so is the memory
    pub one_memory : (new : Memory) → TwoLeaves (weighed_verdict s choices first second) J F q (block_capacity s choices second) old new → BoundLeaves s choices first old new
    one_memory new l = record {
      lengths = l.lengths ∙ ap (λ v. list_after (next v lists) (normal_positions J Length) old.lengths) before;
      widths = l.widths ∙ ap (λ v. list_after (next v lists) (normal_positions J Width) old.widths) before;
      table = one_table (bound_verdict s choices first old) J q old.table new.table
          (subst (λ q'. TwoAfter (bound_verdict s choices first old) J F q q' old.table new.table) second_none
          (subst (λ v. TwoAfter v J F q (block_capacity s choices second) old.table new.table) verdict l.table));
    }
      where
        lists : Checked
        lists = first_refusal (list_check J (length old.lengths) (length old.widths) ∷ [])
