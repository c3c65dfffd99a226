-- What the check of a model promises follows from its verdict.
use Rattle.model.proofs.Prelude.{◌≡◌, refl, sym, ◌∙◌, ap, ap₂, subst, Bool, true, false, not, List, [], ℕ, arith, T, Length, Width, Job, InRange, SolidKinds, Relaxes, ChainsFit, chains_fit, relaxed_none, relaxed_staged, chains_test, tested_relaxes, refuse_when, next, first_refusal, outcome_by, Refusal, NoModel, Choices, count_at, job_checks, job_of, block_job, passed_both, next_passes, cons_passed, TrueJob, Answer, Ok, sizes_checks, sizes_of, true_job, block_true_job, true_verdict, true_read, TrueRange, given, stopped, ranges, true_kinds, model_checks, model_verdict, StandsFor, ModelPromises, Err, passed, Checked}

-- a test that does not fail, as a fact, and back
passed_test : (t : Bool) → not t ≡ false → T t
passed_test true p = tt
passed_test false p = absurd (subst T p tt)

test_passed : (t : Bool) → T t → t ≡ true
test_passed true p = refl
test_passed false p = absurd p

module _ (J M : Job) where
  -- where check 33 passes, both tests do
  pub both_tests : first_refusal (model_checks J M) ≡ passed → T (chains_fit J M Length) × T (chains_fit J M Width)
  unfolding model_checks
  both_tests p =
      let a = cons_passed _ _ _ p in
      let b = cons_passed _ _ _ a.1 in
      (passed_test (chains_fit J M Length) a.0, passed_test (chains_fit J M Width) b.0)

  -- and the chains fit
  pub checked_fit : first_refusal (model_checks J M) ≡ passed → ChainsFit J M
  checked_fit p = fit
    where
      fit : ChainsFit J M
      fit Length = (chains_test J M Length).0 (both_tests p).0
      fit Width = (chains_test J M Width).0 (both_tests p).1

  -- and the other way
  pub fit_checked : ChainsFit J M → first_refusal (model_checks J M) ≡ passed
  unfolding model_checks first_refusal
  fit_checked h =
      let l = test_passed (chains_fit J M Length) ((chains_test J M Length).1 (h Length)) in
      let w = test_passed (chains_fit J M Width) ((chains_test J M Width).1 (h Width)) in
      ap₂ (λ a b. next (refuse_when (not a) (NoModel 0)) (next (refuse_when (not b) (NoModel 1)) passed)) l w

-- a model in range stands for the true job where check 33 passes
pub checked_stands : (M J : Job) → InRange M → Relaxes J M → StandsFor M J
checked_stands M J r h = record { none_better = λ n none. relaxed_none J M h solid n none; none_staged = λ limit n none. relaxed_staged J M h solid limit n none }
  where
    solid : SolidKinds M
    solid i l = (omega (arith, (r.lengths i l).0), omega (arith, (r.widths i l).0))

module _ (s : List ℕ) (choices : Choices) (z : List ℕ) where
  abbrev M : Job
  M = block_job s choices

  abbrev J : Job
  J = block_true_job s choices z

  abbrev tests : Checked
  tests = first_refusal (model_checks J M)

  -- the promises, from the verdict
  pub model_promised : {r : Checked} → r ≡ model_verdict s choices z → ModelPromises s choices z r
  model_promised e = record {
    answers = e;
    outcome = ap (λ v. outcome_by v []) e;
    directions = λ d. chains_test J M d;
    exactly = λ v. (λ p. checked_fit J M (passed_both (true_verdict s choices z) tests (sym e ∙ p)).1, λ h. e ∙ sym (next_passes tests v) ∙ fit_checked J M h);
    stands = λ p. (let a = passed_both (true_verdict s choices z) tests (sym e ∙ p) in
        let b = passed_both (first_refusal (job_checks s choices)) (first_refusal (sizes_checks (count_at s) z)) a.0 in
        let t = both_tests J M a.1 in
        checked_stands M J (ranges s choices z b.0 b.1).0 (tested_relaxes J M (true_kinds M (sizes_of (count_at s) z)) t.0 t.1));
  }

  module _ {a : Answer TrueJob} (e : a ≡ true_read s choices z) where
    -- one of the blocks was refused
    pub model_stops : {x : Refusal} {r : Checked} → a ≡ Err x → r ≡ Err x → r ≡ model_verdict s choices z
    model_stops p h = h ∙ sym (ap (λ v. next v tests) (stopped s choices z e p))

    module _ {t : TrueJob} (p : a ≡ Ok t) where
      -- both passed: the ranges of the two jobs
      pub given_ranges : InRange (job_of t.model) × TrueRange (true_job (job_of t.model) t.sizes)
      given_ranges =
          let g = given s choices z e p in
          rw (g.model_is, g.sizes_are) (ranges s choices z g.job_passed g.sizes_passed)

      -- and check 33 decides
      pub model_decides : {r : Checked} → r ≡ first_refusal (model_checks (true_job (job_of t.model) t.sizes) (job_of t.model)) → r ≡ model_verdict s choices z
      model_decides f =
          let g = given s choices z e p in
          let v : true_verdict s choices z ≡ passed = ap (λ v. next v (first_refusal (sizes_checks (count_at s) z))) g.job_passed ∙ g.sizes_passed in
          f ∙ ap₂ (λ j y. first_refusal (model_checks (true_job (job_of j) y) (job_of j))) g.model_is g.sizes_are ∙ next_passes tests v
