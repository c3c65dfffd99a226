-- What certify promises, from the verdicts of the job, the weights and the plan and from the bound of an accepted job.
use Rattle.certificate.proofs.Prelude.{◌≡◌, refl, sym, ◌∙◌, ap, ap₂, List, ℕ, ◌≤◌, arith, bound_of, first_refusal, Refusal, Choices, JobRecord, job_of, block_job, weight_in, accept_verdict, accepted_both, Taken, plan_answer, Memory, Leaves, memory_checks, wide_job, block_capacity, block_report, Bounded, BoundReport, plan_verdict, certify_verdict, certificate_of, compared, plan_profit, certificate_outcome, CertifyPromises, Certificate, Ok, Err, passed, Checked, Answer, verdict_of, Report, value_answered, refusal_answered, refused_answer, given_answer, before_refuses, before_passes}
use Rattle.std.specs.Result.{IsErrAnd}
use Rattle.certificate.proofs.Comparison.{certificate_says}
use Rattle.certificate.proofs.Promises.{drawn_most, profit_is, compares, plans_judged, certificates_hold}

module _ (s : List ℕ) (choices : Choices) (ws kinds operands : List ℕ) (old : Memory) where
  -- the answer and the memory give the rest
  promised : {new : Memory} (r : Answer Certificate) → r ≡ certificate_of s choices ws kinds operands old → Leaves (plan_verdict s choices ws kinds operands) (wide_job s choices) (weight_in ws) (block_capacity s choices ws) old new
      → CertifyPromises s choices ws kinds operands old new r
  promised r e l =
      let hold = certificates_hold s choices ws kinds operands old in
      record {
        answers = e;
        outcome = ap (λ x. certificate_outcome x) e ∙ certificate_says (certify_verdict s choices ws kinds operands old) _ _ (λ p. (compares s choices ws kinds operands old p).1);
        memory = l;
        judged = plans_judged s choices kinds operands;
        best = λ n f. hold.0 n (sym e ∙ f);
        gap = λ n g f. hold.1 n g (sym e ∙ f);
      }

  -- a refusal before the storage checks
  early : {x : Refusal} {r : Answer Certificate} → plan_verdict s choices ws kinds operands ≡ Err x → IsErrAnd r (λ y. y ≡ x) → CertifyPromises s choices ws kinds operands old old r
  early e p = promised _ (refused_answer _ _ _ (before_refuses _ _ e) p) (rw e (record { lengths = refl; widths = refl; table = refl }))

  -- the job or its weights are refused
  pub unaccepted : {x : Refusal} → accept_verdict s choices ws ≡ Err x → CertifyPromises s choices ws kinds operands old old (Err x)
  unaccepted e = early (before_refuses _ _ e) refl

  module _ {j : JobRecord} {q : ℕ} (t : Taken s choices ws j q) {a : Answer Report} (said : a ≡ plan_answer (job_of j) kinds operands) where
    said_is : a ≡ plan_answer (block_job s choices) kinds operands
    said_is = said ∙ ap (λ j. plan_answer (job_of j) kinds operands) t.record_is

    walked : plan_verdict s choices ws kinds operands ≡ verdict_of a
    walked = before_passes _ _ t.accepted ∙ ap verdict_of (sym said_is)

    -- the plan is refused
    pub plan_refused : {x : Refusal} → a ≡ Err x → CertifyPromises s choices ws kinds operands old old (Err x)
    plan_refused f = early (walked ∙ ap verdict_of f) refl

    module _ {report : Report} (f : a ≡ Ok report) {new : Memory} {floors : List ℕ} {found : Answer BoundReport} (whole : Bounded (wide_job s choices) (weight_in ws) (block_capacity s choices ws) old new floors found) where
      abbrev stored : Checked
      stored = first_refusal (memory_checks (wide_job s choices) (block_capacity s choices ws) old)

      left : Leaves (plan_verdict s choices ws kinds operands) (wide_job s choices) (weight_in ws) (block_capacity s choices ws) old new
      left = rw (walked ∙ ap verdict_of f) whole.memory

      storage_decides : certify_verdict s choices ws kinds operands old ≡ stored
      storage_decides = before_passes _ _ (walked ∙ ap verdict_of f)

      -- the storage is refused
      pub storage_refused : {x : Refusal} {r : Answer Certificate} → found ≡ Err x → IsErrAnd r (λ y. y ≡ x) → CertifyPromises s choices ws kinds operands old new r
      storage_refused e p = promised _ (refused_answer _ _ _ (storage_decides ∙ refusal_answered stored _ (sym whole.answer ∙ e)) p) left

      module _ {x : BoundReport} (e : found ≡ Ok x) where
        -- the report behind a bound that was answered, and the plan's
        reported : (stored ≡ passed) × (x.bound ≡ bound_of (block_job s choices) (weight_in ws))
        reported = let v = value_answered stored (block_report s choices ws) (sym whole.answer ∙ e) in (v.0, ap (λ (y : BoundReport). y.bound) v.1)

        earned : report.profit ≡ plan_profit (block_job s choices) kinds operands
        earned = profit_is s choices kinds operands (accepted_both s choices ws t.accepted).0 (sym said_is ∙ f)

        pub certified : {c : Certificate} → c ≡ compared report.profit x.bound → CertifyPromises s choices ws kinds operands old new (Ok c)
        certified h = promised _ (given_answer _ _ (storage_decides ∙ reported.0) (ap Ok (h ∙ ap₂ compared earned reported.1))) left

        -- the profit is at most the bound answered
        pub profit_most : report.profit ≤ x.bound
        profit_most = omega (arith, earned, reported.1, drawn_most s choices kinds operands (accepted_both s choices ws t.accepted).0 (ap verdict_of (sym said_is ∙ f)) ws)
