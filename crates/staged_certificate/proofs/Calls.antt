-- What the staged certificate promises, from the verdicts of the job, the weights, the limit and the plan and from the staged bound of an
-- accepted job.
use Rattle.staged_certificate.proofs.Prelude.{◌≡◌, refl, sym, ◌∙◌, ap, ap₂, List, [], ◌∷◌, ℕ, ◌≤◌, arith, Job, profit, staged_bound, NoneStagedBetter, range_solid, any_on, staged_finer, staged_holds, first_refusal, Refusal, Choices, JobRecord, job_of, block_job, weight_in, acceptance_of, Acceptance, passed_both, read_in_range, accepted_both, accepted_in_range, Taken, refused_both, limit_check, Report, JobPasses, drawn_is, within_verdict, within_answer, within_is, staged_tree, check_met, BoundReport, StagedReport, Memory, wide_job, block_capacity, accept_verdict, limit_verdict, staged_checks, staged_block_report, StagedLeaves, Staged, plan_profit, compared, certificate_outcome, Certificate, certificate_says, best_among, gap_among, value_of, staged_plan_verdict, certify_staged_verdict, staged_certificate, EarnsStaged, CertifyStagedPromises, Ok, Err, passed, Checked, Answer, verdict_of, value_answered, refusal_answered, refused_answer, given_answer, before_refuses, before_passes}
use Rattle.std.specs.Result.{IsErrAnd}

module _ (s : List ℕ) (choices : Choices) (ws : List ℕ) (n : ℕ) (kinds operands : List ℕ) where
  abbrev J : Job
  J = block_job s choices

  -- the profit of the plan's tree, and the staged bound
  abbrev earned : ℕ
  earned = plan_profit J kinds operands

  abbrev most : ℕ
  most = staged_bound J (weight_in ws) n

  -- the tree of a plan that passed within the limit earns the plan's profit, and the report has it
  module _ (good : JobPasses s choices) {r : StagedReport} (w : within_answer J n kinds operands ≡ Ok r) where
    drawn : EarnsStaged J n kinds operands earned × (r.report.profit ≡ earned)
    drawn =
        let t = staged_tree J (read_in_range s choices good).kinds.1 n kinds operands r w in
        let e = ap (λ u. profit J u) (drawn_is J kinds operands t.0 t.1.plan.drawn) in
        ((t.0, t.1, e), ap (λ (r : Report). r.profit) t.2.own ∙ e)

  -- where no check refuses, it earns at most the staged bound, which no tree within the limit that keeps every demand passes
  compares : (m : Memory) → certify_staged_verdict s choices ws n kinds operands m ≡ passed → EarnsStaged J n kinds operands earned × (earned ≤ most) × NoneStagedBetter J n most
  compares m p =
      let a = passed_both (staged_plan_verdict s choices ws n kinds operands) (first_refusal (staged_checks (wide_job s choices) n (block_capacity s choices ws) m)) p in
      let b = passed_both (limit_verdict s choices ws n) (within_verdict J n kinds operands) a.0 in
      let c = passed_both (accept_verdict s choices ws) (first_refusal (limit_check n ∷ [])) b.0 in
      let good = (accepted_both s choices ws c.0).0 in
      let t = (drawn good (value_of _ (within_is J (read_in_range s choices good).kinds.1 n kinds operands ∙ b.1)).1).0 in
      let solid = range_solid J (accepted_in_range s choices ws c.0) in
      let none = staged_holds J solid (weight_in ws) n in
      (t, omega (arith, t.2, none t.0 (any_on J t.0 t.1.plan.drawn.on_plate) t.1.within t.1.plan.drawn.demands), (none, staged_finer J solid n most none))

  module _ (old : Memory) where
    -- the storage's verdict
    abbrev stored : Checked
    stored = first_refusal (staged_checks (wide_job s choices) n (block_capacity s choices ws) old)

    -- the answer and the memory give the rest
    promised : {new : Memory} (r : Answer Certificate) → r ≡ staged_certificate s choices ws n kinds operands old
        → StagedLeaves (staged_plan_verdict s choices ws n kinds operands) (wide_job s choices) (weight_in ws) n (block_capacity s choices ws) old new → CertifyStagedPromises s choices ws n kinds operands old new r
    promised r e l = record {
      answers = e;
      outcome = ap (λ x. certificate_outcome x) e ∙ certificate_says (certify_staged_verdict s choices ws n kinds operands old) earned most (λ p. (compares old p).1);
      memory = l;
      judged = (check_met s choices n kinds operands refl).1.1;
      best = λ m f. best_among (EarnsStaged J n kinds operands) (NoneStagedBetter J n) (certify_staged_verdict s choices ws n kinds operands old) earned most (compares old) m (sym e ∙ f);
      gap = λ m g f. gap_among (EarnsStaged J n kinds operands) (NoneStagedBetter J n) (certify_staged_verdict s choices ws n kinds operands old) earned most (compares old) m g (sym e ∙ f);
    }

    -- a refusal before the storage checks
    early : {x : Refusal} {r : Answer Certificate} → staged_plan_verdict s choices ws n kinds operands ≡ Err x → IsErrAnd r (λ y. y ≡ x) → CertifyStagedPromises s choices ws n kinds operands old old r
    early e p = promised _ (refused_answer _ _ _ (before_refuses _ _ e) p) (rw e (record { lengths = refl; widths = refl; table = refl }))

    -- the job or its weights are refused
    pub unaccepted : {a : Answer Acceptance} {x : Refusal} {r : Answer Certificate} → a ≡ acceptance_of s choices ws → a ≡ Err x → IsErrAnd r (λ y. y ≡ x) → CertifyStagedPromises s choices ws n kinds operands old old r
    unaccepted e f p = early (before_refuses _ _ (before_refuses _ _ (refused_both s choices ws e f))) p

    module _ {j : JobRecord} {q : ℕ} (t : Taken s choices ws j q) {v : Checked} (limited : v ≡ first_refusal (limit_check n ∷ [])) where
      limit_decides : limit_verdict s choices ws n ≡ v
      limit_decides = before_passes _ _ t.accepted ∙ sym limited

      -- the limit is refused
      pub limit_refused : {x : Refusal} {r : Answer Certificate} → v ≡ Err x → IsErrAnd r (λ y. y ≡ x) → CertifyStagedPromises s choices ws n kinds operands old old r
      limit_refused f p = early (before_refuses _ _ (limit_decides ∙ f)) p

      module _ (inside : v ≡ passed) {a : Answer StagedReport} (said : a ≡ within_answer (job_of j) n kinds operands) where
        good : JobPasses s choices
        good = (accepted_both s choices ws t.accepted).0

        said_is : a ≡ within_answer J n kinds operands
        said_is = said ∙ ap (λ j. within_answer (job_of j) n kinds operands) t.record_is

        walked : staged_plan_verdict s choices ws n kinds operands ≡ verdict_of a
        walked = before_passes _ _ (limit_decides ∙ inside) ∙ sym (ap verdict_of said_is ∙ within_is J (read_in_range s choices good).kinds.1 n kinds operands)

        -- the plan is refused
        pub plan_refused : {x : Refusal} {r : Answer Certificate} → a ≡ Err x → IsErrAnd r (λ y. y ≡ x) → CertifyStagedPromises s choices ws n kinds operands old old r
        plan_refused f p = early (walked ∙ ap verdict_of f) p

        module _ {report : StagedReport} (f : a ≡ Ok report) {new : Memory} {found : Answer BoundReport} (whole : Staged (wide_job s choices) (weight_in ws) n (block_capacity s choices ws) old new found) where
          left : StagedLeaves (staged_plan_verdict s choices ws n kinds operands) (wide_job s choices) (weight_in ws) n (block_capacity s choices ws) old new
          left = rw (walked ∙ ap verdict_of f) whole.memory

          storage_decides : certify_staged_verdict s choices ws n kinds operands old ≡ stored
          storage_decides = before_passes _ _ (walked ∙ ap verdict_of f)

          -- the storage is refused
          pub storage_refused : {x : Refusal} {r : Answer Certificate} → found ≡ Err x → IsErrAnd r (λ y. y ≡ x) → CertifyStagedPromises s choices ws n kinds operands old new r
          storage_refused e p = promised _ (refused_answer _ _ _ (storage_decides ∙ refusal_answered stored _ (sym whole.answer ∙ e)) p) left

          module _ {x : BoundReport} (e : found ≡ Ok x) where
            -- the report behind a bound that was answered, and the plan's
            reported : (stored ≡ passed) × (x.bound ≡ most)
            reported = let v = value_answered stored (staged_block_report s choices ws n) (sym whole.answer ∙ e) in (v.0, ap (λ (y : BoundReport). y.bound) v.1)

            profit_is : report.report.profit ≡ earned
            profit_is = (drawn good (sym said_is ∙ f)).1

            -- no check refuses
            pub certified : {c : Certificate} → c ≡ compared report.report.profit x.bound → CertifyStagedPromises s choices ws n kinds operands old new (Ok c)
            certified h = promised _ (given_answer _ _ (storage_decides ∙ reported.0) (ap Ok (h ∙ ap₂ compared profit_is reported.1))) left

            -- the profit is at most the bound answered
            pub profit_most : report.report.profit ≤ x.bound
            profit_most = omega (arith, profit_is, reported.1, (compares old (storage_decides ∙ reported.0)).1)
