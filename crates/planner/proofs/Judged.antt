-- Reading, the checks of a plan, neat plans and the certificates: what the inner call promises gives its instance.
use Rattle.planner.proofs.Prelude.{◌≡◌, refl, sym, ◌∙◌, ap, ap₂, Bool, true, false, ◌||◌, Option, none, some, List, [], ◌∷◌, ℕ, ◌≤◌, arith, ltb, eqb, length, le-ltb, Tree, Piece, node_count, kinds_of, operands_of, neat_of, Job, capacity, profit, staged_bound, stages_paths, by_check, next, first_refusal, Refusal, PlanLong, Choices, job_checks, read_of, record_of, block_job, weight_in, Accepted, passed_both, next_passed, read_in_range, accepted_in_range, limit_check, path_checks, Report, proceed, plan_answer, tree_in, arrays_answer, block_answer, plan_block_answer, block_checks, plan_kinds, plan_operands, plans_checked, within_verdict, staged_check_answer, staged_check_verdict, Memory, accept_verdict, bound_held, Certificate, refused_as, outcome_by, tree_report, one_weight, within_stages, bound_in, bound_of, plan_verdict, Answers, Arrays, storage_checks, nodes_check, list_after, job_values, plan_values, staged_values, neat_values, certificate_values, compared, reads, limit_checks, ReadPromises, PlanPromises, CheckPromises, BlockPromises, StagedCheckPromises, NeatPromises, CertifyPromises, Ok, Err, passed, Checked, Answer, JobRecord, StagedReport, verdict_of, answer_by, ◌-◌, outcome_of, certify_verdict}
use Rattle.cutting.specs.Job as old_job
use Rattle.staged_bound.specs.Staged as staged_call
use Rattle.certificate.specs.Certificate as certify
use Rattle.certificate.specs.Promises.{CertifyPromises as TodayCertify}
use Rattle.staged_certificate.specs.Certificate as staged_certify
use Rattle.neat.specs.Neat as neat
use Rattle.promises.specs.Job.{stages}
use Rattle.staged_plan.specs.Check.{within_answer, staged_of}
use Rattle.cutting.specs.Shares.{stages as staged_stages}
use Rattle.planner.proofs.Alike.{alike_new}
use Rattle.planner.proofs.Held.{bound_is, staged_is}
use Rattle.planner.proofs.Lent.{answers_by}
use Rattle.planner.proofs.Bounds.{one_stored, one_fills, staged_fills}
use Rattle.planner.proofs.Checks.{checks_new, verdict_none, verdict_some, reported, plan_is}

-- what two verdicts that are the same give where they pass, and else their refusal
by_same : {A : Type 0} (v w : Checked) (a b : A) (g : Refusal → A) → v ≡ w → (w ≡ passed → a ≡ b) → by_check v a g ≡ by_check w b g
by_same v w a b g e f = ap (λ v. by_check v a g) e ∙ go w refl
  where
    go : (u : Checked) → w ≡ u → by_check u a g ≡ by_check u b g
    go (Ok _) h = f h
    go (Err x) h = refl

-- what follows a check needs to be the same only where it passes
pub next_same : (v p q : Checked) → (v ≡ passed → p ≡ q) → next v p ≡ next v q
next_same v p q f = go v refl
  where
    go : (u : Checked) → v ≡ u → next u p ≡ next u q
    go (Ok _) h = f h
    go (Err x) h = refl

pub read_new : (s : List ℕ) (choices : Choices) (r : Answer JobRecord) → r ≡ read_of s choices → ReadPromises s choices r
read_new s choices r e = (answers_by job_values (first_refusal (job_checks s choices)) (record_of s choices) r e, alike_new s choices)

module _ (s : List ℕ) (choices : Choices) where
  abbrev J : Job
  J = block_job s choices

  -- a job that was read has at most 64 kinds
  few : first_refusal (job_checks s choices) ≡ passed → J.count ≤ 64
  few p = (read_in_range s choices p).kinds.1

  few_reads : (limit : Option ℕ) → reads limit s choices ≡ passed → J.count ≤ 64
  few_reads limit p = few (passed_both (first_refusal (job_checks s choices)) (first_refusal (limit_checks limit)) p).0

  reads_none : reads none s choices ≡ first_refusal (job_checks s choices)
  unfolding first_refusal
  reads_none = sym (next_passed (first_refusal (job_checks s choices)))

  module _ (before : Checked) (kinds operands : List ℕ) (f : before ≡ passed → J.count ≤ 64) (r : Answer Report) where
    pub plan_new : r ≡ proceed before (plan_answer J kinds operands) → PlanPromises before J kinds operands r
    plan_new e = (
      answers_by plan_values (next before (plan_verdict J none kinds operands)) (tree_report J (tree_in kinds operands)) r (e ∙ go before refl),
      checks_new before J f none kinds operands,
    )
      where
        go : (v : Checked) → before ≡ v → proceed v (plan_answer J kinds operands) ≡ by_check (next v (plan_verdict J none kinds operands)) (Ok (tree_report J (tree_in kinds operands))) Err
        go (Ok _) h = plan_is J (f h) kinds operands
        go (Err x) h = refl

  pub check_new : (kinds operands : List ℕ) (r : Answer Report) → r ≡ arrays_answer s choices kinds operands → CheckPromises s choices kinds operands r
  check_new kinds operands r e = plan_new (reads none s choices) kinds operands (few_reads none) r (e ∙ ap (λ v. proceed v (plan_answer J kinds operands)) (sym reads_none))

  proceed_twice : (v w : Checked) (a : Answer Report) → proceed v (proceed w a) ≡ proceed (next v w) a
  proceed_twice (Ok _) w a = refl
  proceed_twice (Err x) w a = refl

  pub block_new : (p : List ℕ) (r : Answer Report) → r ≡ block_answer s choices p → BlockPromises s choices p r
  unfolding plan_block_answer
  block_new p r e = plan_new (next (reads none s choices) (first_refusal (block_checks p))) (plan_kinds p) (plan_operands p) (λ h. few_reads none (passed_both (reads none s choices) (first_refusal (block_checks p)) h).0) r
      (e ∙ (proceed_twice (first_refusal (job_checks s choices)) (first_refusal (block_checks p)) (plan_answer J (plan_kinds p) (plan_operands p)) ∙ ap (λ v. proceed (next v (first_refusal (block_checks p))) (plan_answer J (plan_kinds p) (plan_operands p))) (sym reads_none)))

  -- a plan's answer within a limit, by its verdict
  staged_is_so : (n : ℕ) (kinds operands : List ℕ) → J.count ≤ 64
      → within_answer J n kinds operands ≡ answer_by (plan_verdict J (some n) kinds operands) (record { report = tree_report J (tree_in kinds operands); stages = stages (tree_in kinds operands) })
  staged_is_so n kinds operands f =
      ap (staged_of (first_refusal (path_checks n t)) (staged_stages t)) (plan_is J f kinds operands)
      ∙ go (plan_verdict J none kinds operands)
      ∙ ap₂ (λ v k. answer_by v (record { report = tree_report J t; stages = k })) (sym (verdict_some J f kinds operands n ∙ ap (λ v. next v (first_refusal (path_checks n t))) (sym (verdict_none J f kinds operands)))) (stages_paths t)
    where
      t : Tree Piece
      t = tree_in kinds operands

      go : (v : Checked) → staged_of (first_refusal (path_checks n t)) (staged_stages t) (answer_by v (tree_report J t)) ≡ answer_by (next v (first_refusal (path_checks n t))) (record { report = tree_report J t; stages = staged_stages t })
      go (Ok _) = refl
      go (Err x) = refl

  pub staged_check_new : (n : ℕ) (kinds operands : List ℕ) (r : Answer StagedReport) → r ≡ staged_check_answer s choices n kinds operands → StagedCheckPromises s choices n kinds operands r
  staged_check_new n kinds operands r e = (
    answers_by staged_values (next (reads (some n) s choices) (plan_verdict J (some n) kinds operands)) (record { report = tree_report J (tree_in kinds operands); stages = stages (tree_in kinds operands) }) r
        (e ∙ go (reads (some n) s choices) refl),
    checks_new (reads (some n) s choices) J (few_reads (some n)) (some n) kinds operands,
  )
    where
      go : (v : Checked) → reads (some n) s choices ≡ v → proceed v (within_answer J n kinds operands)
          ≡ answer_by (next v (plan_verdict J (some n) kinds operands)) (record { report = tree_report J (tree_in kinds operands); stages = stages (tree_in kinds operands) })
      go (Ok _) h = staged_is_so n kinds operands (few_reads (some n) h)
      go (Err x) h = refl

-- a certificate, with its number and values, where verdict and bound are the same
certified : (v w : Checked) (n b b' : ℕ) (r : Answer Certificate) → v ≡ w → b ≡ b' → r ≡ answer_by v (compared (eqb n b) (n, b)) → outcome_of certificate_values r ≡ outcome_by v (certify.compared_values n b)
    → Answers certificate_values w (compared (eqb n b') (n, b')) r × (outcome_of certificate_values r ≡ outcome_by w ((b' - n) ∷ b' ∷ n ∷ []))
certified v w n b b' r e g a o = (
  answers_by certificate_values w _ r (a ∙ ap₂ (λ v b. answer_by v (compared (eqb n b) (n, b))) e g),
  o ∙ ap₂ (λ v b. outcome_by v ((b - n) ∷ b ∷ n ∷ [])) e g,
)

module _ (s : List ℕ) (choices : Choices) (ws : List ℕ) (plan : Arrays) (m n : Memory) (r : Answer Certificate) where
  abbrev K : Job
  K = block_job s choices

  pub accepted_few : Accepted s choices ws → K.count ≤ 64
  accepted_few a = (accepted_in_range s choices ws a).kinds.1

  -- the verdicts before the storage's
  pub before_none : certify.plan_verdict s choices ws plan.0 plan.1 ≡ next (next (accept_verdict s choices ws) (first_refusal (limit_checks none))) (plan_verdict K none plan.0 plan.1)
  unfolding first_refusal
  before_none = next_same (accept_verdict s choices ws) (verdict_of (plan_answer K plan.0 plan.1)) (plan_verdict K none plan.0 plan.1) (λ a. sym (verdict_none K (accepted_few a) plan.0 plan.1))
      ∙ ap (λ v. next v (plan_verdict K none plan.0 plan.1)) (next_passed (accept_verdict s choices ws))

  before_some : (k : ℕ) → staged_certify.staged_plan_verdict s choices ws k plan.0 plan.1 ≡ next (next (accept_verdict s choices ws) (first_refusal (limit_checks (some k)))) (plan_verdict K (some k) plan.0 plan.1)
  before_some k = next_same (next (accept_verdict s choices ws) (first_refusal (limit_check k ∷ []))) (within_verdict K k plan.0 plan.1) (plan_verdict K (some k) plan.0 plan.1)
      (λ a. sym (verdict_some K (accepted_few (passed_both (accept_verdict s choices ws) (first_refusal (limit_check k ∷ [])) a).0) plan.0 plan.1 k))

  pub certify_answers : (c : Answer Certificate) → c ≡ certify.certificate_of s choices ws plan.0 plan.1 m → outcome_of certificate_values c ≡ certify.certificate_said s choices ws plan.0 plan.1 m
      → (let v = certify_verdict none (one_weight (weight_in ws)) s choices ws plan m in let p = profit K (tree_in plan.0 plan.1) in let b = bound_of K (weight_in ws) in
      Answers certificate_values v (compared (eqb p b) (p, b)) c × (outcome_of certificate_values c ≡ outcome_by v ((b - p) ∷ b ∷ p ∷ [])))
  certify_answers c e o = certified (certify.certify_verdict s choices ws plan.0 plan.1 m) (certify_verdict none (one_weight (weight_in ws)) s choices ws plan m)
      (profit K (tree_in plan.0 plan.1)) (old_job.bound_of K (weight_in ws)) (bound_of K (weight_in ws)) c
      (ap₂ next before_none (one_stored s choices ws m)) (sym (bound_is K (weight_in ws))) e o

  pub certify_new : TodayCertify s choices ws plan.0 plan.1 m n r → CertifyPromises none (one_weight (weight_in ws)) s choices ws plan m n r
  certify_new p = record {
    answers = (certify_answers r p.answers p.outcome).0;
    words = (certify_answers r p.answers p.outcome).1;
    fills = one_fills s choices ws m _ n (rw before_none at p.memory) (λ a. bound_held K (weight_in ws) (accepted_in_range s choices ws a));
    judged = checks_new (reads none s choices) K (few_reads s choices none) none plan.0 plan.1;
    certifies = record {
      best = λ k e. (let h = p.best k e in ((h.0.0, h.0.1, tt, h.0.2), h.1 ∙ sym (bound_is K (weight_in ws)), (λ t g u d. h.2.0 t g d), (λ j l t g u d. h.2.1 j l t g d)));
      gap = λ k g e. (let h = p.gap k g e in ((h.0.0, h.0.1, tt, h.0.2), h.1, h.2 ∙ sym (bound_is K (weight_in ws)), (λ t g u d. h.3.0 t g d), (λ j l t g u d. h.3.1 j l t g d)));
    };
  }

  module _ (k : ℕ) (held : Accepted s choices ws → staged_call.StagedHolds K (weight_in ws) k (capacity K (weight_in ws)) (staged_bound K (weight_in ws) k)) where
    told : staged_certify.CertifyStagedPromises s choices ws k plan.0 plan.1 m n r
        → (let v = certify_verdict (some k) (within_stages (weight_in ws) k) s choices ws plan m in let p = profit K (tree_in plan.0 plan.1) in let b = bound_in K (within_stages (weight_in ws) k K) in
        Answers certificate_values v (compared (eqb p b) (p, b)) r × (outcome_of certificate_values r ≡ outcome_by v ((b - p) ∷ b ∷ p ∷ [])))
    told p = certified (staged_certify.certify_staged_verdict s choices ws k plan.0 plan.1 m) (certify_verdict (some k) (within_stages (weight_in ws) k) s choices ws plan m)
        (profit K (tree_in plan.0 plan.1)) (staged_bound K (weight_in ws) k) (bound_in K (within_stages (weight_in ws) k K)) r
        (ap (λ v. next v (first_refusal (storage_checks K (within_stages (weight_in ws) k K) m))) (before_some k)) (sym (staged_is K (weight_in ws) k)) p.answers p.outcome

    pub staged_certify_new : staged_certify.CertifyStagedPromises s choices ws k plan.0 plan.1 m n r → CertifyPromises (some k) (within_stages (weight_in ws) k) s choices ws plan m n r
    staged_certify_new p = record {
      answers = (told p).0;
      words = (told p).1;
      fills = staged_fills s choices ws k m _ n (rw (before_some k) at p.memory) held;
      judged = checks_new (reads (some k) s choices) K (few_reads s choices (some k)) (some k) plan.0 plan.1;
      certifies = record {
        best = λ j e. (let h = p.best j e in (
          (h.0.0, h.0.1.plan, rw⁻¹ (stages_paths h.0.0) h.0.1.within, h.0.2),
          h.1 ∙ sym (staged_is K (weight_in ws) k),
          (λ t g u d. h.2.0 t g (rw (stages_paths t) u) d),
          (λ q l t g u d. h.2.1 q l t g (rw (stages_paths t) u) d),
        ));
        gap = λ j g e. (let h = p.gap j g e in (
          (h.0.0, h.0.1.plan, rw⁻¹ (stages_paths h.0.0) h.0.1.within, h.0.2),
          h.1,
          h.2 ∙ sym (staged_is K (weight_in ws) k),
          (λ t g u d. h.3.0 t g (rw (stages_paths t) u) d),
          (λ q l t g u d. h.3.1 q l t g (rw (stages_paths t) u) d),
        ));
      };
    }

module _ (s : List ℕ) (choices : Choices) (kinds operands : List ℕ) (old new : Arrays) (r : Answer ℕ) where
  abbrev tidy : Tree Piece
  tidy = neat_of (J s choices) (tree_in kinds operands)

  abbrev before_neat : Checked
  before_neat = next (reads none s choices) (plan_verdict (J s choices) none kinds operands)

  -- the job's checks and the plan's
  neat_before : next (first_refusal (job_checks s choices)) (verdict_of (plan_answer (J s choices) kinds operands)) ≡ before_neat
  neat_before = ap (λ v. next v (verdict_of (plan_answer (J s choices) kinds operands))) (sym (reads_none s choices))
      ∙ next_same (reads none s choices) (verdict_of (plan_answer (J s choices) kinds operands)) (plan_verdict (J s choices) none kinds operands) (λ p. sym (verdict_none (J s choices) (few_reads s choices none p) kinds operands))

  both : before_neat ≡ passed → (first_refusal (job_checks s choices) ≡ passed) × (verdict_of (plan_answer (J s choices) kinds operands) ≡ passed)
  both p = passed_both (first_refusal (job_checks s choices)) (verdict_of (plan_answer (J s choices) kinds operands)) (neat_before ∙ p)

  module _ (p : neat.NeatPromises s choices kinds operands old.0 old.1 new.0 new.1 r) where
    planned : before_neat ≡ passed → neat.NeatPlan (J s choices) (tree_in kinds operands) kinds operands
    planned b = p.plan (both b).0 (both b).1

    small : before_neat ≡ passed → node_count tidy ≤ 4095
    small b = omega (arith, (planned b).no_more_nodes, (planned b).drawn.drawn.nodes)

    -- 21 reads no more than the arrays, for a neat plan has at most 4,095 nodes
    nodes_is : before_neat ≡ passed → first_refusal (neat.output_check tidy (length old.0) (length old.1) ∷ []) ≡ first_refusal (nodes_check tidy old ∷ [])
    nodes_is b = sym (ap (λ t. first_refusal (((t || ltb (length old.0) (node_count tidy)) || ltb (length old.1) (node_count tidy), PlanLong (node_count tidy)) ∷ [])) (le-ltb 4095 (node_count tidy) (small b)))

    assoc : (a b c : Checked) → next a (next b c) ≡ next (next a b) c
    assoc (Ok _) b c = refl
    assoc (Err x) b c = refl

    neat_is : neat.neat_verdict s choices kinds operands old.0 old.1 ≡ next before_neat (first_refusal (nodes_check tidy old ∷ []))
    neat_is = assoc (first_refusal (job_checks s choices)) (verdict_of (plan_answer (J s choices) kinds operands)) (first_refusal (neat.output_check tidy (length old.0) (length old.1) ∷ []))
        ∙ (ap (λ v. next v (first_refusal (neat.output_check tidy (length old.0) (length old.1) ∷ []))) neat_before
        ∙ next_same before_neat (first_refusal (neat.output_check tidy (length old.0) (length old.1) ∷ [])) (first_refusal (nodes_check tidy old ∷ [])) nodes_is)

    pub neat_new : NeatPromises s choices kinds operands old new r
    neat_new = record {
      answers = answers_by neat_values (next before_neat (first_refusal (nodes_check tidy old ∷ []))) (node_count tidy) r (p.answers ∙ ap (λ v. by_check v (Ok (node_count tidy)) Err) neat_is);
      arrays = (p.memory.kinds ∙ ap (λ v. list_after v (kinds_of tidy) old.0) neat_is, p.memory.operands ∙ ap (λ v. list_after v (operands_of tidy) old.1) neat_is);
      judged = checks_new (reads none s choices) (J s choices) (few_reads s choices none) none kinds operands;
      plan = λ b. (let q = planned b in record {
        passes = (q.passes, verdict_none (J s choices) (few s choices (both b).0) (kinds_of tidy) (operands_of tidy) ∙ q.checked);
        earns = q.earns;
        copies = q.copies;
        no_more_nodes = q.no_more_nodes;
        no_more_stages = omega (arith, q.no_more_stages, stages_paths tidy, stages_paths (tree_in kinds operands));
        again = (q.again, q.same_plan);
      });
    }
