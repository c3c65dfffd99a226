-- What the instance of the bound call says of answer and memory gives back the inner promise whole: nothing is lost. And what a staged
-- bound is, of every job in range.
use Rattle.planner.proofs.Prelude.{◌≡◌, refl, sym, ◌∙◌, ap, ap₂, subst, List, ◌++◌, ℕ, ◌≤◌, arith, get_or, Direction, Length, Width, Job, InRange, SolidKinds, widened, at_full_demand, capacity, ordered, members, pieces, by_kind, figure_of, block, staged_bound, capacity_less, staged_finer, stages_finer, range_solid, recursion, figures_most, floor_figures, block_figure, staged_under_most, staged_under_earned, staged_most, staged_holds, staged_ceiling, staged_more, staged_less, Check, by_check, next, first_refusal, Choices, JobRecord, job_of, block_job, weight_in, weight_checks, kerf_none_read, accepted_in_range, position, words_needed, Figures, BoundReport, Memory, accept_verdict, block_report, bound_held, exact_by, StagedHolds, CertifyStagedPromises, Certificate, one_weight, within_stages, Arrays, storage_checks, Leaves, CheckPromises, BlockPromises, BoundPromises, CertifyPromises, none, some, ChecksPlan, arrays_answer, arrays_before_idle, arrays_said, block_answer, block_before_idle, block_said, plan_outcome, plan_kinds, plan_operands, JobPasses, BlockPasses, arrays_met, block_met, said_by, plans_judged, compares, Ok, Err, passed, Checked, Answer, Report, outcome_of}
use Rattle.certificate.proofs.Comparison.{certificate_says}
use Rattle.refusal.specs.Refusals as old
use Rattle.bound.specs.Bound as bound
use Rattle.promises.specs.Systems as new
use Rattle.certificate.specs.Certificate as certify
use Rattle.certificate.specs.Promises as certify_promises
use Rattle.planner.proofs.Figures.{figure_is}
use Rattle.planner.proofs.Held.{bound_is}
use Rattle.planner.proofs.Lent.{stored_is, one_words}
use Rattle.planner.proofs.Bounds.{one_stored, one_report}
use Rattle.planner.proofs.Judged.{check_new, block_new, before_none, certify_answers, staged_certify_new}

-- the staged bound of the full demands is no less
module _ (J : Job) (solid : SolidKinds J) (weight : ℕ → ℕ) (n : ℕ) where
  same_block : (d : Direction) (l w c : ℕ) → block (widened (at_full_demand J)) weight n d l w c ≡ block (widened J) weight n d l w c
  unfolding pieces members ordered
  same_block d l w c = block_figure (widened (at_full_demand J)) weight n d l w c ∙ sym (block_figure (widened J) weight n d l w c)

  staged_full : staged_bound J weight n ≤ staged_bound (at_full_demand J) weight n
  staged_full =
      let q = capacity (at_full_demand J) weight in
      let e = staged_under_earned J solid weight (capacity J weight) n in
      omega (
        arith,
        e.3,
        staged_under_most J solid weight q n e.0 e.1.0 (omega (arith, e.2, capacity_less J weight)) e.1.1,
        same_block Length (widened J).plate.0 (widened J).plate.1 q,
        same_block Width (widened J).plate.0 (widened J).plate.1 q,
      )

pub staged_held : (J : Job) (weight : ℕ → ℕ) (n : ℕ) → InRange J → StagedHolds J weight n (capacity J weight) (staged_bound J weight n)
staged_held J weight n h = record {
  most = staged_most J (range_solid J h) weight n;
  most_finer = stages_finer J (range_solid J h) weight n (capacity J weight) (staged_bound J weight n) (staged_most J (range_solid J h) weight n);
  demands = staged_holds J (range_solid J h) weight n;
  finer = staged_finer J (range_solid J h) n (staged_bound J weight n) (staged_holds J (range_solid J h) weight n);
  ceiling = staged_ceiling J weight n h;
  figure = refl;
  capacity_is = refl;
  more = λ k l. staged_more J (range_solid J h) weight (capacity J weight) n k l;
  less = staged_less J (range_solid J h) weight n;
  full_demand = staged_full J (range_solid J h) weight n;
}

pub staged_certified : (s : List ℕ) (choices : Choices) (ws : List ℕ) (plan : Arrays) (m n : Memory) (r : Answer Certificate) (k : ℕ) → CertifyStagedPromises s choices ws k plan.0 plan.1 m n r
    → CertifyPromises (some k) (within_stages (weight_in ws) k) s choices ws plan m n r
staged_certified s choices ws plan m n r k = staged_certify_new s choices ws plan m n r k (λ a. staged_held (block_job s choices) (weight_in ws) k (accepted_in_range s choices ws a))

-- lent memory, the other way
module _ (before : Checked) (J : Job) (weight : ℕ → ℕ) (m n : Memory) where
  after_by : (v : Checked) (A B C : Type 0) → (A → B) → by_check v A (λ r. C) → by_check v B (λ r. C)
  after_by (Ok _) A B C f a = f a
  after_by (Err r) A B C f c = c

  figures_back : new.Figures (widened J) (one_weight weight J) n.table → Figures (widened J) weight (capacity J weight) n.table
  unfolding figure_of
  figures_back f a b c ha hb hc = ap (λ i. get_or n.table i 0) (omega arith) ∙ (f a b c ha hb hc ∙ figure_is (widened J) (by_kind weight) (position (widened J) Length a) (position (widened J) Width b) c)

  stored : first_refusal (bound.memory_checks (widened J) (capacity J weight) m) ≡ first_refusal (storage_checks J (one_weight weight J) m)
  stored = stored_is passed J (one_weight weight J) m m (words_needed (widened J) (capacity J weight)) (one_words J weight)

  pub leaves_back : Leaves before J (one_weight weight J) m n → bound.Leaves before (widened J) weight (capacity J weight) m n
  leaves_back l = record {
    lengths = l.lengths;
    widths = l.widths;
    table = rw stored (after_by (next before (first_refusal (storage_checks J (one_weight weight J) m))) _ _ _ (λ h. (figures_back h.0, rw⁻¹ (one_words J weight) h.1)) l.table);
  }

-- the bound call, the other way
module _ (s : List ℕ) (choices : Choices) (ws : List ℕ) (m n : Memory) (r : Answer BoundReport) (p : BoundPromises s choices ws m n r) where
  abbrev J : Job
  J = block_job s choices

  abbrev weight : ℕ → ℕ
  weight = weight_in ws

  memory_back : bound.BoundLeaves s choices ws m n
  memory_back = leaves_back (accept_verdict s choices ws) J weight m n p.fills.memory

  answers_back : r ≡ bound.bound_answer s choices ws m
  answers_back = p.answers.answer ∙ sym (ap₂ (λ v b. by_check (next (accept_verdict s choices ws) v) (Ok b) Err) (one_stored s choices ws m) (one_report s choices ws m))

  abbrev answer_from : List Check → JobRecord → Answer BoundReport
  answer_from checks j = bound.answer_by (next (first_refusal (checks ++ weight_checks (job_of j) ws)) (first_refusal (bound.memory_checks (widened (job_of j)) (capacity (job_of j) weight) m)))
      (bound.bound_report (widened (job_of j)) weight (capacity (job_of j) weight))

  abbrev LeftFrom : List Check × JobRecord → Type 0
  LeftFrom r = bound.Leaves (first_refusal (r.0 ++ weight_checks (job_of r.1) ws)) (widened (job_of r.1)) weight (capacity (job_of r.1) weight) m n

  pub bound_back : bound.BoundPromises s choices ws m n r
  bound_back = record {
    answers = answers_back;
    outcome = ap (outcome_of bound.bound_values) answers_back ∙ said_by bound.bound_values (bound.bound_verdict s choices ws m) (block_report s choices ws);
    memory = memory_back;
    exact = λ b e. exact_by s choices ws m b (sym answers_back ∙ e);
    recursion = recursion (bound.wide_job s choices) weight;
    normal = p.fills.normal;
    accepted = λ a. bound_held J weight (accepted_in_range s choices ws a);
    figures = λ a. figures_most J weight (accepted_in_range s choices ws a);
    floor = λ a. floor_figures J weight (accepted_in_range s choices ws a);
    kerf_none = λ z o k. (let same = kerf_none_read s choices z o k in (answers_back ∙ ap₂ answer_from same.checks same.record_is, subst LeftFrom (λ i. (same.checks i, same.record_is i)) memory_back));
  }

-- the check of a plan's arrays and of a plan block, the other way
pub check_back : (s : List ℕ) (choices : Choices) (kinds operands : List ℕ) (r : Answer Report) → CheckPromises s choices kinds operands r
    → (r ≡ arrays_answer s choices kinds operands) × ((plan_outcome r ≡ arrays_said s choices kinds operands) × ChecksPlan (JobPasses s choices) (block_job s choices) kinds operands (arrays_before_idle s choices kinds operands) r)
check_back s choices kinds operands r p = arrays_met s choices kinds operands (p.0.answer ∙ sym (check_new s choices kinds operands (arrays_answer s choices kinds operands) refl).0.answer)

pub block_back : (s : List ℕ) (choices : Choices) (b : List ℕ) (r : Answer Report) → BlockPromises s choices b r
    → (r ≡ block_answer s choices b) × ((plan_outcome r ≡ block_said s choices b) × ChecksPlan (JobPasses s choices × BlockPasses b) (block_job s choices) (plan_kinds b) (plan_operands b) (block_before_idle s choices b) r)
block_back s choices b r p = block_met s choices b (p.0.answer ∙ sym (block_new s choices b (block_answer s choices b) refl).0.answer)

-- the certificate, the other way
module _ (s : List ℕ) (choices : Choices) (ws : List ℕ) (plan : Arrays) (m n : Memory) (r : Answer Certificate) (p : CertifyPromises none (one_weight (weight_in ws)) s choices ws plan m n r) where
  abbrev K : Job
  K = block_job s choices

  told : certify.certificate_outcome (certify.certificate_of s choices ws plan.0 plan.1 m) ≡ certify.certificate_said s choices ws plan.0 plan.1 m
  told = certificate_says (certify.certify_verdict s choices ws plan.0 plan.1 m) _ _ (λ h. (compares s choices ws plan.0 plan.1 m h).1)

  certified : r ≡ certify.certificate_of s choices ws plan.0 plan.1 m
  certified = p.answers.answer ∙ sym (certify_answers s choices ws plan m n r (certify.certificate_of s choices ws plan.0 plan.1 m) refl told).0.answer

  pub certify_back : certify_promises.CertifyPromises s choices ws plan.0 plan.1 m n r
  certify_back = record {
    answers = certified;
    outcome = ap certify.certificate_outcome certified ∙ told;
    memory = rw (before_none s choices ws plan m n r) (leaves_back _ K (weight_in ws) m n p.fills.memory);
    judged = plans_judged s choices plan.0 plan.1;
    best = λ k e. (let h = p.certifies.best k e in ((h.0.0, h.0.1, h.0.3), h.1 ∙ bound_is K (weight_in ws), ((λ t g d. h.2 t g tt d), (λ j l t g d. h.3 j l t g tt d))));
    gap = λ k g e. (let h = p.certifies.gap k g e in ((h.0.0, h.0.1, h.0.3), h.1, h.2 ∙ bound_is K (weight_in ws), ((λ t g d. h.3 t g tt d), (λ j l t g d. h.4 j l t g tt d))));
  }
