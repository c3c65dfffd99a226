-- The calls on blocks: what reading the job gives, a plan block's answers one by one, and the theorem about trees for both calls.
use Rattle.plan.proofs.Prelude.{◌≡◌, ◌∙◌, refl, sym, ap, subst, List, ℕ, ◌+◌, ◌*◌, ◌-◌, ◌<◌, arith, length, drop, length-drop, length-map, length-take-le, lt-ltb, le-ltb, eq-eqb, eqb-true, not-false, eqb, true, range, Job, InRange, range_length, first_refusal, Refusal, NodeCount, PlanLength, refuse_when, plan_checks, Choices, JobRecord, u16_at, job_checks, read_of, job_of, block_job, plan_answer, proceed, ChecksPlan, arrays_answer, arrays_before_idle, plan_count, plan_kinds, plan_operands, block_checks, plan_block_answer, block_answer, block_before_idle, JobPasses, BlockPasses, plan_outcome, said_after, arrays_said, block_said, Ok, Err, passed, Checked, Answer, Report, IsErrAnd, handed, ltb, not, Bool, false, ltb-true, ◌||◌, next}
use Rattle.job.proofs.Read as read
use Rattle.refusal.proofs.Results.{before_refuses, before_passes}
use Rattle.job.proofs.Checks.{check_last, passed_both, passed_false}
use Rattle.plan.proofs.Parse.{no_pass}
use Rattle.plan.proofs.Whole.{whole_stops, walk_stops}
use Rattle.plan.proofs.Plans.{plans_checked, checked_after}

-- a job that was read is in range
module _ (s : List ℕ) (choices : Choices) {a : Answer JobRecord} (e : a ≡ read_of s choices) where
  pub read_range : {j : JobRecord} → a ≡ Ok j → InRange (job_of j)
  read_range p = subst (λ (j : JobRecord). InRange (job_of j)) (sym (read.answered s choices e p).1) (read.read_in_range s choices (read.answered s choices e p).0)

  -- what follows for the job that was read is the answer
  pub read_on : {j : JobRecord} → a ≡ Ok j → (f : Job → Answer Report) → f (job_of j) ≡ proceed (first_refusal (job_checks s choices)) (f (block_job s choices))
  read_on p f = ap (λ (j : JobRecord). f (job_of j)) (read.answered s choices e p).1 ∙ sym (ap (λ v. proceed v (f (block_job s choices))) (read.answered s choices e p).0)

  -- a job that is refused
  pub read_stops : {r : Refusal} → a ≡ Err r → (b c : Answer Report) → IsErrAnd c (λ y. y ≡ r) → c ≡ proceed (first_refusal (job_checks s choices)) b
  read_stops p b c h = handed c h ∙ sym (ap (λ v. proceed v b) (read.refused s choices e p))

-- a check that refuses: its condition holds
refused_true : (t : Bool) (r : Refusal) {x : Refusal} → refuse_when t r ≡ Err x → (t ≡ true) × (r ≡ x)
refused_true true r e = (refl, cc)
refused_true false r e = no_pass (sym e)

-- one check of two conditions is two checks
pub either_refuses : (s t : Bool) (r : Refusal) → refuse_when (s || t) r ≡ next (refuse_when s r) (refuse_when t r)
either_refuses true t r = refl
either_refuses false t r = refl

module _ (J : Job) (p : List ℕ) where
  -- a plan block's own checks: they refuse the block, or leave it to the plan's
  pub block_stops : {v : Checked} {x : Refusal} → v ≡ first_refusal (block_checks p) → v ≡ Err x → plan_block_answer J p ≡ Err x
  unfolding plan_block_answer
  block_stops e q = ap (λ v. proceed v (plan_answer J (plan_kinds p) (plan_operands p))) (sym e ∙ q)

  pub block_on : {v : Checked} → v ≡ first_refusal (block_checks p) → v ≡ passed → plan_block_answer J p ≡ plan_answer J (plan_kinds p) (plan_operands p)
  unfolding plan_block_answer
  block_on e q = ap (λ v. proceed v (plan_answer J (plan_kinds p) (plan_operands p))) (sym e ∙ q)

  -- they are that of the block's first two bytes, and then that of its length
  block_parts : first_refusal (block_checks p) ≡ next (refuse_when (ltb (length p) 2) PlanLength) (refuse_when (not (eqb (length p) (2 + 3 * plan_count p))) PlanLength)
  block_parts = sym (check_last _ _ refl) ∙ either_refuses (ltb (length p) 2) (not (eqb (length p) (2 + 3 * plan_count p))) PlanLength

  pub block_short : {v : Checked} {x : Refusal} → v ≡ refuse_when (ltb (length p) 2) PlanLength → v ≡ Err x → v ≡ first_refusal (block_checks p)
  block_short d q = q ∙ sym (block_parts ∙ before_refuses _ _ (sym d ∙ q))

  pub block_long : (n : ℕ) {v w : Checked} → v ≡ refuse_when (ltb (length p) 2) PlanLength → v ≡ passed → n ≡ plan_count p → w ≡ refuse_when (not (eqb (length p) (2 + n + 2 * n))) PlanLength → w ≡ first_refusal (block_checks p)
  block_long n d q e f =
      let m : 2 + n + 2 * n ≡ 2 + 3 * plan_count p = omega (arith, e) in
      f ∙ ap (λ k. refuse_when (not (eqb (length p) k)) PlanLength) m ∙ sym (block_parts ∙ before_passes _ _ (sym d ∙ q))

  -- where they pass, the block has the bytes of its nodes
  pub block_bytes : {v : Checked} → v ≡ first_refusal (block_checks p) → v ≡ passed → length p ≡ 2 + 3 * plan_count p
  block_bytes e q = eqb-true (length p) (2 + 3 * plan_count p) (not-false (eqb (length p) (2 + 3 * plan_count p)) (passed_false _ PlanLength (passed_both _ _ (sym block_parts ∙ sym e ∙ q)).1))

  module _ (e : length p ≡ 2 + 3 * plan_count p) where
    kinds_length : length (plan_kinds p) ≡ plan_count p
    kinds_length = length-take-le (plan_count p) (drop 2 p) (let d : length (drop 2 p) ≡ length p - 2 = length-drop 2 p in omega (arith, d, e))

    operands_length : length (plan_operands p) ≡ plan_count p
    unfolding plan_operands
    operands_length = length-map (range 0 (plan_count p)) (λ i. u16_at p (2 + plan_count p + 2 * i)) ∙ range_length 0 (plan_count p)

    -- 11 of its plan, of too many nodes
    many_refused : 4095 < plan_count p → first_refusal (plan_checks (plan_kinds p) (plan_operands p)) ≡ Err NodeCount
    unfolding first_refusal
    many_refused m =
        let same : length (plan_kinds p) ≡ length (plan_operands p) = kinds_length ∙ sym operands_length in
        simp (eq-eqb (length (plan_kinds p)) (length (plan_operands p)) same, le-ltb (length (plan_kinds p)) 1 (omega (arith, kinds_length, m)), lt-ltb 4095 (length (plan_kinds p)) (omega (arith, kinds_length, m)))

  pub block_many : {v w : Checked} {n : ℕ} {x : Refusal} → v ≡ first_refusal (block_checks p) → v ≡ passed → n ≡ plan_count p → w ≡ refuse_when (ltb 4095 n) NodeCount → w ≡ Err x → plan_block_answer J p ≡ Err x
  block_many {n = n} e q c f g =
      let r = refused_true (ltb 4095 n) NodeCount (sym f ∙ g) in
      block_on e q ∙ walk_stops J (plan_kinds p) (plan_operands p) refl (whole_stops J (plan_kinds p) (plan_operands p) (many_refused (block_bytes e q) (omega (arith, c, ltb-true 4095 n r.0)))) ∙ ap Err r.1

-- both calls pass exactly for the plans of trees
arrays_checked : (s : List ℕ) (choices : Choices) (kinds operands : List ℕ) → ChecksPlan (JobPasses s choices) (block_job s choices) kinds operands (arrays_before_idle s choices kinds operands) (arrays_answer s choices kinds operands)
arrays_checked s choices kinds operands = checked_after (first_refusal (job_checks s choices)) (λ p. plans_checked (block_job s choices) (read.read_in_range s choices p).kinds.1 kinds operands) (λ a. (a, tt)) (λ v b. v)

plan_block_checked : (s : List ℕ) (choices : Choices) (p : List ℕ) → ChecksPlan (JobPasses s choices × BlockPasses p) (block_job s choices) (plan_kinds p) (plan_operands p) (block_before_idle s choices p) (block_answer s choices p)
unfolding plan_block_answer
plan_block_checked s choices p = checked_after (first_refusal (job_checks s choices))
    (λ v. checked_after (first_refusal (block_checks p)) (λ w. plans_checked (block_job s choices) (read.read_in_range s choices v).kinds.1 (plan_kinds p) (plan_operands p)) (λ a. (a, tt)) (λ v b. v))
    (λ a. (a.0, a.1)) (λ v b. (v, b))

-- the number and values of an answer that follows a check
outcome_after : (v : Checked) (a : Answer Report) → plan_outcome (proceed v a) ≡ said_after v a
outcome_after (Ok _) a = refl
outcome_after (Err r) a = refl

-- so an answer that equals the definition meets the whole contract
pub arrays_met : (s : List ℕ) (choices : Choices) (kinds operands : List ℕ) {r : Answer Report} → r ≡ arrays_answer s choices kinds operands
    → (r ≡ arrays_answer s choices kinds operands) × ((plan_outcome r ≡ arrays_said s choices kinds operands) × ChecksPlan (JobPasses s choices) (block_job s choices) kinds operands (arrays_before_idle s choices kinds operands) r)
arrays_met s choices kinds operands e = (
  e,
  (
    ap (λ a. plan_outcome a) e ∙ outcome_after (first_refusal (job_checks s choices)) (plan_answer (block_job s choices) kinds operands),
    subst (λ (a : Answer Report). ChecksPlan (JobPasses s choices) (block_job s choices) kinds operands (arrays_before_idle s choices kinds operands) a) (sym e) (arrays_checked s choices kinds operands),
  ),
)

pub block_met : (s : List ℕ) (choices : Choices) (p : List ℕ) {r : Answer Report} → r ≡ block_answer s choices p
    → (r ≡ block_answer s choices p) × ((plan_outcome r ≡ block_said s choices p) × ChecksPlan (JobPasses s choices × BlockPasses p) (block_job s choices) (plan_kinds p) (plan_operands p) (block_before_idle s choices p) r)
block_met s choices p e = (
  e,
  (
    ap (λ a. plan_outcome a) e ∙ outcome_after (first_refusal (job_checks s choices)) (plan_block_answer (block_job s choices) p),
    subst (λ (a : Answer Report). ChecksPlan (JobPasses s choices × BlockPasses p) (block_job s choices) (plan_kinds p) (plan_operands p) (block_before_idle s choices p) a) (sym e) (plan_block_checked s choices p),
  ),
)
