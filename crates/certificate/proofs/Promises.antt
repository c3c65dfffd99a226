-- Parts 2 and 3 of specs/Promises, proved. Part 1 is in proofs/Refusals.
use Rattle.certificate.proofs.Prelude.{◌≡◌, refl, ap, ◌∙◌, InRange, profit, plan_profit, tree_in, verdict_of, Answer, Ok, Err, plan_is, drawn_is, List, ℕ, ◌≤◌, arith, Job, bound_of, by_kind, NoneBetter, range_solid, any_on, none_finer, by_weight_monotone, plan_bound, plan_idle, first_refusal, Choices, job_checks, block_job, weight_in, weight_checks, passed_both, append_passed, read_in_range, accepted_in_range, Report, plan_answer, plans_checked, Memory, memory_checks, wide_job, block_capacity, accept_verdict, bound_held, exact_by, certify_verdict, plan_verdict, PlansJudged, BoundsHold, PlansEarn, Earns, CertificatesHold, BoundExact, passed}
use Rattle.cutting.proofs.Promises as trees
use Rattle.certificate.proofs.Comparison.{best_among, gap_among}

-- an answer that passed has a value
pub value_of : {A : Type 0} (a : Answer A) → verdict_of a ≡ passed → (x : A) × (a ≡ Ok x)
value_of (Ok x) p = (x, refl)
value_of (Err r) p = absurd (let z : ◌≡◌ {A = ℕ} 0 1 = cc in omega arith)

-- a passed plan's report is its tree's own, and it earns at most the bound
module _ (s : List ℕ) (choices : Choices) (kinds operands : List ℕ) (good : first_refusal (job_checks s choices) ≡ passed) where
  abbrev J : Job
  J = block_job s choices

  range : InRange J
  range = read_in_range s choices good

  pub profit_is : {r : Report} → plan_answer J kinds operands ≡ Ok r → r.profit ≡ plan_profit J kinds operands
  profit_is p =
      let t = (plans_checked J range.kinds.1 kinds operands).tree _ p in
      ap (λ (r : Report). r.profit) t.2.own ∙ ap (λ u. profit J u) (drawn_is J kinds operands t.0 t.1.drawn)

  module _ (walked : verdict_of (plan_answer J kinds operands) ≡ passed) where
    pub drawn : Earns J kinds operands (plan_profit J kinds operands)
    drawn = (tree_in kinds operands, plan_is J range.kinds.1 kinds operands (value_of _ walked).1, refl)

    pub drawn_most : (ws : List ℕ) → plan_profit J kinds operands ≤ bound_of J (weight_in ws)
    drawn_most ws = let t = drawn in omega (arith, t.2, trees.none_above J (weight_in ws) range t.0 (any_on J t.0 t.1.drawn.on_plate) t.1.drawn.demands)

module _ (s : List ℕ) (choices : Choices) (ws kinds operands : List ℕ) (m : Memory) (p : certify_verdict s choices ws kinds operands m ≡ passed) where
  -- what stands behind a certificate
  pub behind : (first_refusal (job_checks s choices) ≡ passed) × (verdict_of (plan_answer (block_job s choices) kinds operands) ≡ passed)
  behind =
      let a = passed_both (plan_verdict s choices ws kinds operands) (first_refusal (memory_checks (wide_job s choices) (block_capacity s choices ws) m)) p in
      let b = passed_both (accept_verdict s choices ws) (verdict_of (plan_answer (block_job s choices) kinds operands)) a.0 in
      ((append_passed (job_checks s choices) (weight_checks (block_job s choices) ws) b.0).0, b.1)

pub plans_judged : PlansJudged
plans_judged s choices kinds operands good = plans_checked (block_job s choices) (read_in_range s choices good).kinds.1 kinds operands

pub bounds_hold : BoundsHold
bounds_hold s choices ws m = exact_by s choices ws m

pub plans_earn : PlansEarn
plans_earn s choices ws accepted = let h = accepted_in_range s choices ws accepted in (trees.plan_follows (block_job s choices) (weight_in ws) h, plan_bound (block_job s choices) (weight_in ws) (range_solid (block_job s choices) h), plan_idle (block_job s choices) (by_kind (weight_in ws)) (by_weight_monotone _) (range_solid (block_job s choices) h) _ _ _)

pub bound_exact : BoundExact
bound_exact s choices ws accepted = bound_held (block_job s choices) (weight_in ws) (accepted_in_range s choices ws accepted)

module _ (s : List ℕ) (choices : Choices) (ws kinds operands : List ℕ) (m : Memory) where
  -- where no check refuses, the plan earns its profit, at most the bound, which no tree that keeps every demand passes
  pub compares : certify_verdict s choices ws kinds operands m ≡ passed → Earns (block_job s choices) kinds operands (plan_profit (block_job s choices) kinds operands)
      × (plan_profit (block_job s choices) kinds operands ≤ bound_of (block_job s choices) (weight_in ws)) × NoneBetter (block_job s choices) (bound_of (block_job s choices) (weight_in ws))
  compares p =
      let b = behind s choices ws kinds operands m p in
      let h = read_in_range s choices b.0 in
      let none = trees.none_above (block_job s choices) (weight_in ws) h in
      (drawn s choices kinds operands b.0 b.1, drawn_most s choices kinds operands b.0 b.1 ws, (none, none_finer (block_job s choices) (range_solid (block_job s choices) h) _ none))

pub certificates_hold : CertificatesHold
certificates_hold s choices ws kinds operands m =
    let J = block_job s choices in
    let c = compares s choices ws kinds operands m in
    (best_among (Earns J kinds operands) (NoneBetter J) _ _ _ c, gap_among (Earns J kinds operands) (NoneBetter J) _ _ _ c)
