-- The whole check of a plan's arrays, answer by answer.
use Rattle.plan.proofs.Prelude.{◌≡◌, refl, sym, ap, List, [], ◌∷◌, ℕ, ◌≤◌, length, arith, eqb, le-ltb, eq-eqb, eqb-true, not-false, Job, next, first_refusal, Refusal, cons_passed, inside_range, idle_checks, plan_checks, walk_answer, plan_answer, walk, nodes_in, proceed, empty_report, Ok, Err, passed, Checked, Answer, Report, answer_by, verdict_of, ◌∙◌}

-- the verdict of two checks, the first of them an answer's own
proceed_verdict : (i : Checked) (a : Answer Report) → verdict_of (proceed (next (verdict_of a) i) a) ≡ next (verdict_of a) i
proceed_verdict (Ok _) (Ok s) = refl
proceed_verdict (Err r) (Ok s) = refl
proceed_verdict i (Err r) = refl

module _ (kinds operands : List ℕ) where
  -- checks 10 and 11, one by one
  abbrev whole : Checked
  whole = first_refusal (plan_checks kinds operands)

  pub whole_passes : length kinds ≡ length operands → 1 ≤ length kinds → length kinds ≤ 4095 → whole ≡ passed
  unfolding first_refusal
  whole_passes same some few = simp (eq-eqb (length kinds) (length operands) same, le-ltb (length kinds) 1 some, le-ltb 4095 (length kinds) few)

  -- where they pass, the arrays have one length, from 1 to 4,095
  pub whole_counts : whole ≡ passed → (length kinds ≡ length operands) × (1 ≤ length kinds) × (length kinds ≤ 4095)
  whole_counts p =
      let f = cons_passed _ _ _ p in
      let g = inside_range 4096 0 (length kinds) (cons_passed _ _ _ f.1).0 in
      (eqb-true (length kinds) (length operands) (not-false (eqb (length kinds) (length operands)) f.0), g.0, omega (arith, g.1))

module _ (J : Job) (kinds operands : List ℕ) where
  -- a refusal of theirs is the walk's
  pub whole_stops : {r : Refusal} → first_refusal (plan_checks kinds operands) ≡ Err r → walk_answer J kinds operands ≡ Err r
  unfolding walk_answer
  whole_stops p = ap (λ v. proceed v (walk J 0 (nodes_in kinds operands) (J.plate ∷ []) empty_report)) p

  -- where they pass, the walk goes from the plate
  pub whole_goes : first_refusal (plan_checks kinds operands) ≡ passed → walk_answer J kinds operands ≡ walk J 0 (nodes_in kinds operands) (J.plate ∷ []) empty_report
  unfolding walk_answer
  whole_goes p = ap (λ v. proceed v (walk J 0 (nodes_in kinds operands) (J.plate ∷ []) empty_report)) p

  pub walks_on : length kinds ≡ length operands → 1 ≤ length kinds → length kinds ≤ 4095 → walk_answer J kinds operands ≡ walk J 0 (nodes_in kinds operands) (J.plate ∷ []) empty_report
  walks_on same some few = whole_goes (whole_passes kinds operands same some few)

  -- the plan's verdict is the walk's, and then that of check 26
  pub verdict_is : verdict_of (plan_answer J kinds operands) ≡ next (verdict_of (walk_answer J kinds operands)) (first_refusal (idle_checks 0 kinds))
  unfolding plan_answer
  verdict_is = proceed_verdict (first_refusal (idle_checks 0 kinds)) (walk_answer J kinds operands)

  -- a refusal of the walk is the plan's
  pub walk_stops : {a : Answer Report} {r : Refusal} → a ≡ walk_answer J kinds operands → a ≡ Err r → plan_answer J kinds operands ≡ Err r
  unfolding plan_answer
  walk_stops e p = ap (λ w. proceed (next (verdict_of w) (first_refusal (idle_checks 0 kinds))) w) (sym e ∙ p)

  -- after a walk that passes, check 26 decides
  pub idle_decides : {a : Answer Report} {s : Report} → a ≡ walk_answer J kinds operands → a ≡ Ok s → plan_answer J kinds operands ≡ answer_by (first_refusal (idle_checks 0 kinds)) s
  unfolding plan_answer
  idle_decides e p = ap (λ w. proceed (next (verdict_of w) (first_refusal (idle_checks 0 kinds))) w) (sym e ∙ p)
