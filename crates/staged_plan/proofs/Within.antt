-- The check of a job that was read, answer by answer, and what it says of trees.
use Rattle.staged_plan.proofs.Prelude.{◌≡◌, refl, sym, ◌∙◌, ap, ap₂, List, ℕ, ◌≤◌, length, stages_paths, most_nodes, Tree, Piece, stages, Job, Refusal, Answer, Checked, passed, answer_by, verdict_of, next, proceed, first_refusal, passed_both, path_checks, staged_as, StagesOf, passed_within, within_passed, Report, StagedReport, plan_answer, tree_in, PlanOf, Reports, verdict_is, no_pass, walked_counts, plans_checked, drawn_is, plan_is, stage_verdict, within_verdict, staged_of, within_answer, without_idle, StagedPlanOf, ChecksStaged, Ok, Err, ForOk, value_answered, refusal_answered}

-- the verdict of a plan check's answer with that of 23 after it
verdict_by : (v : Checked) (k : ℕ) (a : Answer Report) → verdict_of (staged_of v k a) ≡ next (verdict_of a) v
verdict_by (Ok _) k (Ok s) = refl
verdict_by (Err r) k (Ok s) = refl
verdict_by v k (Err r) = refl

-- what both passed give
value_by : (v : Checked) (k : ℕ) (a : Answer Report) {s : StagedReport} → staged_of v k a ≡ Ok s → (v ≡ passed) × (a ≡ Ok s.report) × (s.stages ≡ k)
value_by v k (Ok r) e = let q = value_answered v _ e in (q.0, ap (λ s. Ok s.report) (sym q.1), ap (λ s. s.stages) q.1)
value_by v k (Err r) e = no_pass (ap verdict_of e)

module _ (J : Job) (few : J.count ≤ 64) (n : ℕ) (kinds operands : List ℕ) where
  abbrev checked : Answer Report
  checked = plan_answer J kinds operands

  abbrev tree : Tree Piece
  tree = tree_in kinds operands

  module _ {a : Answer Report} (said : a ≡ checked) where
    -- it passes
    module _ {s : Report} (e : a ≡ Ok s) where
      pub some_nodes : (1 ≤ length kinds) × (length kinds ≤ most_nodes)
      some_nodes = let g = walked_counts J kinds operands (passed_both _ _ (sym (verdict_is J kinds operands) ∙ ap verdict_of (sym said ∙ e))).0 in (g.1, g.2)

      decides : within_answer J n kinds operands ≡ answer_by (stage_verdict n kinds operands) (record { report = s; stages = stages tree })
      decides = ap (staged_of (stage_verdict n kinds operands) (stages tree)) (sym said ∙ e)

      module _ {f : Answer ℕ} (walked : StagesOf kinds n f) where
        found_as : staged_as n tree ≡ f
        found_as = sym (walked tree (plan_is J few kinds operands (sym said ∙ e)).drawn.kinds_are)

        -- the stages are within the limit
        pub is_within : {k : ℕ} → f ≡ Ok k → Ok (record { report = s; stages = k }) ≡ within_answer J n kinds operands
        is_within h = let w = value_answered (stage_verdict n kinds operands) _ (found_as ∙ h) in
            ap (λ k. Ok (record { report = s; stages = k })) w.1 ∙ sym (decides ∙ ap (λ v. answer_by v (record { report = s; stages = stages tree })) w.0)

        -- they pass it
        pub is_past : {x : Refusal} {r : Answer StagedReport} → f ≡ Err x → r ≡ Err x → r ≡ within_answer J n kinds operands
        is_past h g = g ∙ sym (decides ∙ ap (λ v. answer_by v (record { report = s; stages = stages tree })) (refusal_answered (stage_verdict n kinds operands) _ (found_as ∙ h)))

  -- the verdict: the plan check's, then that of 23
  pub within_is : verdict_of (within_answer J n kinds operands) ≡ within_verdict J n kinds operands
  within_is = verdict_by (stage_verdict n kinds operands) (stages tree) checked

  -- what the check says of trees: for a plan check 23 decides, and a pass is a tree's
  judged : (t : Tree Piece) → PlanOf J t kinds operands → verdict_of (within_answer J n kinds operands) ≡ first_refusal (path_checks n t)
  judged t h = within_is ∙ ap₂ next ((plans_checked J few kinds operands).passes tt t h) (ap (λ u. first_refusal (path_checks n u)) (sym (drawn_is J kinds operands t h.drawn)))

  pub staged_tree : ForOk (within_answer J n kinds operands) (λ s. (t : Tree Piece) × StagedPlanOf J n t kinds operands × Reports J t s.report × (s.stages ≡ stages t))
  staged_tree s p =
      let v = value_by (stage_verdict n kinds operands) (stages tree) checked p in
      let t = (plans_checked J few kinds operands).tree s.report v.1 in
      let e = drawn_is J kinds operands t.0 t.1.drawn in
      (t.0, record { plan = t.1; within = passed_within t.0 n (ap (λ u. first_refusal (path_checks n u)) e ∙ v.0) }, t.2, v.2 ∙ sym (ap (λ u. stages u) e))

-- the same after the verdict of the checks before it
pub staged_after : (v : Checked) {J : Job} {n : ℕ} {kinds operands : List ℕ} → (v ≡ passed → J.count ≤ 64) → ChecksStaged (v ≡ passed) J n kinds operands (without_idle v J n kinds operands) (proceed v (within_answer J n kinds operands))
staged_after (Ok _) {J} {n} {kinds} {operands} f =
    let few = f refl in
    record {
      passes = λ b t h. judged J few n kinds operands t h.plan ∙ within_passed t n h.within;
      before = λ p. refl;
      tree = λ s p. staged_tree J few n kinds operands s p;
      paths_most = stages_paths;
      past = λ b t h. judged J few n kinds operands t h;
      refused = λ b r e. ap (staged_of (stage_verdict n kinds operands) (stages (tree_in kinds operands))) e;
      old_table = λ h. ap (staged_of (stage_verdict n kinds operands) (stages (tree_in kinds operands))) ((plans_checked J few kinds operands).old_table h);
    }
staged_after (Err x) f =
    record {
      passes = λ b t h. no_pass b;
      before = λ p. p;
      tree = λ s p. no_pass (ap verdict_of p);
      paths_most = stages_paths;
      past = λ b t h. no_pass b;
      refused = λ b r e. no_pass b;
      old_table = λ h. refl;
    }
