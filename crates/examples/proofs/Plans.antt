-- What the first node of a plan decides, whatever follows it: its checks refuse the plan, or any refusal comes later.
use Rattle.examples.proofs.Prelude.{◌≡◌, refl, sym, ap, subst, Bool, true, false, List, [], ◌∷◌, ℕ, suc, ◌+◌, ◌<◌, arith, Rect, Job, Check, number_of, place_of, refuse_when, next, first_refusal, Refusal, IdleCut, block_job, Report, node_of, node_checks, empty_report, proceed, walk, nodes_in, plan_answer, JobPasses, pieceless, is_idle, idle_checks, walks_on, old_block, RefusedAs, PassedTo, Beginning, Ok, Err, Checked, Answer, verdict_of}

-- a check whose place is past node j, and what follows it
check_past : (j : ℕ) (b : Bool) (r : Refusal) (v : Checked) → ((number_of r ≡ 26 → ⊥) → j < place_of r) → PassedTo j v → PassedTo j (next (refuse_when b r) v)
check_past j true r v h g = h
check_past j false r v h g = g

proceed_past : (j : ℕ) (v : Checked) (a : Answer Report) → PassedTo j v → PassedTo j a → PassedTo j (proceed v a)
proceed_past j (Ok _) a h g = g
proceed_past j (Err r) a h g = h

proceed_refused : (number place : ℕ) (v : Checked) (a : Answer Report) → RefusedAs number place v → RefusedAs number place (proceed v a)
proceed_refused number place (Ok _) a h = absurd h
proceed_refused number place (Err r) a h = h

-- checks whose places are all past node j
abbrev AllPast : ℕ → List Check → Type 0
AllPast j [] = Unit {0}
AllPast j (c ∷ cs) = ((number_of c.1 ≡ 26 → ⊥) → j < place_of c.1) × AllPast j cs

checks_past : (j : ℕ) (cs : List Check) → AllPast j cs → PassedTo j (first_refusal cs)
unfolding first_refusal
checks_past j [] h = tt
checks_past j (c ∷ cs) h = check_past j c.0 c.1 (first_refusal cs) h.0 (checks_past j cs h.1)

-- the walk from node k on refuses at no node before it
walk_past : (J : Job) (j k : ℕ) → j < k → (ns : List (ℕ × ℕ)) (rs : List Rect) (s : Report) → PassedTo j (walk J k ns rs s)
unfolding walk
walk_past J j k h [] [] s = tt
walk_past J j k h (n ∷ ns) [] s = λ z. h
walk_past J j k h [] (r ∷ rs) s = λ z. h
walk_past J j k h (n ∷ ns) (r ∷ rs) s = proceed_past j (first_refusal (node_checks J s.copies r k n.0 n.1)) _ (checks_past j _ (λ z. h, (λ z. h, (λ z. h, (λ z. h, (λ z. h, (λ z. h, tt))))))) (walk_past J j (k + 1) (omega arith) ns _ _)

-- the verdict of the first node's checks
abbrev pub first_verdict : Job → ℕ → ℕ → Checked
first_verdict J kind operand = first_refusal (node_checks J empty_report.copies J.plate 0 kind operand)

module _ (J : Job) (kind operand : ℕ) (ns : List (ℕ × ℕ)) where
  -- the walk from the plate answers as that verdict does
  walk_refused : (number place : ℕ) → RefusedAs number place (first_verdict J kind operand)
      → RefusedAs number place (walk J 0 ((kind, operand) ∷ ns) (J.plate ∷ []) empty_report)
  unfolding walk
  walk_refused number place h = proceed_refused number place (first_verdict J kind operand) _ h

  walk_passed : PassedTo 0 (first_verdict J kind operand) → PassedTo 0 (walk J 0 ((kind, operand) ∷ ns) (J.plate ∷ []) empty_report)
  unfolding walk
  walk_passed h = proceed_past 0 (first_verdict J kind operand) _ h (walk_past J 0 1 (omega arith) ns _ _)

-- no check 26 counts
idle_past : (j k : ℕ) (ks : List ℕ) → PassedTo j (first_refusal (idle_checks k ks))
unfolding idle_checks first_refusal
idle_past j k [] = tt
idle_past j k (n ∷ ns) = check_past j (is_idle (node_of n 0) (pieceless ns)) (IdleCut k) (first_refusal (idle_checks (k + 1) ns)) (λ z. absurd (z refl)) (idle_past j (k + 1) ns)

-- an answer and then check 26, as the plan's
abbrev and_idle : List ℕ → Answer Report → Answer Report
and_idle ks a = proceed (next (verdict_of a) (first_refusal (idle_checks 0 ks))) a

passed_on : (j : ℕ) (ks : List ℕ) (a : Answer Report) → PassedTo j a → PassedTo j (and_idle ks a)
passed_on j ks (Ok s) h = proceed_past j (first_refusal (idle_checks 0 ks)) (Ok s) (idle_past j 0 ks) tt
passed_on j ks (Err r) h = h

refused_on : (number place : ℕ) (ks : List ℕ) (a : Answer Report) → RefusedAs number place a → RefusedAs number place (and_idle ks a)
refused_on number place ks (Ok _) h = absurd h
refused_on number place ks (Err r) h = h

module _ (s : List ℕ) (good : JobPasses s old_block) (kind operand : ℕ) where
  -- the walk decides for every plan with this first node
  begins : (P : Answer Report → Type 0) → ((ks : List ℕ) (a : Answer Report) → P a → P (and_idle ks a)) → ((ns : List (ℕ × ℕ)) → P (walk (block_job s old_block) 0 ((kind, operand) ∷ ns) ((block_job s old_block).plate ∷ []) empty_report)) → Beginning s kind operand P
  unfolding plan_answer
  begins P on h kinds operands e l =
      let J = block_job s old_block in
      let w = walks_on J (kind ∷ kinds) (operand ∷ operands) (ap suc e) (omega arith) (omega arith) in
      subst P (sym (ap (λ v. proceed v (plan_answer J (kind ∷ kinds) (operand ∷ operands))) good)) (on (kind ∷ kinds) _ (subst P (sym w) (h (nodes_in kinds operands))))

  pub begins_refused : (number place : ℕ) → RefusedAs number place (first_verdict (block_job s old_block) kind operand) → Beginning s kind operand (RefusedAs number place)
  begins_refused number place h = begins (RefusedAs number place) (refused_on number place) (λ ns. walk_refused (block_job s old_block) kind operand ns number place h)

  pub begins_passed : PassedTo 0 (first_verdict (block_job s old_block) kind operand) → Beginning s kind operand (PassedTo 0)
  begins_passed h = begins (PassedTo 0) (passed_on 0) (λ ns. walk_passed (block_job s old_block) kind operand ns h)
