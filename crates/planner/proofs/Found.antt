-- Finding weights: rounds, answer and memory are the inner call's, and what it promises gives the instance.
use Rattle.planner.proofs.Prelude.{◌≡◌, refl, sym, ◌∙◌, ap, ap₂, subst, true, false, ◌||◌, none, List, [], ◌∷◌, ℕ, zero, suc, ◌+◌, ◌-◌, arith, ltb, eqb, only, Tree, Piece, kinds_of, operands_of, Job, InRange, widened, capacity, by_kind, copies_of, profit, by_check, next, first_refusal, Choices, entries, job_checks, block_job, passed_both, read_in_range, Report, tree_in, arrays_answer, words_needed, factor, distance, pick_number, weight_step, stepped, WeightsFound, IdleFree, one_weight, bound_of, bound_plan, outcome_by, tree_report, plan_verdict, plan_values, reads, limit_checks, Answers, Arrays, nodes_check, Leaves, ArraysLeft, plan_copies, squares, weight_at, bound_at, within, Lent, round_verdict, last_here, last_from, last_round, rounds_run, best_round, found_values, found, RoundsLeave, LeastMet, FindPromises, RoundHolds, Ok, Err, passed, Checked, Answer, verdict_of, answer_by}
use Rattle.cutting.specs.Job as old_job
use Rattle.cutting.proofs.Promises as laws
use Rattle.bound.specs.Bound.{list_after}
use Rattle.rounds.specs.Rounds as today
use Rattle.planner.proofs.Held.{bound_is}
use Rattle.planner.proofs.Lent.{answers_by, stored_is, one_words, one_leaves}
use Rattle.refusal.proofs.Results.{verdict_is, value_answered}
use Rattle.planner.proofs.Judged.{check_new}
use Rattle.planner.proofs.Stops.{stop_rules}
use Rattle.planner.proofs.Plans.{plan_is}

-- lent memory as a pair
abbrev pub paired : today.Lent → Lent
paired m = (m.memory, (m.kinds, m.operands))

module _ (J : Job) (h : InRange J) where
  plan_eq : (weight : ℕ → ℕ) → bound_plan J weight ≡ old_job.bound_plan J weight
  plan_eq weight = plan_is J (by_kind weight) (laws.plan_follows J weight h) (widened J).plate.0 (widened J).plate.1 (capacity J weight) (omega arith) (omega arith)

  copies_eq : (weight : ℕ → ℕ) → plan_copies J weight ≡ today.plan_copies J weight
  copies_eq weight = λ i j. copies_of j (plan_eq weight i)

  verdict_eq : (weight : ℕ → ℕ) (m : today.Lent) → round_verdict J weight (paired m) ≡ today.round_verdict J weight m
  unfolding round_verdict today.round_verdict
  verdict_eq weight m = ap₂ next (sym (stored_is passed J (one_weight weight J) m.memory m.memory (words_needed (widened J) (capacity J weight)) (one_words J weight))) (ap (λ t. first_refusal (nodes_check t (m.kinds, m.operands) ∷ [])) (plan_eq weight))

  module _ (lower : ℕ) where
    -- the weights after round k, by its weights, copies and bound
    stepping : ℕ → (ℕ → ℕ) → (ℕ → ℕ) → ℕ → ℕ → ℕ
    stepping k w c b i = only (ltb i J.count) (stepped (ltb (J.demand i) (c i)) (w i) (weight_step (factor k) (b - lower) (squares J c) (distance (c i) (J.demand i))))

    pub weight_eq : (k : ℕ) → weight_at J lower k ≡ today.weight_at J lower k
    unfolding weight_at today.weight_at today.next_weight stepping
    weight_eq zero = refl
    weight_eq (suc k) = ap (λ w. stepping k w (plan_copies J w) (bound_of J w)) (weight_eq k) ∙ ap₂ (stepping k (today.weight_at J lower k)) (copies_eq (today.weight_at J lower k)) (bound_is J (today.weight_at J lower k))

    pub bound_eq : (k : ℕ) → bound_at J lower k ≡ today.bound_at J lower k
    bound_eq k = ap (bound_of J) (weight_eq k) ∙ bound_is J (today.weight_at J lower k)

    pub run_verdict : (k : ℕ) (m : today.Lent) → round_verdict J (weight_at J lower k) (paired m) ≡ today.round_verdict J (today.weight_at J lower k) m
    run_verdict k m = ap (λ w. round_verdict J w (paired m)) (weight_eq k) ∙ verdict_eq (today.weight_at J lower k) m

    here_eq : (m : today.Lent) (k : ℕ) → last_here J lower (paired m) k ≡ today.last_here J lower m k
    unfolding last_here today.last_here
    here_eq m k = λ i. by_check (run_verdict k m i) false (λ r. true) || (within J ((ap (plan_copies J) (weight_eq k) ∙ copies_eq (today.weight_at J lower k)) i) || (eqb k 17 || ltb 4095 (capacity J (weight_eq (suc k) i))))

    from_eq : (m : today.Lent) (n k : ℕ) → last_from J lower (paired m) n k ≡ today.last_from J lower m n k
    unfolding last_from today.last_from
    from_eq m zero k = refl
    from_eq m (suc n) k = ap₂ (λ b j. pick_number b k j) (here_eq m k) (from_eq m n (k + 1))

    pub last_eq : (m : today.Lent) → last_round J lower (paired m) ≡ today.last_round J lower m
    last_eq m = from_eq m 17 0

    pub run_eq : (m : today.Lent) → rounds_run J lower (paired m) ≡ today.rounds_run J lower m
    run_eq m = ap (λ k. by_check (round_verdict J (weight_at J lower k) (paired m)) (k + 1) (λ r. k)) (last_eq m) ∙ ap (λ v. by_check v (today.last_round J lower m + 1) (λ r. today.last_round J lower m)) (run_verdict (today.last_round J lower m) m)

    best_eq : (n : ℕ) → best_round J lower n ≡ today.best_round J lower n
    unfolding best_round today.best_round
    best_eq zero = refl
    best_eq (suc n) = ap₂ (λ a k. pick_number (ltb a (bound_at J lower k)) (suc n) k) (bound_eq (suc n)) (best_eq n) ∙ ap (λ b. pick_number (ltb (today.bound_at J lower (suc n)) b) (suc n) (today.best_round J lower n)) (bound_eq (today.best_round J lower n))

    abbrev found_as : ℕ → ℕ → List ℕ → WeightsFound
    found_as bound rounds weights = record { bound = bound; rounds = rounds; weights = weights }

    pub found_eq : (n : ℕ) → found J lower n ≡ today.found J lower n
    unfolding found today.found
    found_eq zero = refl
    found_eq (suc n) = ap (λ k. found_as (bound_at J lower k) (suc n) (entries (weight_at J lower k) J.count)) (best_eq n)
        ∙ ap₂ (λ b w. found_as b (suc n) (entries w J.count)) (bound_eq (today.best_round J lower n)) (weight_eq (today.best_round J lower n))

    -- what a round leaves, by its weights
    abbrev RoundLeaves : (ℕ → ℕ) → Lent → Lent → Type 0
    RoundLeaves weight mid new = Leaves passed J (one_weight weight J) mid.0 new.0 × ArraysLeft (round_verdict J weight mid) (bound_plan J weight) mid.1 new.1

    round_new : (weight : ℕ → ℕ) (mid new : today.Lent) → today.RoundLeaves J weight mid new → RoundLeaves weight (paired mid) (paired new)
    round_new weight mid new l = (
      one_leaves passed J weight mid.memory new.memory l.memory,
      (
        l.kinds ∙ sym (ap₂ (λ v t. list_after v (kinds_of t) mid.kinds) (verdict_eq weight mid) (plan_eq weight)),
        l.operands ∙ sym (ap₂ (λ v t. list_after v (operands_of t) mid.operands) (verdict_eq weight mid) (plan_eq weight)),
      ),
    )

    pub leave_new : (n : ℕ) (old new : today.Lent) → today.RoundsLeave J lower n old new → RoundsLeave J lower n (paired old) (paired new)
    leave_new zero old new e = ap paired e
    leave_new (suc n) old new l = (paired l.0, leave_new n old l.0 l.1, subst (λ w. RoundLeaves w (paired l.0) (paired new)) (sym (weight_eq n)) (round_new (today.weight_at J lower n) l.0 new l.2))

module _ (s : List ℕ) (choices : Choices) (plan : Arrays) (old new : today.Lent) (r : Answer WeightsFound) (p : today.FindPromises s choices plan.0 plan.1 old new r) where
  abbrev K : Job
  K = block_job s choices

  abbrev tree : Tree Piece
  tree = tree_in plan.0 plan.1

  -- the lower figure
  abbrev lower : ℕ
  lower = profit K tree

  -- the job's checks and the lent plan's
  abbrev before : Checked
  before = next (reads none s choices) (plan_verdict K none plan.0 plan.1)

  told : Answers plan_values before (tree_report K tree) (arrays_answer s choices plan.0 plan.1)
  told = (check_new s choices plan.0 plan.1 (arrays_answer s choices plan.0 plan.1) refl).0

  before_eq : today.before_verdict s choices plan.0 plan.1 ≡ before
  before_eq = ap verdict_of told.answer ∙ verdict_is before (tree_report K tree)

  range : before ≡ passed → InRange K
  range b = read_in_range s choices (passed_both (first_refusal (job_checks s choices)) (first_refusal (limit_checks none)) (passed_both (reads none s choices) (plan_verdict K none plan.0 plan.1) b).0).0

  passed_before : {a : WeightsFound} → r ≡ Ok a → before ≡ passed
  passed_before e =
      let v = (value_answered (today.find_verdict s choices plan.0 plan.1 old) (today.find_found s choices plan.0 plan.1 old) (sym p.answers ∙ e)).0 in
      sym before_eq ∙ (passed_both (today.before_verdict s choices plan.0 plan.1) (today.round_verdict K (today.weight_at K lower 0) old) v).0

  answered : r ≡ answer_by (next before (round_verdict K (weight_at K lower 0) (paired old))) (found K lower (rounds_run K lower (paired old)))
  answered = p.answers ∙ (ap (λ v. answer_by (next v (today.round_verdict K (today.weight_at K lower 0) old)) (today.find_found s choices plan.0 plan.1 old)) before_eq ∙ go before refl)
    where
      go : (v : Checked) → before ≡ v → answer_by (next v (today.round_verdict K (today.weight_at K lower 0) old)) (today.find_found s choices plan.0 plan.1 old)
          ≡ answer_by (next v (round_verdict K (weight_at K lower 0) (paired old))) (found K lower (rounds_run K lower (paired old)))
      go (Err x) b = refl
      go (Ok _) b = ap₂ (λ v a. answer_by v a) (sym (run_verdict K (range b) lower 0 old)) (sym (ap (found K lower) (run_eq K (range b) lower old) ∙ found_eq K (range b) lower (today.rounds_run K lower old)))

  left : by_check before (RoundsLeave K lower (suc (last_round K lower (paired old))) (paired old) (paired new)) (λ x. paired new ≡ paired old)
  left = go before refl (subst (λ v. by_check v (today.RunLeaves K lower old new) (λ x. new ≡ old)) before_eq p.memory)
    where
      go : (v : Checked) → before ≡ v → by_check v (today.RunLeaves K lower old new) (λ x. new ≡ old) → by_check v (RoundsLeave K lower (suc (last_round K lower (paired old))) (paired old) (paired new)) (λ x. paired new ≡ paired old)
      go (Err x) b e = ap paired e
      go (Ok _) b l = subst (λ k. RoundsLeave K lower (suc k) (paired old) (paired new)) (sym (last_eq K (range b) lower old)) (leave_new K (range b) lower (suc (today.last_round K lower old)) old new l)

  pub find_new : FindPromises s choices plan (paired old) (paired new) r
  find_new = record {
    answers = answers_by found_values (next before (round_verdict K (weight_at K lower 0) (paired old))) (found K lower (rounds_run K lower (paired old))) r answered;
    memory = left;
    judged = (check_new s choices plan.0 plan.1 (arrays_answer s choices plan.0 plan.1) refl).1;
    least = λ a e. (let l = p.least a e in let h = range (passed_before e) in record {
      round = l.round;
      met = l.met;
      bound_is = l.bound_is ∙ sym (bound_eq K h lower l.round);
      weights_are = l.weights_are ∙ sym (ap (λ w. entries w K.count) (weight_eq K h lower l.round));
      least = λ k m. rw (bound_eq K h lower k) (l.least k m);
      first = λ k m. rw (bound_eq K h lower k) (l.first k m);
    });
    again = λ a e. ((p.again a e).accepted, (p.again a e).bound_is ∙ sym (bound_is K _));
    rounds = p.rounds;
    each = λ a e k l. (let t = p.each a e k l in let h = range (passed_before e) in record {
      gap_is = ap (λ n. lower + (n - lower)) (bound_eq K h lower k) ∙ (t.gap_is ∙ sym (bound_eq K h lower k));
      idle_free = subst IdleFree (sym (ap (bound_plan K) (weight_eq K h lower k) ∙ plan_eq K h (today.weight_at K lower k))) t.idle_free;
    });
    demands = λ a e. ((λ t g u d. p.demands a e t g d), (λ m l t g u d. p.finer a e m l t g d));
    steps = p.steps;
    stop = stop_rules K lower (paired old);
  }
