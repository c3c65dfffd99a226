-- What the call promises, from the verdicts of the job and of the lent plan and from the run of the rounds.
use Rattle.rounds.proofs.Prelude.{◌≡◌, refl, sym, ◌∙◌, ap, subst, Bool, true, false, ◌||◌, List, ℕ, zero, suc, ◌≤◌, ◌<◌, ℕ_discrete, arith, ltb-true, ltb-false, ltb, eqb, length, take, length-take-le, Job, by_kind, capacity, bound_of, NoneAbove, range_solid, plan_idle, by_weight_monotone, any_on, none_finer, none_above, first_refusal, Refusal, Choices, job_checks, block_job, weight_in, entries_length, read_in_range, both_accepted, Report, proceed, plan_answer, plans_checked, WeightsFound, pick_number, Lent, weight_at, round_verdict, rounds_by, rounds_run, bound_at, best_round, found, before_verdict, lower_figure, run_answer, find_verdict, find_found, find_answer, found_values, refuses, last_here, last_round, within, plan_copies, LeastMet, RoundHolds, BoundAgain, step_rules, Ok, Err, passed, Checked, Answer, answer_by, verdict_of, RunLeaves, FindPromises, FindLeaves, profit, InRange, tree_in, plan_is, drawn_is, passed_both}
use Rattle.std.specs.Result.{IsErrAnd}
use Rattle.refusal.proofs.Results.{value_answered, told, refused_answer, before_refuses, before_passes}
use Rattle.rounds.proofs.Rules.{rounds_most, stop_rules}
use Rattle.rounds.proofs.Run.{neither, weight_past, no_capacity}
use Rattle.rounds.proofs.Ends.{listed, weights_good}

module _ (J : Job) (lower : ℕ) where
  -- the best round's bound is the least, and no earlier round has it
  pub best_least : (n k : ℕ) → k ≤ n → bound_at J lower (best_round J lower n) ≤ bound_at J lower k
  unfolding best_round
  best_least zero k h = let e : k ≡ 0 = omega arith in omega (arith, ap (bound_at J lower) e)
  best_least (suc n) k h = go (ltb (bound_at J lower (suc n)) (bound_at J lower (best_round J lower n))) refl (ℕ_discrete k (suc n)) (λ (l : k ≤ n). best_least n k l)
    where
      go : (b : Bool) → ltb (bound_at J lower (suc n)) (bound_at J lower (best_round J lower n)) ≡ b → Dec (k ≡ suc n) → (k ≤ n → bound_at J lower (best_round J lower n) ≤ bound_at J lower k)
          → bound_at J lower (pick_number b (suc n) (best_round J lower n)) ≤ bound_at J lower k
      go true e (yes q) ih = omega (arith, ap (bound_at J lower) q)
      go true e (no q) ih = omega (arith, ltb-true (bound_at J lower (suc n)) (bound_at J lower (best_round J lower n)) e, ih (omega arith))
      go false e (yes q) ih = omega (arith, ltb-false (bound_at J lower (suc n)) (bound_at J lower (best_round J lower n)) e, ap (bound_at J lower) q)
      go false e (no q) ih = ih (omega arith)

  pub best_within : (n : ℕ) → best_round J lower n ≤ n
  unfolding best_round
  best_within zero = omega arith
  best_within (suc n) = go (ltb (bound_at J lower (suc n)) (bound_at J lower (best_round J lower n))) (best_within n)
    where
      go : (b : Bool) → best_round J lower n ≤ n → pick_number b (suc n) (best_round J lower n) ≤ suc n
      go true l = omega arith
      go false l = omega arith

  pub best_first : (n k : ℕ) → k < best_round J lower n → bound_at J lower (best_round J lower n) < bound_at J lower k
  unfolding best_round
  best_first zero k h = absurd (omega arith)
  best_first (suc n) k h = go (ltb (bound_at J lower (suc n)) (bound_at J lower (best_round J lower n))) refl (λ (l : k ≤ n). best_least n k l) (λ (l : k < best_round J lower n). best_first n k l) h
    where
      go : (b : Bool) → ltb (bound_at J lower (suc n)) (bound_at J lower (best_round J lower n)) ≡ b → (k ≤ n → bound_at J lower (best_round J lower n) ≤ bound_at J lower k)
          → (k < best_round J lower n → bound_at J lower (best_round J lower n) < bound_at J lower k)
          → k < pick_number b (suc n) (best_round J lower n) → bound_at J lower (pick_number b (suc n) (best_round J lower n)) < bound_at J lower k
      go true e il ih l = omega (arith, ltb-true (bound_at J lower (suc n)) (bound_at J lower (best_round J lower n)) e, il (omega arith))
      go false e il ih l = ih l

  -- an answer after some round has the least bound met, the first round's that gave it
  found_least : (n : ℕ) → 1 ≤ n → LeastMet J lower (found J lower n)
  unfolding found
  found_least zero h = absurd (omega arith)
  found_least (suc n) h = record {
    round = best_round J lower n;
    met = omega (arith, best_within n);
    bound_is = refl;
    weights_are = refl;
    least = λ k l. best_least n k (omega arith);
    first = λ k l. best_first n k l;
  }

  -- its rounds
  found_rounds : (n : ℕ) → (found J lower n).rounds ≡ n
  unfolding found
  found_rounds zero = refl
  found_rounds (suc n) = refl

module _ (J : Job) (lower : ℕ) (m : Lent) where
  -- a run that began has counted a round
  rounds_some : round_verdict J (weight_at J lower 0) m ≡ passed → 1 ≤ rounds_run J lower m
  rounds_some p = go (last_round J lower m) (round_verdict J (weight_at J lower (last_round J lower m)) m) refl refl
    where
      go : (k : ℕ) (v : Checked) → last_round J lower m ≡ k → round_verdict J (weight_at J lower (last_round J lower m)) m ≡ v → 1 ≤ rounds_by v (last_round J lower m)
      go k (Ok _) e f = omega arith
      go zero (Err x) e f = let q = ap (λ i. round_verdict J (weight_at J lower i) m) e in absurd (let z : ◌≡◌ {A = ℕ} 0 1 = cc in omega arith)
      go (suc k) (Err x) e f = omega (arith, e)

  -- a round that is begun has a capacity of at most 4,095
  begun_capacity : (k : ℕ) → k ≤ last_round J lower m → capacity J (weight_at J lower k) ≤ 4095
  unfolding last_here
  begun_capacity zero h = no_capacity J lower
  begun_capacity (suc k) h =
      let full = ltb 4095 (capacity J (weight_at J lower (suc k))) in
      let kept = within J (plan_copies J (weight_at J lower k)) in
      let p = neither (refuses (round_verdict J (weight_at J lower k) m)) (kept || (eqb k 17 || full)) ((stop_rules J lower m).first k (omega arith)) in
      let q = neither kept (eqb k 17 || full) p.1 in
      ltb-false 4095 (capacity J (weight_at J lower (suc k))) (neither (eqb k 17) full q.1).1

  -- a round that is counted was begun
  counted_begun : (k : ℕ) → k < rounds_run J lower m → k ≤ last_round J lower m
  counted_begun k = go (round_verdict J (weight_at J lower (last_round J lower m)) m)
    where
      go : (v : Checked) → k < rounds_by v (last_round J lower m) → k ≤ last_round J lower m
      go (Ok _) h = omega arith
      go (Err x) h = omega arith

-- a plan's answer after the job's checks: both passed
both_pass : (v : Checked) (a : Answer Report) → verdict_of (proceed v a) ≡ passed → (v ≡ passed) × (r : Report) × (a ≡ Ok r)
both_pass (Ok _) (Ok r) p = (refl, r, refl)
both_pass (Ok _) (Err x) p = absurd (let z : ◌≡◌ {A = ℕ} 0 1 = cc in omega arith)
both_pass (Err x) a p = absurd (let z : ◌≡◌ {A = ℕ} 0 1 = cc in omega arith)

module _ (s : List ℕ) (choices : Choices) (kinds operands : List ℕ) where
  -- the job of the block, and the lower figure
  abbrev J : Job
  J = block_job s choices

  abbrev lower : ℕ
  lower = lower_figure s choices kinds operands

  module _ (good : first_refusal (job_checks s choices) ≡ passed) {report : Report} (p : plan_answer J kinds operands ≡ Ok report) where
    range : InRange J
    range = read_in_range s choices good

    -- the profit of a lent plan that passed is the lower figure, at most every bound
    pub low_is : report.profit ≡ lower
    low_is = let t = (plans_checked J range.kinds.1 kinds operands).tree _ p in ap (λ (r : Report). r.profit) t.2.own ∙ ap (profit J) (drawn_is J kinds operands t.0 t.1.drawn)

    pub low : (weight : ℕ → ℕ) → lower ≤ bound_of J weight
    low weight = let t = plan_is J range.kinds.1 kinds operands p in none_above J weight range (tree_in kinds operands) (any_on J (tree_in kinds operands) t.drawn.on_plate) t.drawn.demands

    -- every round's gap is a true difference, and no plan of one has an idle cut
    holds : (k : ℕ) → RoundHolds J lower k
    holds k = record { gap_is = omega (arith, low (weight_at J lower k)); idle_free = plan_idle J (by_kind (weight_at J lower k)) (by_weight_monotone _) (range_solid J range) _ _ _ }

  module _ (old : Lent) where
    -- an answer has the least bound of the rounds run
    module _ {r : Answer WeightsFound} (e : r ≡ find_answer s choices kinds operands old) {a : WeightsFound} (f : r ≡ Ok a) where
      value : (find_verdict s choices kinds operands old ≡ passed) × (a ≡ find_found s choices kinds operands old)
      value = value_answered _ _ (sym e ∙ f)

      -- the checks before the rounds passed, and those of round 0
      verdicts : (before_verdict s choices kinds operands ≡ passed) × (round_verdict J (weight_at J lower 0) old ≡ passed)
      verdicts = passed_both _ _ value.0

      before : (first_refusal (job_checks s choices) ≡ passed) × (report : Report) × (plan_answer J kinds operands ≡ Ok report)
      before = both_pass _ _ verdicts.0

      counted : a.rounds ≡ rounds_run J lower old
      counted = ap (λ (x : WeightsFound). x.rounds) value.1 ∙ found_rounds J lower (rounds_run J lower old)

      least_met : LeastMet J lower a
      least_met = subst (LeastMet J lower) (sym value.1) (found_least J lower (rounds_run J lower old) (rounds_some J lower old verdicts.1))

      none_more : NoneAbove J a.bound
      none_more t g k = let b = least_met in omega (arith, b.bound_is, none_above J (weight_at J lower b.round) (read_in_range s choices before.0) t g k)

      -- the weights of the least bound are accepted, and the bound is theirs
      given_again : BoundAgain s choices a
      given_again =
          let l = least_met in
          let w = weight_at J lower l.round in
          let few = (read_in_range s choices before.0).kinds.1 in
          let ws : weight_in (take J.count a.weights) ≡ w = ap (λ x. weight_in (take J.count x)) l.weights_are ∙ listed w J.count few (weight_past J lower l.round) in
          let many : length (take J.count a.weights) ≡ J.count = length-take-le J.count a.weights (omega (arith, ap length l.weights_are, entries_length w J.count, few)) in
          let small = begun_capacity J lower old l.round (counted_begun J lower old l.round (omega (arith, l.met, counted))) in
          record {
            accepted = both_accepted s choices (take J.count a.weights) before.0 (weights_good J (take J.count a.weights) many (subst (λ v. capacity J v ≤ 4095) (sym ws) small));
            bound_is = l.bound_is ∙ ap (bound_of J) (sym ws);
          }

    -- the answer and the memory give the rest
    promised : {new : Lent} {r : Answer WeightsFound} → r ≡ find_answer s choices kinds operands old → FindLeaves s choices kinds operands old new → FindPromises s choices kinds operands old new r
    promised e l = record {
      answers = e;
      outcome = (told found_values _ _ e).1;
      memory = l;
      least = λ a f. least_met e f;
      again = λ a f. given_again e f;
      rounds = λ a f. omega (arith, counted e f, rounds_most J lower old);
      each = λ a f k h. holds (before e f).0 (before e f).2 k;
      demands = λ a f. none_more e f;
      finer = λ a f. none_finer J (range_solid J (read_in_range s choices (before e f).0)) a.bound (none_more e f);
      steps = step_rules;
      stop = stop_rules J lower old;
    }

    -- a check before the rounds refuses
    early : {x : Refusal} {r : Answer WeightsFound} → before_verdict s choices kinds operands ≡ Err x → IsErrAnd r (λ y. y ≡ x) → FindPromises s choices kinds operands old old r
    early v p = promised (refused_answer _ _ _ (before_refuses _ _ v) p) (rw v refl)

    -- the job is refused
    pub job_refused : {x : Refusal} {r : Answer WeightsFound} → first_refusal (job_checks s choices) ≡ Err x → IsErrAnd r (λ y. y ≡ x) → FindPromises s choices kinds operands old old r
    job_refused e p = early (ap (λ v. verdict_of (proceed v (plan_answer J kinds operands))) e) p

    module _ (good : first_refusal (job_checks s choices) ≡ passed) where
      -- then the plan's check decides
      walked : before_verdict s choices kinds operands ≡ verdict_of (plan_answer J kinds operands)
      walked = ap (λ v. verdict_of (proceed v (plan_answer J kinds operands))) good

      -- the lent plan is refused
      pub plan_refused : {x : Refusal} {r : Answer WeightsFound} → plan_answer J kinds operands ≡ Err x → IsErrAnd r (λ y. y ≡ x) → FindPromises s choices kinds operands old old r
      plan_refused e p = early (walked ∙ ap verdict_of e) p

      -- the rounds are run
      pub ran : {new : Lent} {r : Answer WeightsFound} {report : Report} → plan_answer J kinds operands ≡ Ok report → r ≡ run_answer J report.profit old → RunLeaves J report.profit old new → FindPromises s choices kinds operands old new r
      ran {new} {r} {report} p a m =
          let v = walked ∙ ap verdict_of p in
          let l = low_is good p in
          promised (a ∙ ap (λ n. run_answer J n old) l ∙ sym (ap (λ w. answer_by w (find_found s choices kinds operands old)) (before_passes _ _ v))) (rw v (subst (λ n. RunLeaves J n old new) l m))
