-- What the call promises, from the verdicts of job, weights and multipliers and from the bound of an accepted job.
use Rattle.multipliers.proofs.Prelude.{◌≡◌, refl, sym, ◌∙◌, ap, ap₂, subst, List, [], ◌∷◌, ℕ, zero, suc, ◌+◌, ◌≤◌, ◌<◌, arith, ltb-false, eqb-true, eq-eqb, not-false, eqb, length, most_kinds, most_figure, Job, InRange, widened, capacity, bound_of, bound_ceiling, figures_most, Check, next, first_refusal, Refusal, MultiplierCount, Choices, JobRecord, job_of, record_of, each_kind, block_job, weight_in, Decides, begins, passes, ends, cons_passed, each_passed, passed_both, next_passed, entries_length, accepted_in_range, Taken, Memory, Leaves, memory_checks, accept_verdict, block_capacity, bound_report, bound_answer, answer_by, BoundLeaves, RecordBoundable, RecordBounded, BoundReport, record_ready, lowered, multiplier_in, multiplier_worth, multiplier_check, multiplier_checks, most_multiplier, lowered_job, multiplied_verdict, AllAccepted, lagrangian_verdict, answer_by, block_lagrangian, lagrangian_answer, lagrangian_values, lagrangian_outcome, LagrangianLeaves, LagrangianHolds, as_lagrangian, LagrangianPromises, Multipliable, Multiplied, LagrangianReport, Ok, Err, passed, Checked, Answer, refuse_when, Acceptance, acceptance_of, refused_both, check_passes, not, passed_false}
use Rattle.refusal.proofs.Results.{before_refuses, before_passes, refused_answer, said_by, value_answered}
use Rattle.std.specs.Result.{IsErrAnd}
use Rattle.multipliers.proofs.Lagrange.{lowered_range, lagrangian_held, lowered_same, worth_none}

-- checks of kinds that each pass, pass
all_pass : (f : ℕ → List Check) (n : ℕ) → ((i : ℕ) → first_refusal (f i) ≡ passed) → passed ≡ first_refusal (each_kind f 0 n)
all_pass f n p = ends f n n (omega arith) (go n (omega arith))
  where
    go : (i : ℕ) → i ≤ n → Decides f n i
    go zero l = begins f n
    go (suc i) l = let e : i + 1 ≡ suc i = omega arith in subst (Decides f n) e (passes f i n {a = passed} (omega (arith, l)) (go i (omega (arith, l))) (sym (p i)) refl)

-- as many multipliers as kinds: their own checks decide
pub counted : (n : ℕ) (ms : List ℕ) {a v : Checked} → a ≡ refuse_when (not (eqb (length ms) n)) MultiplierCount → a ≡ passed → v ≡ first_refusal (each_kind (λ i. multiplier_check ms i ∷ []) 0 (length ms))
    → v ≡ first_refusal (multiplier_checks n ms)
counted n ms e p f = f ∙ ap (λ k. first_refusal (each_kind (λ i. multiplier_check ms i ∷ []) 0 k)) (eqb-true (length ms) n (not-false (eqb (length ms) n) (passed_false _ _ (sym e ∙ p)))) ∙ check_passes _ _ _ e p

-- multipliers that passed: one for each kind, each in its range
pub multipliers_passed : (n : ℕ) (ms : List ℕ) → first_refusal (multiplier_checks n ms) ≡ passed → (length ms ≡ n) × ((i : ℕ) → i < n → multiplier_in ms i ≤ most_multiplier)
multipliers_passed n ms p =
    let a = cons_passed _ _ _ p in
    let low : (i : ℕ) → i < n → multiplier_in ms i ≤ most_multiplier =
    λ i l. ltb-false most_multiplier (multiplier_in ms i) (cons_passed _ _ _ (each_passed (λ i. multiplier_check ms i ∷ []) 0 n i a.1 (omega arith) (omega (arith, l)))).0 in
    (eqb-true (length ms) n (not-false (eqb (length ms) n) a.0), low)

-- multipliers of 0, one for each kind, pass
zeros_pass : (n : ℕ) (ms : List ℕ) → length ms ≡ n → ((i : ℕ) → multiplier_in ms i ≡ 0) → first_refusal (multiplier_checks n ms) ≡ passed
unfolding first_refusal
zeros_pass n ms h none =
    let e : passed ≡ refuse_when (not (eqb (length ms) n)) MultiplierCount = simp (eq-eqb (length ms) n h) in
    sym (counted n ms e refl (all_pass (λ i. multiplier_check ms i ∷ []) (length ms) (λ i. zero_passes i)))
  where
    zero_passes : (i : ℕ) → first_refusal (multiplier_check ms i ∷ []) ≡ passed
    zero_passes i = simp (none i)

module _ (J : Job) (q : ℕ) (ws ms : List ℕ) (h : Multipliable J q ws ms) where
  -- what the bound of the lowered record asks
  pub lowered_ready : {K : Job} → K ≡ lowered (multiplier_in ms) J → RecordBoundable K q ws
  lowered_ready k = subst (λ K. RecordBoundable K q ws) (sym k) ready
    where
      ready : RecordBoundable (lowered (multiplier_in ms) J) q ws
      ready = record { in_range = lowered_range J (multiplier_in ms) h.ready.in_range; weighed = h.ready.weighed; most = h.ready.most }

  -- its bound is at most the ceiling
  lowered_low : (bound_report (widened (lowered (multiplier_in ms) J)) (weight_in ws) q).bound ≤ most_figure
  lowered_low = rw h.capacity_is (bound_ceiling (lowered (multiplier_in ms) J) (weight_in ws) (lowered_range J (multiplier_in ms) h.ready.in_range))

-- the answer of the record, from the bound of a record of the lowered job
module _ (J : Job) (multiplier weight : ℕ → ℕ) (q : ℕ) {K : Job} (k : K ≡ lowered multiplier J) {old new : Memory} {a : Answer BoundReport} (b : RecordBounded (widened K) weight q old new a) where
  bounded : RecordBounded (widened (lowered multiplier J)) weight q old new a
  bounded = subst (λ K. RecordBounded (widened K) weight q old new a) k b

  -- a report is the definition's
  behind : {x : BoundReport} → a ≡ Ok x
      → (first_refusal (memory_checks (widened (lowered multiplier J)) q old) ≡ passed) × (x ≡ bound_report (widened (lowered multiplier J)) weight q)
  behind e = value_answered _ _ (sym bounded.1.answer ∙ e)

-- an answered bound of the lowered job is at most the ceiling
pub answered_low : (J : Job) (q : ℕ) (ws ms : List ℕ) {K : Job} (k : K ≡ lowered (multiplier_in ms) J) {old new : Memory} {a : Answer BoundReport} {x : BoundReport}
    → Multipliable J q ws ms → RecordBounded (widened K) (weight_in ws) q old new a → a ≡ Ok x → x.bound ≤ most_figure
answered_low J q ws ms k h b e = omega (arith, lowered_low J q ws ms h, ap (λ x. x.bound) (behind J (multiplier_in ms) (weight_in ws) q k b e).1)

-- an answer without multipliers is the bound call's
alone_by : (v : Checked) (b : BoundReport) (n : ℕ) → n ≡ 0 → answer_by v (record { lagrangian = b.bound + n; lowered = b }) ≡ as_lagrangian (answer_by v b)
alone_by (Ok _) b n e = let f : b.bound + n ≡ b.bound = omega (arith, e) in ap (λ k. Ok (record { lagrangian = k; lowered = b })) f
alone_by (Err r) b n e = refl

module _ (s : List ℕ) (choices : Choices) (ws ms : List ℕ) where
  -- the job of an accepted block is in the scope's ranges
  in_range : AllAccepted s choices ws ms → InRange (block_job s choices)
  in_range a = accepted_in_range s choices ws (passed_both (accept_verdict s choices ws) (first_refusal (multiplier_checks (block_job s choices).count ms)) a).0

  -- so its bound holds
  held : AllAccepted s choices ws ms → LagrangianHolds (block_job s choices) (multiplier_in ms) (weight_in ws) (block_capacity s choices ws) (bound_of (lowered_job s choices ms) (weight_in ws)) (bound_of (lowered_job s choices ms) (weight_in ws) + multiplier_worth (multiplier_in ms) (block_job s choices))
  held a = lagrangian_held (block_job s choices) (multiplier_in ms) (weight_in ws) (in_range a)

  module _ (old : Memory) where
    -- an answered bound holds
    answered_held : (b : LagrangianReport) → lagrangian_answer s choices ws ms old ≡ Ok b
        → LagrangianHolds (block_job s choices) (multiplier_in ms) (weight_in ws) b.lowered.capacity b.lowered.bound b.lagrangian
    answered_held b f =
        let w = value_answered _ _ f in
        let v = passed_both (multiplied_verdict s choices ws ms) (first_refusal (memory_checks (widened (lowered_job s choices ms)) (block_capacity s choices ws) old)) w.0 in
        rw w.1 (held v.0)

    module _ (count : length ms ≡ (block_job s choices).count) (none : (i : ℕ) → multiplier_in ms i ≡ 0) where
      same_job : lowered_job s choices ms ≡ block_job s choices
      same_job = lowered_same (block_job s choices) (multiplier_in ms) none

      -- multipliers of 0 pass
      same_verdict : multiplied_verdict s choices ws ms ≡ accept_verdict s choices ws
      same_verdict = ap (next (accept_verdict s choices ws)) (zeros_pass (block_job s choices).count ms count none) ∙ sym (next_passed (accept_verdict s choices ws))

      -- so the call is the bound call
      alone_answer : lagrangian_answer s choices ws ms old ≡ as_lagrangian (bound_answer s choices ws old)
      alone_answer =
          let q = block_capacity s choices ws in
          ap₂ (λ u K. answer_by (next u (first_refusal (memory_checks (widened K) q old)))
          (record { lagrangian = (bound_report (widened K) (weight_in ws) q).bound + multiplier_worth (multiplier_in ms) (block_job s choices); lowered = bound_report (widened K) (weight_in ws) q })) same_verdict same_job
          ∙ alone_by (next (accept_verdict s choices ws) (first_refusal (memory_checks (widened (block_job s choices)) q old))) (bound_report (widened (block_job s choices)) (weight_in ws) q) _ (worth_none (block_job s choices) (multiplier_in ms) none)

      alone_memory : {new : Memory} → LagrangianLeaves s choices ws ms old new → BoundLeaves s choices ws old new
      alone_memory {new} l =
          let q = block_capacity s choices ws in
          let a : Leaves (accept_verdict s choices ws) (widened (lowered_job s choices ms)) (weight_in ws) q old new = subst (λ u. Leaves u (widened (lowered_job s choices ms)) (weight_in ws) q old new) same_verdict l in
          subst (λ K. Leaves (accept_verdict s choices ws) (widened K) (weight_in ws) q old new) same_job a

    -- the answer and the memory give the rest
    promised : {new : Memory} (r : Answer LagrangianReport) → r ≡ lagrangian_answer s choices ws ms old → LagrangianLeaves s choices ws ms old new → LagrangianPromises s choices ws ms old new r
    promised r e l = record {
      answers = e;
      outcome = ap (λ x. lagrangian_outcome x) e ∙ said_by lagrangian_values (lagrangian_verdict s choices ws ms old) (block_lagrangian s choices ws ms);
      memory = l;
      holds = λ b f. answered_held b (sym e ∙ f);
      accepted = held;
      figures = λ a. figures_most (lowered_job s choices ms) (weight_in ws) (lowered_range (block_job s choices) (multiplier_in ms) (in_range a));
      bound_alone = λ count none. (e ∙ alone_answer count none, alone_memory count none l);
    }

    -- the job, its weights or its multipliers are refused
    early : {x : Refusal} {r : Answer LagrangianReport} → multiplied_verdict s choices ws ms ≡ Err x → IsErrAnd r (λ y. y ≡ x) → LagrangianPromises s choices ws ms old old r
    early {r = r} v p = promised r (refused_answer _ _ _ (before_refuses _ _ v) p) (rw v (record { lengths = refl; widths = refl; table = refl }))

    pub job_refused : {a : Answer Acceptance} {x : Refusal} {r : Answer LagrangianReport} → a ≡ acceptance_of s choices ws → a ≡ Err x → IsErrAnd r (λ y. y ≡ x) → LagrangianPromises s choices ws ms old old r
    job_refused e f p = early (before_refuses _ _ (refused_both s choices ws e f)) p

    module _ {j : JobRecord} {q : ℕ} (t : Taken s choices ws j q) {v : Checked} (e : v ≡ first_refusal (multiplier_checks j.count ms)) where
      verdict_is : multiplied_verdict s choices ws ms ≡ v
      verdict_is = before_passes _ _ t.accepted ∙ sym (e ∙ ap (λ j. first_refusal (multiplier_checks j.count ms)) t.record_is)

      pub multipliers_refused : {x : Refusal} {r : Answer LagrangianReport} → v ≡ Err x → IsErrAnd r (λ y. y ≡ x) → LagrangianPromises s choices ws ms old old r
      multipliers_refused p f = early (verdict_is ∙ p) f

      -- what the bound of the record asks
      pub multipliable : v ≡ passed → Multipliable (job_of j) q ws ms
      multipliable p =
          let k = multipliers_passed j.count ms (sym e ∙ p) in
          record { ready = record_ready s choices ws t; capacity_is = t.capacity_is ∙ sym (ap (λ j. capacity (job_of j) (weight_in ws)) t.record_is); counts = k.0; low = k.1 }

      pub prices_there : length j.prices ≡ most_kinds
      unfolding record_of
      prices_there = ap (λ j. length j.prices) t.record_is ∙ entries_length _ _

      -- all are accepted
      pub accepted : v ≡ passed → {new : Memory} (r : Answer LagrangianReport) → Multiplied (job_of j) (multiplier_in ms) (weight_in ws) q old new r → LagrangianPromises s choices ws ms old new r
      accepted p {new} r b =
          let c : Multiplied (job_of j) (multiplier_in ms) (weight_in ws) (block_capacity s choices ws) old new r = subst (λ q. Multiplied (job_of j) (multiplier_in ms) (weight_in ws) q old new r) t.capacity_is b in
          let d : Multiplied (block_job s choices) (multiplier_in ms) (weight_in ws) (block_capacity s choices ws) old new r = subst (λ j. Multiplied (job_of j) (multiplier_in ms) (weight_in ws) (block_capacity s choices ws) old new r) t.record_is c in
          promised r
          (d.answer ∙ sym (ap (λ v. answer_by v (block_lagrangian s choices ws ms)) (before_passes _ _ (verdict_is ∙ p))))
          (rw (verdict_is ∙ p) d.memory)
