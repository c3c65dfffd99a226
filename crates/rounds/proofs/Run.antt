-- The run of the rounds: what is known before round k, and what a written or a refused round makes of it.
use Rattle.rounds.proofs.Prelude.{◌≡◌, refl, sym, ◌∙◌, ap, ap₂, subst, fun_ext, Bool, true, false, ◌||◌, List, [], ◌∷◌, map, ℕ, zero, suc, ◌+◌, ◌-◌, ◌*◌, ◌≤◌, ◌<◌, arith, ltb-false, eqb-false, ltb, eqb, eqb·suc-zero, length, take, replicate, length-take-le, range, sum, only, over, kinds_of, operands_of, node_count, Job, widened, counted, capacity, bound_of, bound_plan, next, first_refusal, Refusal, Choices, JobRecord, job_checks, entries, record_of, job_of, block_job, weight_in, entries_length, entries_none, read_in_range, both_accepted, Leaves, memory_checks, storage_checks, bound_report, list_after, accept_verdict, BoundLeaves, WriteReport, nodes_check, nodes_verdict, reported, block_plan, write_verdict, write_answer, array_after, written_fits, WeightsFound, pick_number, plan_copies, next_weight, weight_at, within, stops_after, Lent, round_verdict, refuses, last_here, last_from, last_round, rounds_by, rounds_run, bound_at, best_round, found, run_answer, RoundLeaves, RoundsLeave, RunLeaves, pieces_in, Made, better, Ok, Err, passed, Checked, Answer, answer_by, Option, None, Some, following, stops_with, write_report}
use Rattle.refusal.proofs.Results.{value_answered, refusal_answered}
use Rattle.rounds.proofs.Count.{pieces_tree}
use Rattle.rounds.proofs.Ends.{listed, listed_all, next_past, weights_good}

one_more : (k : ℕ) → k + 1 ≡ suc k
one_more k = omega arith

differ : {A : Type 0} → ◌≡◌ {A = Bool} true false → A
differ e = absurd (let z : ◌≡◌ {A = ℕ} 0 1 = cc in omega arith)

-- tests of which none holds
pub neither : (a b : Bool) → (a || b) ≡ false → (a ≡ false) × (b ≡ false)
neither true b e = differ e
neither false b e = (refl, e)

or_right : (a : Bool) {b : Bool} → b ≡ true → (a || b) ≡ true
or_right true e = refl
or_right false e = e

-- lent memory of the same lengths
pub record Same (a b : Lent) : Type 0 where
  pub lengths : length b.memory.lengths ≡ length a.memory.lengths
  pub widths : length b.memory.widths ≡ length a.memory.widths
  pub table : length b.memory.table ≡ length a.memory.table
  pub kinds : length b.kinds ≡ length a.kinds
  pub operands : length b.operands ≡ length a.operands

-- the verdict reads only lengths
pub verdict_same : (J : Job) (weight : ℕ → ℕ) (a b : Lent) → Same a b → round_verdict J weight b ≡ round_verdict J weight a
unfolding round_verdict
verdict_same J weight a b h = ap₂ next
    (ap (λ n. first_refusal (storage_checks (widened J) (capacity J weight) n (length b.memory.widths) (length b.memory.table))) h.lengths
    ∙ ap (λ n. first_refusal (storage_checks (widened J) (capacity J weight) (length a.memory.lengths) n (length b.memory.table))) h.widths
    ∙ ap (λ n. first_refusal (storage_checks (widened J) (capacity J weight) (length a.memory.lengths) (length a.memory.widths) n)) h.table)
    (ap₂ (λ m n. first_refusal (nodes_check (bound_plan J weight) m n ∷ [])) h.kinds h.operands)

-- round 0 passed where round k passed
first_passed : (P : ℕ → Type 0) (k : ℕ) → P k → (0 < k → P 0) → P 0
first_passed P zero p h = p
first_passed P (suc k) p h = h (omega arith)

-- what the writing call reports of a round
abbrev round_report : Job → (ℕ → ℕ) → WriteReport
round_report J weight = reported (bound_report (widened J) weight (capacity J weight)) (node_count (bound_plan J weight))

module _ (J : Job) (lower : ℕ) where
  pub weight_past : (k i : ℕ) → J.count ≤ i → weight_at J lower k i ≡ 0
  unfolding weight_at
  weight_past zero i h = refl
  weight_past (suc k) i h = next_past J lower k (weight_at J lower k) i h

  weight_next : (k : ℕ) → next_weight J lower k (weight_at J lower k) ≡ weight_at J lower (suc k)
  unfolding weight_at
  weight_next k = refl

  no_weights : replicate 64 0 ≡ entries (weight_at J lower 0) J.count
  unfolding weight_at entries
  no_weights = entries_none (λ i. 0) ∙ ap (λ (f : ℕ → ℕ). map f (range 0 64)) (fun_ext (λ i. zeros (ltb i 0) ∙ sym (zeros (ltb i J.count))))
    where
      zeros : (b : Bool) → only b 0 ≡ 0
      zeros true = refl
      zeros false = refl

  pub no_capacity : capacity J (weight_at J lower 0) ≤ 4095
  unfolding weight_at sum
  no_capacity = omega (arith, none J.count)
    where
      none : (n : ℕ) → sum n (λ i. counted J i * 0) ≡ 0
      none zero = refl
      none (suc n) = omega (arith, none n)

  found_first : (a : WeightsFound) → better true (bound_at J lower 0) (entries (weight_at J lower 0) J.count) (0 + 1) a ≡ found J lower 1
  unfolding found best_round
  found_first a = refl

  -- the answer of n rounds of which round j gave the least bound
  abbrev found_at : ℕ → ℕ → WeightsFound
  found_at j n = record { bound = bound_at J lower j; rounds = n; weights = entries (weight_at J lower j) J.count }

  found_more : (k : ℕ) → better (ltb (bound_at J lower (suc k)) (found J lower (suc k)).bound) (bound_at J lower (suc k)) (entries (weight_at J lower (suc k)) J.count) (suc k + 1) (found J lower (suc k)) ≡ found J lower (suc (suc k))
  unfolding found best_round
  found_more k = go (ltb (bound_at J lower (suc k)) (bound_at J lower (best_round J lower k)))
    where
      go : (b : Bool) → better b (bound_at J lower (suc k)) (entries (weight_at J lower (suc k)) J.count) (suc k + 1) (found J lower (suc k)) ≡ found_at (pick_number b (suc k) (best_round J lower k)) (suc (suc k))
      go true = ap (found_at (suc k)) (one_more (suc k))
      go false = ap (found_at (best_round J lower k)) (one_more (suc k))

  -- the answer with round k
  found_next : (k : ℕ) {a b : WeightsFound} {bound : ℕ} {weights : List ℕ} → a ≡ found J lower k → bound ≡ bound_at J lower k → weights ≡ entries (weight_at J lower k) J.count
      → b ≡ better (eqb k 0 || ltb bound a.bound) bound weights (k + 1) a → b ≡ found J lower (k + 1)
  found_next zero {a} p q r e = e ∙ ap₂ (λ x y. better true x y (0 + 1) a) q r ∙ found_first a
  found_next (suc k) {a} {b} {bound} {weights} p q r e =
      e ∙ ap (λ t. better (t || ltb bound a.bound) bound weights (suc k + 1) a) (eqb·suc-zero k) ∙ ap₂ (λ x y. better (ltb x a.bound) x y (suc k + 1) a) q r
      ∙ ap (λ x. better (ltb (bound_at J lower (suc k)) x.bound) (bound_at J lower (suc k)) (entries (weight_at J lower (suc k)) J.count) (suc k + 1) x) p
      ∙ found_more k ∙ ap (found J lower) (sym (one_more (suc k)))

  module _ (m : Lent) where
    last_stops : (n k : ℕ) → last_here J lower m k ≡ true → last_from J lower m n k ≡ k
    unfolding last_from
    last_stops zero k h = refl
    last_stops (suc n) k h = ap (λ b. pick_number b k (last_from J lower m n (k + 1))) h

    last_goes : (k : ℕ) → k < 17 → last_here J lower m k ≡ false → last_from J lower m (17 - k) k ≡ last_from J lower m (17 - (k + 1)) (k + 1)
    unfolding last_from
    last_goes k l h = let e : 17 - k ≡ suc (17 - (k + 1)) = omega arith in
        ap (λ n. last_from J lower m n k) e ∙ ap (λ b. pick_number b k (last_from J lower m (17 - (k + 1)) (k + 1))) h

    -- the rounds run, where round k is the last one begun
    run_are : (k : ℕ) (v : Checked) → last_round J lower m ≡ k → round_verdict J (weight_at J lower k) m ≡ v → rounds_run J lower m ≡ rounds_by v k
    run_are k v e p = ap (λ j. rounds_by (round_verdict J (weight_at J lower j) m) j) e ∙ ap (λ x. rounds_by x k) p

    -- the answer where round 0 is refused
    refused_first : (k : ℕ) {x : Refusal} → k ≡ 0 → round_verdict J (weight_at J lower k) m ≡ Err x → Err x ≡ run_answer J lower m
    refused_first k e v = sym (ap (λ w. answer_by w (found J lower (rounds_run J lower m))) (ap (λ i. round_verdict J (weight_at J lower i) m) (sym e) ∙ v))

    -- and where a later round k is refused
    refused_later : (k : ℕ) {a : WeightsFound} {x : Refusal} → round_verdict J (weight_at J lower 0) m ≡ passed → a ≡ found J lower k → last_round J lower m ≡ k
        → round_verdict J (weight_at J lower k) m ≡ Err x → Ok a ≡ run_answer J lower m
    refused_later k {a} {x} h p l v = ap Ok p ∙ sym (ap₂ (λ w n. answer_by w (found J lower n)) h (run_are k (Err x) l v))

    -- the answer where the run stops after round k
    stopped_answers : (k : ℕ) {b : WeightsFound} → round_verdict J (weight_at J lower 0) m ≡ passed → last_round J lower m ≡ k
        → round_verdict J (weight_at J lower k) m ≡ passed → b ≡ found J lower (k + 1) → Ok b ≡ run_answer J lower m
    stopped_answers k h l v e = ap Ok e ∙ sym (ap₂ (λ w n. answer_by w (found J lower n)) h (run_are k passed l v))

-- what follows a round, by whether the run stops
none_follows : (b : Bool) (w : List ℕ) {o : Option (List ℕ)} → o ≡ following b w → o ≡ None → b ≡ true
none_follows true w e f = refl
none_follows false w e f = absurd (let z : ◌≡◌ {A = ℕ} 0 1 = cc in omega arith)

some_follows : (b : Bool) (w : List ℕ) {x : List ℕ} {o : Option (List ℕ)} → o ≡ following b w → o ≡ Some x → (b ≡ false) × (x ≡ w)
some_follows true w e f = absurd (let z : ◌≡◌ {A = ℕ} 0 1 = cc in omega arith)
some_follows false w e f = (refl, cc)

-- what is known before round k
pub record State (s : List ℕ) (choices : Choices) (lower : ℕ) (m : Lent) (k : ℕ) (present : Lent) (weights : List ℕ) (a : WeightsFound) : Type 0 where
  pub small : k < 18
  pub weights_are : weights ≡ entries (weight_at (block_job s choices) lower k) (block_job s choices).count
  pub capacity_most : capacity (block_job s choices) (weight_at (block_job s choices) lower k) ≤ 4095
  pub begun : 0 < k → round_verdict (block_job s choices) (weight_at (block_job s choices) lower 0) m ≡ passed
  pub found_is : a ≡ found (block_job s choices) lower k
  pub decides : last_round (block_job s choices) lower m ≡ last_from (block_job s choices) lower m (17 - k) k
  pub left : RoundsLeave (block_job s choices) lower k m present
  pub same : Same m present

module _ (s : List ℕ) (choices : Choices) (good : first_refusal (job_checks s choices) ≡ passed) (lower : ℕ) (m : Lent) where
  -- before round 0
  pub starts : State s choices lower m 0 m (replicate 64 0) (record { bound = 0; rounds = 0; weights = replicate 64 0 })
  unfolding found
  starts = record {
    small = omega arith;
    weights_are = no_weights (block_job s choices) lower;
    capacity_most = no_capacity (block_job s choices) lower;
    begun = λ h. absurd (omega arith);
    found_is = refl;
    decides = refl;
    left = refl;
    same = record { lengths = refl; widths = refl; table = refl; kinds = refl; operands = refl };
  }

  module _ {n : ℕ} (size : n ≡ (block_job s choices).count) {k : ℕ} {old : Lent} {weights : List ℕ} {a : WeightsFound} (st : State s choices lower m k old weights a) where
    -- the weights that the call reads are the round's
    pub weights_room : n ≤ length weights
    weights_room = omega (arith, size, ap length st.weights_are, entries_length (weight_at (block_job s choices) lower k) (block_job s choices).count, (read_in_range s choices good).kinds.1)

    pub weights_listed : length (take n weights) ≡ n
    weights_listed = length-take-le n weights weights_room

    weight_is : weight_in (take n weights) ≡ weight_at (block_job s choices) lower k
    weight_is = ap₂ (λ x y. weight_in (take x y)) size st.weights_are ∙ listed (weight_at (block_job s choices) lower k) (block_job s choices).count (read_in_range s choices good).kinds.1 (weight_past (block_job s choices) lower k)

    accepted : accept_verdict s choices (take n weights) ≡ passed
    accepted = both_accepted s choices (take n weights) good
        (weights_good (block_job s choices) (take n weights) (weights_listed ∙ size) (subst (λ w. capacity (block_job s choices) w ≤ 4095) (sym weight_is) st.capacity_most))

    -- so the call's verdict is the round's
    verdict_is : write_verdict s choices (take n weights) old.memory old.kinds old.operands ≡ round_verdict (block_job s choices) (weight_at (block_job s choices) lower k) old
    unfolding round_verdict
    verdict_is =
        let ws = take n weights in
        let stored : (ℕ → ℕ) → Checked = λ w. first_refusal (memory_checks (widened (block_job s choices)) (capacity (block_job s choices) w) old.memory) in
        let room : (ℕ → ℕ) → Checked = λ w. nodes_verdict (bound_plan (block_job s choices) w) old.kinds old.operands in
        ap (λ v. next (next v (stored (weight_in ws))) (room (weight_in ws))) accepted ∙ ap (λ w. next (stored w) (room w)) weight_is

    -- and so is what it leaves
    pub leaves : {new : Lent} → BoundLeaves s choices (take n weights) old.memory new.memory
        → new.kinds ≡ array_after s choices (take n weights) old.memory old.kinds old.operands (kinds_of (block_plan s choices (take n weights))) old.kinds
        → new.operands ≡ array_after s choices (take n weights) old.memory old.kinds old.operands (operands_of (block_plan s choices (take n weights))) old.operands
        → RoundLeaves (block_job s choices) (weight_at (block_job s choices) lower k) old new
    leaves {new} l p q = record {
      memory = subst (λ w. Leaves passed (widened (block_job s choices)) w (capacity (block_job s choices) w) old.memory new.memory) weight_is
          (subst (λ v. Leaves v (widened (block_job s choices)) (weight_in (take n weights)) (capacity (block_job s choices) (weight_in (take n weights))) old.memory new.memory) accepted l);
      kinds = p ∙ ap₂ (λ v w. list_after v (kinds_of (bound_plan (block_job s choices) w)) old.kinds) verdict_is weight_is;
      operands = q ∙ ap₂ (λ v w. list_after v (operands_of (bound_plan (block_job s choices) w)) old.operands) verdict_is weight_is;
    }

    -- the array's weights are the round's too
    weights_all : weight_in weights ≡ weight_at (block_job s choices) lower k
    weights_all = ap weight_in st.weights_are ∙ listed_all (weight_at (block_job s choices) lower k) (block_job s choices).count (read_in_range s choices good).kinds.1 (weight_past (block_job s choices) lower k)

    module _ {r : Answer WriteReport} (e : r ≡ write_answer s choices (take n weights) old.memory old.kinds old.operands) where
      -- a refused round
      refused_here : {x : Refusal} → r ≡ Err x → round_verdict (block_job s choices) (weight_at (block_job s choices) lower k) m ≡ Err x
      refused_here f = sym (verdict_same (block_job s choices) (weight_at (block_job s choices) lower k) m old st.same) ∙ sym verdict_is ∙ refusal_answered (write_verdict s choices (take n weights) old.memory old.kinds old.operands) (write_report s choices (take n weights)) (sym e ∙ f)

      -- a written round
      written_here : {report : WriteReport} → r ≡ Ok report → (round_verdict (block_job s choices) (weight_at (block_job s choices) lower k) m ≡ passed) × (report ≡ round_report (block_job s choices) (weight_at (block_job s choices) lower k))
      written_here f =
          let w = value_answered (write_verdict s choices (take n weights) old.memory old.kinds old.operands) (write_report s choices (take n weights)) (sym e ∙ f) in
          (sym (verdict_same (block_job s choices) (weight_at (block_job s choices) lower k) m old st.same) ∙ sym verdict_is ∙ w.0, w.1 ∙ ap (round_report (block_job s choices)) weight_is)

      module _ {new : Lent} (left : RoundLeaves (block_job s choices) (weight_at (block_job s choices) lower k) old new) where
        -- what all rounds begun leave, where this is the last one
        leave_all : last_round (block_job s choices) lower m ≡ k → RunLeaves (block_job s choices) lower m new
        leave_all l = subst (λ j. RoundsLeave (block_job s choices) lower (suc j) m new) (sym l) (old, st.left, left)

        -- the run ends with a refused round, the first one or a later one
        refused_last : {x : Refusal} → r ≡ Err x → last_round (block_job s choices) lower m ≡ k
        unfolding last_here
        refused_last f = st.decides ∙ last_stops (block_job s choices) lower m (17 - k) k (ap (λ v. refuses v || stops_after (block_job s choices) lower k) (refused_here f))

        -- the answer is then the first round's refusal, or what the rounds before a later one found
        pub ends_refused : {x : Refusal} → r ≡ Err x
            → (k ≡ 0 → Err x ≡ run_answer (block_job s choices) lower m) × ((k ≡ 0 → ⊥) → Ok a ≡ run_answer (block_job s choices) lower m) × RunLeaves (block_job s choices) lower m new
        ends_refused f =
            let l = refused_last f in (
              λ z. refused_first (block_job s choices) lower m k z (refused_here f),
              λ z. refused_later (block_job s choices) lower m k (st.begun (omega (arith, z))) st.found_is l (refused_here f),
              leave_all l,
            )

        module _ {report : WriteReport} (f : r ≡ Ok report) where
          -- what the round's end asks
          pub made : {job : JobRecord} → job ≡ record_of s choices → ((weight : ℕ → ℕ) → lower ≤ bound_of (block_job s choices) weight) → Same m new
              → Made (job_of job) lower k report.bound report.nodes (weight_in weights) new.kinds new.operands
          made {job} j low same = subst (λ x. Made (job_of x) lower k report.bound report.nodes (weight_in weights) new.kinds new.operands) (sym j)
              (subst (λ w. Made (block_job s choices) lower k report.bound report.nodes w new.kinds new.operands) (sym weights_all) (
              let w = written_here f in
              let fits = written_fits s choices (take n weights) old.memory old.kinds old.operands e f in
              let v : round_verdict (block_job s choices) (weight_at (block_job s choices) lower k) old ≡ passed = verdict_same (block_job s choices) (weight_at (block_job s choices) lower k) m old st.same ∙ w.0 in
              let t = bound_plan (block_job s choices) (weight_at (block_job s choices) lower k) in
              let b = ap (λ (x : WriteReport). x.bound) w.1 in
              record {
                in_range = read_in_range s choices good;
                round_small = st.small;
                bound_is = b;
                lower_most = omega (arith, b, low (weight_at (block_job s choices) lower k));
                nodes_most = (fits.0, omega (arith, fits.1, same.kinds, st.same.kinds), omega (arith, fits.2, same.operands, st.same.operands));
                copies = λ i h. ap₂ (λ x y. pieces_in x y report.nodes i) (left.kinds ∙ ap (λ v. list_after v (kinds_of t) old.kinds) v) (left.operands ∙ ap (λ v. list_after v (operands_of t) old.operands) v)
                    ∙ ap (λ n. pieces_in (over (kinds_of t) old.kinds) (over (operands_of t) old.operands) n i) (ap (λ (x : WriteReport). x.nodes) w.1) ∙ pieces_tree i t old.kinds old.operands;
              }
              ))

          module _ {job : JobRecord} (j : job ≡ record_of s choices) {b : WeightsFound} (g : b ≡ better (eqb k 0 || ltb report.bound a.bound) report.bound weights (k + 1) a)
              {o : Option (List ℕ)} (t : o ≡ following (stops_with (job_of job) lower k (weight_in weights)) (entries (next_weight (job_of job) lower k (weight_in weights)) job.count)) where
            turned : o ≡ following (stops_after (block_job s choices) lower k) (entries (weight_at (block_job s choices) lower (suc k)) (block_job s choices).count)
            turned = t ∙ ap₂ (λ (x : JobRecord) w. following (stops_with (job_of x) lower k w) (entries (next_weight (job_of x) lower k w) x.count)) j weights_all ∙ ap (λ w. following (within (block_job s choices) (plan_copies (block_job s choices) (weight_at (block_job s choices) lower k)) || (eqb k 17 || ltb 4095 (capacity (block_job s choices) w))) (entries w (block_job s choices).count)) (weight_next (block_job s choices) lower k)

            found_then : b ≡ found (block_job s choices) lower (k + 1)
            found_then = found_next (block_job s choices) lower k st.found_is (ap (λ (x : WriteReport). x.bound) (written_here f).1) st.weights_are g

            -- the run stops after this round
            pub ends_over : o ≡ None → (Ok b ≡ run_answer (block_job s choices) lower m) × RunLeaves (block_job s choices) lower m new
            unfolding last_here
            ends_over h =
                let v = (written_here f).0 in
                let z = first_passed (λ i. round_verdict (block_job s choices) (weight_at (block_job s choices) lower i) m ≡ passed) k v st.begun in
                let l = st.decides ∙ last_stops (block_job s choices) lower m (17 - k) k (or_right (refuses (round_verdict (block_job s choices) (weight_at (block_job s choices) lower k) m)) (none_follows (stops_after (block_job s choices) lower k) (entries (weight_at (block_job s choices) lower (suc k)) (block_job s choices).count) turned h)) in
                (stopped_answers (block_job s choices) lower m k z l v found_then, leave_all l)

            -- or goes on
            pub goes_on : {next : List ℕ} → o ≡ Some next → Same m new → State s choices lower m (k + 1) new next b
            unfolding last_here
            goes_on h same =
                let v = (written_here f).0 in
                let y = some_follows (stops_after (block_job s choices) lower k) (entries (weight_at (block_job s choices) lower (suc k)) (block_job s choices).count) turned h in
                let full = ltb 4095 (capacity (block_job s choices) (weight_at (block_job s choices) lower (suc k))) in
                let q = neither (within (block_job s choices) (plan_copies (block_job s choices) (weight_at (block_job s choices) lower k))) (eqb k 17 || full) y.0 in
                let p = neither (eqb k 17) full q.1 in
                let l : k < 17 = omega (arith, st.small, eqb-false k 17 p.0) in
                let here : last_here (block_job s choices) lower m k ≡ false = ap₂ (λ v b. refuses v || b) v y.0 in
                record {
                  small = omega arith;
                  weights_are = y.1 ∙ ap (λ i. entries (weight_at (block_job s choices) lower i) (block_job s choices).count) (sym (one_more k));
                  capacity_most = subst (λ i. capacity (block_job s choices) (weight_at (block_job s choices) lower i) ≤ 4095) (sym (one_more k)) (ltb-false 4095 (capacity (block_job s choices) (weight_at (block_job s choices) lower (suc k))) p.1);
                  begun = λ z. first_passed (λ i. round_verdict (block_job s choices) (weight_at (block_job s choices) lower i) m ≡ passed) k v st.begun;
                  found_is = found_then;
                  decides = st.decides ∙ last_goes (block_job s choices) lower m k l here;
                  left = subst (λ i. RoundsLeave (block_job s choices) lower i m new) (sym (one_more k)) (old, st.left, left);
                  same = same;
                }
