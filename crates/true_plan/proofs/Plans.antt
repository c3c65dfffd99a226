-- The true plan of a plan that passes: what holds of it, what its scans are given, and the answers of the call one by one.
use Rattle.true_plan.proofs.Prelude.{◌≡◌, refl, sym, ◌∙◌, ap, subst, List, [], ◌∷◌, ◌++◌, ℕ, ◌≤◌, ◌<◌, arith, ltb, length, lt-ltb, le-ltb, ltb-false, over, Rect, Tree, ◌⊑◌, node_count, kinds_of, operands_of, Job, laid, OnPlate, KeepsDemands, profit, SolidKinds, InRange, used_of, neat_of, ChainsFit, Relaxes, range_solid, neat_stages, neat_nodes, neat_used, neat_copies, neat_earns, returned, same_relaxes, relaxed_none, relaxed_staged, next, first_refusal, Refusal, PlanLong, TrueMisfit, Choices, JobRecord, job_checks, read_of, job_of, block_job, passed_both, cons_passed, TrueSizes, sizes_checks, sizes_of, sizes_read, true_job, TrueRange, nodes_in, plan_answer, trees_in, tree_in, DrawnAs, PlanOf, trees_are, drawn_is, plan_is, Used, neat_tree, output_check, as_used, told_side, told_of, pieces_in, nodes_for, Known, Scannable, Writable, fit_checks, true_checked, true_verdict, block_true, SizesPass, block_neat, block_used, TruePlan, TrueJudged, TruePromises, true_laid, true_plate, TruePlanned, Ok, Err, passed, Checked, Answer, TrueReport, IsErrAnd, answer_by, outcome_of, value_answered, verdict_of, handed, refusal_answered, true_values, said_by, report_of}
use Rattle.cutting.specs.Pieces as laid
use Rattle.job.proofs.Read as read
use Rattle.sizes.proofs.Read as sizes
use Rattle.neat.proofs.Plans as neat

-- a side of at most the greatest is exceeded by what is told of another exactly where the other exceeds it
told_above : (a b : ℕ) {u : ℕ} → a ≤ 100000000 → u ≡ told_side b → a < u → a < b
told_above a b l e h = omega arith

told_within : (a b : ℕ) {u : ℕ} → a ≤ 100000000 → u ≡ told_side b → u ≤ a → (b ≤ a) × (u ≡ b)
told_within a b l e h = (omega arith, omega arith)

-- an answer that passes has a value
value_of : {A : Type 0} (a : Answer A) → verdict_of a ≡ passed → (x : A) × (a ≡ Ok x)
value_of (Ok x) p = (x, refl)
value_of (Err r) p = cc

module _ (M : Job) (z : TrueSizes) (range : InRange M) (true_range : TrueRange (true_job M z)) (kinds operands : List ℕ) where
  abbrev J : Job
  J = true_job M z

  abbrev t : Tree laid.Piece
  t = tree_in kinds operands

  module _ (p : verdict_of (plan_answer M kinds operands) ≡ passed) where
    is_plan : PlanOf M t kinds operands
    is_plan = plan_is M range.kinds.1 kinds operands (value_of (plan_answer M kinds operands) p).1

    pub drawn_by : DrawnAs M t kinds operands
    drawn_by = is_plan.drawn

    solid : SolidKinds J
    solid i h = ((true_range.lengths i h).0, (true_range.widths i h).0)

    known : Known (laid J) t
    known = neat.tree_known M J.size range.kinds.1 (λ i h. (true_range.lengths i h, true_range.widths i h)) t drawn_by.on_plate

    -- what the scans are given
    pub true_scannable : Scannable z.kerf (true_laid z) kinds operands × (1 ≤ length (trees_in (nodes_in kinds operands)))
    true_scannable = (neat.scannable J drawn_by true_range.kerfs known, omega (arith, ap length (trees_are M kinds operands t drawn_by)))

    pub true_writable : used_of J t ⊑ J.plate → {m n : ℕ} → m ≡ pieces_in kinds → (m ≡ 0 → ⊥) → n ≡ nodes_for m → {old_kinds old_positions : List ℕ} → n ≤ length old_kinds → n ≤ length old_positions
        → Writable z.kerf (true_laid z) (true_plate z) kinds operands old_kinds old_positions n
    true_writable w e c f h i = neat.writable J drawn_by e c f true_range.kerfs known (true_range.plate_length, true_range.plate_width) w h i

    -- the true plan of a plan that passes
    back : used_of J t ⊑ J.plate → OnPlate J (neat_of J t)
    back w = (returned J M (sizes.true_kinds M z) solid t drawn_by.on_plate w).0

    earns : profit J (neat_of J t) ≡ profit M t
    earns = neat_earns J J.price t

    keeps : KeepsDemands J (neat_of J t)
    keeps i h = omega (arith, neat_copies J t i, drawn_by.demands i h)

    stands : ChainsFit J M → Relaxes J M
    stands = same_relaxes J M (sizes.true_kinds M z)

    pub true_plan : TruePlan M J t kinds operands
    true_plan =
        record {
          drawn = is_plan;
          only = λ u d. drawn_is M kinds operands u d;
          on_plate = back;
          used = neat_used J.kerf (laid J) t;
          keeps = keeps;
          earns = earns;
          copies = neat_copies J t;
          no_more_nodes = neat_nodes J t;
          no_more_stages = neat_stages J.kerf (laid J) t;
          best = λ c w n e none. record { on_plate = back w; keeps = keeps; earns = earns ∙ e; none_better = relaxed_none J M (stands c) (range_solid M range) n none };
          staged_best = λ c w l n s e none. record {
            on_plate = back w;
            keeps = keeps;
            staged = omega (arith, s, neat_stages J.kerf (laid J) t);
            earns = earns ∙ e;
            none_better = relaxed_staged J M (stands c) (range_solid M range) l n none;
          };
        }

  -- the answers for a model and sizes that were read
  module _ (old_kinds old_positions : List ℕ) where
    abbrev v : Checked
    v = true_checked M J kinds operands old_kinds old_positions

    abbrev Says : List ℕ → List ℕ → Answer TrueReport → Type 0
    Says new_kinds new_positions r = TruePlanned v J t old_kinds old_positions new_kinds new_positions r

    says : {w : Checked} {new_kinds new_positions : List ℕ} {r : Answer TrueReport} → v ≡ w → TruePlanned w J t old_kinds old_positions new_kinds new_positions r → Says new_kinds new_positions r
    says {w} {new_kinds} {new_positions} {r} e h = subst (λ x. TruePlanned x J t old_kinds old_positions new_kinds new_positions r) (sym e) h

    abbrev rest : Checked
    rest = first_refusal (fit_checks J.plate (used_of J t) ++ (output_check (neat_tree J kinds operands) (length old_kinds) (length old_positions) ∷ []))

    pub is_refused : {x : Refusal} {r : Answer TrueReport} → plan_answer M kinds operands ≡ Err x → r ≡ Err x → Says old_kinds old_positions r
    is_refused {x} e f = says {w = Err x} (ap (λ a. next (verdict_of a) rest) e) (record { answers = f; memory = record { kinds = refl; operands = refl } })

    module _ (p : verdict_of (plan_answer M kinds operands) ≡ passed) {u : Used} (told : u ≡ as_used (told_of z.kerf (true_laid z) t)) where
      on_to : v ≡ rest
      on_to = ap (λ y. next y rest) p

      length_told : u.length ≡ told_side (used_of J t).0
      length_told = ap (λ (x : Used). x.length) told

      width_told : u.width ≡ told_side (used_of J t).1
      width_told = ap (λ (x : Used). x.width) told

      stopped : {x : Refusal} → v ≡ Err x → Says old_kinds old_positions (Err x)
      stopped h = says h (record { answers = refl; memory = record { kinds = refl; operands = refl } })

      pub too_long : z.length < u.length → Says old_kinds old_positions (Err (TrueMisfit 0))
      unfolding first_refusal
      too_long h = stopped (on_to ∙ simp (lt-ltb z.length (used_of J t).0 (told_above z.length (used_of J t).0 true_range.plate_length.1 length_told h)))

      module _ (short : u.length ≤ z.length) where
        length_fits : ((used_of J t).0 ≤ z.length) × (u.length ≡ (used_of J t).0)
        length_fits = told_within z.length (used_of J t).0 true_range.plate_length.1 length_told short

        pub too_wide : z.width < u.width → Says old_kinds old_positions (Err (TrueMisfit 1))
        unfolding first_refusal
        too_wide h = stopped (on_to ∙ simp (le-ltb z.length (used_of J t).0 length_fits.0, lt-ltb z.width (used_of J t).1 (told_above z.width (used_of J t).1 true_range.plate_width.1 width_told h)))

        module _ (narrow : u.width ≤ z.width) where
          width_fits : ((used_of J t).1 ≤ z.width) × (u.width ≡ (used_of J t).1)
          width_fits = told_within z.width (used_of J t).1 true_range.plate_width.1 width_told narrow

          pub within : used_of J t ⊑ J.plate
          within = (length_fits.0, width_fits.0)

          abbrev count : ℕ
          count = node_count (neat_of J t)

          last : v ≡ first_refusal (output_check (neat_of J t) (length old_kinds) (length old_positions) ∷ [])
          unfolding first_refusal
          last = on_to ∙ simp (le-ltb z.length (used_of J t).0 length_fits.0, le-ltb z.width (used_of J t).1 width_fits.0)

          long : {n : ℕ} → n ≡ count → v ≡ Err (PlanLong count) → Says old_kinds old_positions (Err (PlanLong n))
          long e h = says h (record { answers = ap (λ i. Err (PlanLong i)) e; memory = record { kinds = refl; operands = refl } })

          pub kinds_short : {n : ℕ} → n ≡ count → length old_kinds < n → Says old_kinds old_positions (Err (PlanLong n))
          unfolding first_refusal
          kinds_short e h = long e (last ∙ simp (lt-ltb (length old_kinds) count (omega (arith, e, h))))

          pub positions_short : {n : ℕ} → n ≡ count → n ≤ length old_kinds → length old_positions < n → Says old_kinds old_positions (Err (PlanLong n))
          unfolding first_refusal
          positions_short e l h = long e (last ∙ simp (le-ltb (length old_kinds) count (omega (arith, e, l)), lt-ltb (length old_positions) count (omega (arith, e, h))))

          written : {n l w : ℕ} → n ≡ count → l ≡ (used_of J t).0 → w ≡ (used_of J t).1 → n ≤ length old_kinds → n ≤ length old_positions → {new_kinds new_positions : List ℕ}
              → new_kinds ≡ over (kinds_of (neat_of J t)) old_kinds → new_positions ≡ over (operands_of (neat_of J t)) old_positions → Says new_kinds new_positions (Ok (record { nodes = n; length = l; width = w }))
          unfolding first_refusal
          written e f g h i a b = says {w = passed} (last ∙ simp (le-ltb (length old_kinds) count (omega (arith, e, h)), le-ltb (length old_positions) count (omega (arith, e, i))))
              (record { answers = λ j. Ok (record { nodes = e j; length = f j; width = g j }); memory = record { kinds = a; operands = b } })

          pub is_written : {n : ℕ} → n ≡ count → n ≤ length old_kinds → n ≤ length old_positions → {new_kinds new_positions : List ℕ}
              → new_kinds ≡ over (kinds_of (neat_of J t)) old_kinds → new_positions ≡ over (operands_of (neat_of J t)) old_positions → Says new_kinds new_positions (Ok (record { nodes = n; length = u.length; width = u.width }))
          is_written e h i a b = written e length_fits.1 width_fits.1 h i a b

          -- a plan without a piece uses nothing
          pub waste_written : {m : ℕ} → m ≡ pieces_in kinds → m ≡ 0 → 1 ≤ length old_kinds → 1 ≤ length old_positions → {new_kinds new_positions : List ℕ}
              → new_kinds ≡ over (0 ∷ []) old_kinds → new_positions ≡ over (0 ∷ []) old_positions → Says new_kinds new_positions (Ok (record { nodes = 1; length = 0; width = 0 }))
          waste_written e c h i a b =
              let n = neat.none_used J (drawn_by p) e c in
              written (neat.waste_one J (drawn_by p) e c) (sym (ap (λ (r : Rect). r.0) n)) (sym (ap (λ (r : Rect). r.1) n)) h i
              (a ∙ ap (λ l. over l old_kinds) (neat.waste_kinds J (drawn_by p) e c)) (b ∙ ap (λ l. over l old_positions) (neat.waste_operands J (drawn_by p) e c))

-- a plan that passes 34 fits
checked_fits : (M J : Job) (kinds operands old_kinds old_positions : List ℕ) → true_checked M J kinds operands old_kinds old_positions ≡ passed → used_of J (tree_in kinds operands) ⊑ J.plate
checked_fits M J kinds operands old_kinds old_positions p =
    let u = used_of J (tree_in kinds operands) in
    let c = output_check (neat_tree J kinds operands) (length old_kinds) (length old_positions) ∷ [] in
    let a = cons_passed (ltb J.plate.0 u.0) (TrueMisfit 0) ((ltb J.plate.1 u.1, TrueMisfit 1) ∷ c) (passed_both (verdict_of (plan_answer M kinds operands)) (first_refusal (fit_checks J.plate u ++ c)) p).1 in
    let b = cons_passed (ltb J.plate.1 u.1) (TrueMisfit 1) c a.1 in
    (ltb-false J.plate.0 u.0 a.0, ltb-false J.plate.1 u.1 b.0)

-- the job that is read has so many kinds, and its true job is in range
module _ (s : List ℕ) (choices : Choices) (z : List ℕ) where
  abbrev M : Job
  M = block_job s choices

  block_range : first_refusal (job_checks s choices) ≡ passed → InRange M
  block_range = read.read_in_range s choices

  block_true_range : (good : first_refusal (job_checks s choices) ≡ passed) → SizesPass s choices z → TrueRange (block_true s choices z)
  block_true_range good sized = sizes.sizes_in_range M.count z sized M refl (block_range good).kinds.1

  pub true_judged : (kinds operands : List ℕ) → TrueJudged s choices z kinds operands
  true_judged kinds operands good sized passed = true_plan M (sizes_of M.count z) (block_range good) (block_true_range good sized) kinds operands passed

  module _ (kinds operands old_kinds old_positions new_kinds new_positions : List ℕ) where
    abbrev verdict : Checked
    verdict = true_verdict s choices z kinds operands old_kinds old_positions

    abbrev Planned : Checked → Answer TrueReport → Type 0
    Planned v r = TruePlanned v (block_true s choices z) (tree_in kinds operands) old_kinds old_positions new_kinds new_positions r

    abbrev of_sizes : Checked
    of_sizes = first_refusal (sizes_checks M.count z)

    abbrev after : Checked
    after = true_checked M (block_true s choices z) kinds operands old_kinds old_positions

    promises : {r : Answer TrueReport} → Planned verdict r → TruePromises s choices z kinds operands old_kinds old_positions new_kinds new_positions r
    promises h =
        record {
          answers = h.answers;
          outcome = ap (outcome_of true_values) h.answers ∙ said_by true_values verdict (report_of (node_count (block_neat s choices z kinds operands)) (block_used s choices z kinds operands));
          memory = h.memory;
          fits = λ p. checked_fits M (block_true s choices z) kinds operands old_kinds old_positions (passed_both of_sizes after (passed_both (first_refusal (job_checks s choices)) (next of_sizes after) p).1).1;
          plan = true_judged kinds operands;
        }

    refused : {x : Refusal} (r : Answer TrueReport) → verdict ≡ Err x → IsErrAnd r (λ y. y ≡ x) → new_kinds ≡ old_kinds → new_positions ≡ old_positions → TruePromises s choices z kinds operands old_kinds old_positions new_kinds new_positions r
    refused {x} r e h k o = promises (subst (λ y. Planned y r) (sym e) (record { answers = handed r h; memory = record { kinds = k; operands = o } }))

    pub job_stops : {a : Answer JobRecord} {x : Refusal} (r : Answer TrueReport) → a ≡ read_of s choices → a ≡ Err x → IsErrAnd r (λ y. y ≡ x) → new_kinds ≡ old_kinds → new_positions ≡ old_positions
        → TruePromises s choices z kinds operands old_kinds old_positions new_kinds new_positions r
    job_stops r e p h k o = refused r (ap (λ y. next y (next (first_refusal (sizes_checks M.count z)) after)) (read.refused s choices e p)) h k o

    -- the job was read
    module _ {a : Answer JobRecord} {j : JobRecord} (e : a ≡ read_of s choices) (p : a ≡ Ok j) where
      good : first_refusal (job_checks s choices) ≡ passed
      good = (read.answered s choices e p).0

      same_job : job_of j ≡ M
      same_job = ap (λ (j : JobRecord). job_of j) (read.answered s choices e p).1

      pub count_most : j.count ≤ 64
      count_most = subst (λ (J : Job). J.count ≤ 64) (sym same_job) (block_range good).kinds.1

      module _ {b : Answer TrueSizes} (f : b ≡ sizes_read j.count z) where
        answered : answer_by (first_refusal (sizes_checks M.count z)) (sizes_of M.count z) ≡ b
        answered = sym (f ∙ ap (λ (J : Job). sizes_read J.count z) same_job)

        verdict_after : {c : Checked} → first_refusal (sizes_checks M.count z) ≡ c → verdict ≡ next c after
        verdict_after h = ap (λ y. next y (next (first_refusal (sizes_checks M.count z)) after)) good ∙ ap (λ y. next y after) h

        pub sizes_stop : {x : Refusal} (r : Answer TrueReport) → b ≡ Err x → IsErrAnd r (λ y. y ≡ x) → new_kinds ≡ old_kinds → new_positions ≡ old_positions
            → TruePromises s choices z kinds operands old_kinds old_positions new_kinds new_positions r
        sizes_stop r q h k o = refused r (verdict_after (refusal_answered of_sizes (sizes_of M.count z) (answered ∙ q))) h k o

        module _ {m : TrueSizes} (q : b ≡ Ok m) where
          same_sizes : (first_refusal (sizes_checks M.count z) ≡ passed) × (m ≡ sizes_of M.count z)
          same_sizes = value_answered of_sizes (sizes_of M.count z) (answered ∙ q)

          pub in_ranges : InRange (job_of j) × TrueRange (true_job (job_of j) m)
          in_ranges = (
            subst InRange (sym same_job) (block_range good),
            subst (λ (x : Job × TrueSizes). TrueRange (true_job x.0 x.1)) (λ i. (sym same_job i, sym same_sizes.1 i)) (block_true_range good same_sizes.0),
          )

          pub goes_on : {r : Answer TrueReport}
              → TruePlanned (true_checked (job_of j) (true_job (job_of j) m) kinds operands old_kinds old_positions) (true_job (job_of j) m) (tree_in kinds operands)
              old_kinds old_positions new_kinds new_positions r → TruePromises s choices z kinds operands old_kinds old_positions new_kinds new_positions r
          goes_on {r} h =
              promises (subst (λ y. Planned y r) (sym (verdict_after same_sizes.0))
              (subst (λ (x : Job × TrueSizes). TruePlanned (true_checked x.0 (true_job x.0 x.1) kinds operands old_kinds old_positions) (true_job x.0 x.1) (tree_in kinds operands) old_kinds old_positions new_kinds new_positions r)
              (λ i. (same_job i, same_sizes.1 i)) h))
