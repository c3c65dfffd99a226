-- The writing call and the exact call: what the inner call promises gives its instance.
use Rattle.planner.proofs.Prelude.{◌≡◌, refl, sym, ◌∙◌, ap, ap₂, none, List, [], ◌∷◌, ℕ, arith, Length, Width, Tree, Piece, kinds_of, operands_of, node_count, Job, widened, at_full_demand, capacity, by_kind, SolidKinds, by_copies, full_state, state_count, range_solid, by_check, next, first_refusal, Refusal, Choices, job_checks, block_job, weight_in, append_passed, passed_both, read_in_range, accepted_in_range, position_count, words_needed, Memory, accept_verdict, bound_held, WriteReport, ExactReport, one_weight, remaining_copies, bound_of, bound_plan, optimum, optimum_plan, Arrays, storage_checks, nodes_check, write_values, exact_values, short, WritePromises, ExactPromises, plan_verdict, Ok, Err, passed, Checked, Answer}
use Rattle.cutting.specs.Job as old
use Rattle.cutting.specs.Exact as old_exact
use Rattle.bound.specs.Bound.{list_after}
use Rattle.bound.specs.Bound as bound
use Rattle.writer.specs.Write as writer
use Rattle.exact.specs.Exact as exact
use Rattle.planner.proofs.Figures.{recursion, figures_most, floors}
use Rattle.planner.proofs.Held.{copies_sound, bound_is, two_is, optimum_is, optimum_held}
use Rattle.planner.proofs.Lent.{answers_by, stored_is, copies_words, copies_leaves}
use Rattle.planner.proofs.Bounds.{one_stored, one_fills}
use Rattle.planner.proofs.Plans.{plan_is, plan_follows}
use Rattle.planner.proofs.Checks.{verdict_none}
use Rattle.promises.specs.Plan.{PlanOf}

-- two trees that are the same where a verdict passes give the same to what reads them only there
unless : {B : Type 0} (v : Checked) (t u : Tree Piece) → (v ≡ passed → t ≡ u) → (f : Checked → Tree Piece → B) → ((x : Refusal) → f (Err x) t ≡ f (Err x) u) → f v t ≡ f v u
unless v t u e f g = go v refl
  where
    go : (w : Checked) → v ≡ w → f w t ≡ f w u
    go (Ok _) h = ap (f passed) (e h)
    go (Err x) h = g x

-- a plan that passes, for a tree that is the same
moved : (J : Job) (t u : Tree Piece) → t ≡ u → PlanOf J t (kinds_of t) (operands_of t) × (plan_verdict J none (kinds_of t) (operands_of t) ≡ passed)
    → PlanOf J u (kinds_of u) (operands_of u) × (plan_verdict J none (kinds_of u) (operands_of u) ≡ passed)
moved J t u e p = rw⁻¹ e p

module _ (s : List ℕ) (choices : Choices) (ws : List ℕ) (m : Memory) (plan : Arrays) where
  abbrev J : Job
  J = block_job s choices

  abbrev weight : ℕ → ℕ
  weight = weight_in ws

  abbrev report_at : ℕ → Tree Piece → WriteReport
  report_at n t = record { bound = n; capacity = capacity J weight; length_count = position_count (widened J) Length; columns = position_count (widened J) Width; nodes = node_count t }

  module _ (written : Arrays) (n : Memory) (r : Answer WriteReport) (p : writer.WritePromises s choices ws m n plan.0 plan.1 written.0 written.1 r) where
    same : accept_verdict s choices ws ≡ passed → old.bound_plan J weight ≡ bound_plan J weight
    same a = sym (plan_is J (by_kind weight) (p.choice a).0 (widened J).plate.0 (widened J).plate.1 (capacity J weight) (omega arith) (omega arith))

    -- what the arrays hold, by a verdict before the storage's and a plan
    abbrev after : Checked → Tree Piece → Checked
    after v t = next (next v (first_refusal (storage_checks J (one_weight weight J) m))) (first_refusal (nodes_check t plan ∷ []))

    pub write_new : WritePromises s choices ws m n plan written r
    write_new = record {
      answers = answers_by write_values (after (accept_verdict s choices ws) (bound_plan J weight)) (report_at (bound_of J weight) (bound_plan J weight)) r
          (p.answers ∙ (ap₂ (λ v b. by_check (next (next (accept_verdict s choices ws) v) (first_refusal (nodes_check (old.bound_plan J weight) plan ∷ []))) (Ok (report_at b (old.bound_plan J weight))) Err) (one_stored s choices ws m) (sym (bound_is J weight))
          ∙ unless (accept_verdict s choices ws) (old.bound_plan J weight) (bound_plan J weight) same (λ v t. by_check (after v t) (Ok (report_at (bound_of J weight) t)) Err) (λ x. refl)));
      fills = one_fills s choices ws m (accept_verdict s choices ws) n p.memory (λ a. bound_held J weight (accepted_in_range s choices ws a));
      writes = record {
        arrays = (
          p.kinds_left ∙ (ap (λ v. list_after (next (next (accept_verdict s choices ws) v) (first_refusal (nodes_check (old.bound_plan J weight) plan ∷ []))) (kinds_of (old.bound_plan J weight)) plan.0) (one_stored s choices ws m)
              ∙ unless (accept_verdict s choices ws) (old.bound_plan J weight) (bound_plan J weight) same (λ v t. list_after (after v t) (kinds_of t) plan.0) (λ x. refl)),
          p.operands_left ∙ (ap (λ v. list_after (next (next (accept_verdict s choices ws) v) (first_refusal (nodes_check (old.bound_plan J weight) plan ∷ []))) (operands_of (old.bound_plan J weight)) plan.1) (one_stored s choices ws m)
              ∙ unless (accept_verdict s choices ws) (old.bound_plan J weight) (bound_plan J weight) same (λ v t. list_after (after v t) (operands_of t) plan.1) (λ x. refl)),
        );
        follows = λ a. plan_follows J (by_kind weight) (p.choice a).0;
        earns = λ a. rw (bound_is J weight) (rw⁻¹ (same a) (p.choice a).1);
        idle_free = λ a. rw⁻¹ (same a) (p.choice a).2;
      };
    }

module _ (s : List ℕ) (choices : Choices) (m : Memory) (plan : Arrays) where
  abbrev K : Job
  K = block_job s choices

  abbrev exact_at : ℕ → Tree Piece → ExactReport
  exact_at n t = record { optimum = n; states = state_count K; length_count = position_count (widened K) Length; columns = position_count (widened K) Width; nodes = node_count t }

  copies_stored : first_refusal (bound.memory_checks (widened K) (full_state K) m) ≡ first_refusal (storage_checks K (remaining_copies K) m)
  copies_stored = stored_is passed K (remaining_copies K) m m (words_needed (widened K) (full_state K)) (copies_words K)

  module _ (written : Arrays) (n : Memory) (r : Answer ExactReport) (p : exact.ExactPromises s choices m n plan.0 plan.1 written.0 written.1 r) where
    exact_same : exact.short_verdict s choices ≡ passed → old_exact.optimum_plan K ≡ optimum_plan K
    exact_same a = sym (plan_is K (by_copies K) (p.planned a).choice (widened K).plate.0 (widened K).plate.1 (full_state K) (omega arith) (omega arith))

    abbrev exact_after : Checked → Tree Piece → Checked
    exact_after v t = next (next v (first_refusal (storage_checks K (remaining_copies K) m))) (first_refusal (nodes_check t plan ∷ []))

    -- an answer with a report was of a short order
    behind : (v : Checked) (b b' : ExactReport) → Ok b ≡ by_check v (Ok b') Err → v ≡ passed
    behind (Ok _) b b' e = refl
    behind (Err x) b b' e = absurd (let z : ◌≡◌ {A = ℕ} 0 1 = cc in omega arith)

    answered : r ≡ by_check (exact_after (short s choices) (optimum_plan K)) (Ok (exact_at (optimum K) (optimum_plan K))) Err
    answered = p.answers ∙ (ap₂ (λ v b. by_check (next (next (short s choices) v) (first_refusal (nodes_check (old_exact.optimum_plan K) plan ∷ []))) (Ok (exact_at b (old_exact.optimum_plan K))) Err) copies_stored (sym (optimum_is K))
        ∙ unless (short s choices) (old_exact.optimum_plan K) (optimum_plan K) exact_same (λ v t. by_check (exact_after v t) (Ok (exact_at (optimum K) t)) Err) (λ x. refl))

    is_short : (b : ExactReport) → r ≡ Ok b → short s choices ≡ passed
    is_short b e = (passed_both (short s choices) (first_refusal (storage_checks K (remaining_copies K) m)) (passed_both (next (short s choices) (first_refusal (storage_checks K (remaining_copies K) m))) (first_refusal (nodes_check (optimum_plan K) plan ∷ []))
        (behind (exact_after (short s choices) (optimum_plan K)) b (exact_at (optimum K) (optimum_plan K)) (sym e ∙ answered))).0).0

    solid : short s choices ≡ passed → SolidKinds K
    solid a = range_solid K (read_in_range s choices (append_passed (job_checks s choices) (exact.state_check K ∷ []) a).0)

    pub exact_new : ExactPromises s choices m n plan written r
    exact_new = record {
      answers = answers_by exact_values (exact_after (short s choices) (optimum_plan K)) (exact_at (optimum K) (optimum_plan K)) r answered;
      fills = record {
        memory = copies_leaves (short s choices) K m n p.memory;
        normal = p.normal;
        recursion = recursion (widened K) (by_copies K);
        holds = λ a. optimum_held K (read_in_range s choices (append_passed (job_checks s choices) (exact.state_check K ∷ []) a).0) (p.optimal a);
        figures = λ a. figures_most K (remaining_copies K) (solid a) (copies_sound K (read_in_range s choices (append_passed (job_checks s choices) (exact.state_check K ∷ []) a).0));
        floors = λ a. floors K (remaining_copies K) (solid a) (copies_sound K (read_in_range s choices (append_passed (job_checks s choices) (exact.state_check K ∷ []) a).0));
      };
      writes = record {
        arrays = (
          p.kinds_left ∙ (ap (λ v. list_after (next (next (short s choices) v) (first_refusal (nodes_check (old_exact.optimum_plan K) plan ∷ []))) (kinds_of (old_exact.optimum_plan K)) plan.0) copies_stored
              ∙ unless (short s choices) (old_exact.optimum_plan K) (optimum_plan K) exact_same (λ v t. list_after (exact_after v t) (kinds_of t) plan.0) (λ x. refl)),
          p.operands_left ∙ (ap (λ v. list_after (next (next (short s choices) v) (first_refusal (nodes_check (old_exact.optimum_plan K) plan ∷ []))) (operands_of (old_exact.optimum_plan K)) plan.1) copies_stored
              ∙ unless (short s choices) (old_exact.optimum_plan K) (optimum_plan K) exact_same (λ v t. list_after (exact_after v t) (operands_of t) plan.1) (λ x. refl)),
        );
        follows = λ a. plan_follows K (by_copies K) (p.planned a).choice;
        earns = λ a. rw (optimum_is K) (rw⁻¹ (exact_same a) (p.planned a).plan);
        idle_free = λ a. rw⁻¹ (exact_same a) (p.planned a).idle_free;
      };
      passes = λ b e. (let a = is_short b e in moved K (old_exact.optimum_plan K) (optimum_plan K) (exact_same a)
          ((p.plan b e).passes, verdict_none K (read_in_range s choices (append_passed (job_checks s choices) (exact.state_check K ∷ []) a).0).kinds.1 (kinds_of (old_exact.optimum_plan K)) (operands_of (old_exact.optimum_plan K)) ∙ (p.plan b e).checked));
      bounds = λ a w. (let h = (p.optimal a).bounds w in (rw (optimum_is K) (rw (bound_is K w) h.0), rw (optimum_is K) (rw (bound_is (at_full_demand K) w) h.1)));
      two_bounds = λ a v w. (let h = (p.optimal a).two_bounds v w in (rw (optimum_is K) (rw (two_is K v w) h.0), rw (optimum_is K) (rw (two_is (at_full_demand K) v w) h.1)));
      digits = p.digits;
    }
