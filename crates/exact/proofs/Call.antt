-- The exact call: what it promises, from the verdict of the job and from the optimum and the plan of a short order.
use Rattle.exact.proofs.Prelude.{◌≡◌, refl, sym, ◌∙◌, ap, subst, List, [], ◌∷◌, ℕ, ◌+◌, ◌-◌, arith, ltb-false, length, kinds_of, operands_of, node_count, Tree, Piece, Job, InRange, widened, state_count, full_state, exact_figure, optimum, optimum_plan, ExactFiguresMost, normal_listed, next, first_refusal, Refusal, Choices, JobRecord, job_checks, job_of, record_of, read_of, block_job, passed_both, first_append, append_passed, cons_passed, read_in_range, answered, PlanOf, plans_checked, read_range, nodes_verdict, nodes_check, none_long, ExactReport, state_check, ExactLeaves, short_verdict, ShortOrder, exact_verdict, exact_report, exact_values, exact_outcome, OptimumHolds, OptimumPlanned, OptimumWritten, ExactPromises, StatesCounted, Short, job_report, job_plan, room_verdict, Drawn, Ok, Err, passed, Checked, Answer}
use Rattle.bound.specs.Bound as bound
use Rattle.exact.proofs.States.{states_some}
use Rattle.exact.proofs.Optimum.{exact_recursion, exact_figures, exact_floors, optimum_earned, optimum_exact, optimum_finer, optimum_follows, optimum_idle, bounds_above, two_above}
use Rattle.exact.proofs.Remaining.{copies_by_digits}
use Rattle.exact.proofs.Accepted.{untouched}
use Rattle.std.specs.Result.{IsErrAnd}
use Rattle.refusal.proofs.Results.{said_by, value_answered, refusal_answered, before_refuses, before_passes}

-- the optimum of a job in range, and its plan
optimum_holds : (J : Job) → InRange J → OptimumHolds J (optimum J)
optimum_holds J h = record { most = optimum_exact J h; finer = optimum_finer J h; bounds = bounds_above J h; two_bounds = two_above J h; figure = refl }

optimum_planned : (J : Job) → InRange J → OptimumPlanned J
optimum_planned J h = record { choice = optimum_follows J h; plan = optimum_earned J h; idle_free = optimum_idle J h }

module _ (s : List ℕ) (choices : Choices) where
  -- the job of the block, and its plan
  abbrev J : Job
  J = block_job s choices

  abbrev P : Tree Piece
  P = optimum_plan J

  short_in_range : ShortOrder s choices → InRange J
  short_in_range h = read_in_range s choices (append_passed (job_checks s choices) (state_check J ∷ []) h).0

  -- so the figure of a state is the most that a tree earns with of no kind more copies than remain
  pub figures_held : ShortOrder s choices → ExactFiguresMost J
  figures_held h = exact_figures J (short_in_range h)

  -- the verdict by that of the job and the number of states
  pub job_refused : {x : Refusal} → first_refusal (job_checks s choices) ≡ Err x → short_verdict s choices ≡ Err x
  job_refused e = first_append (job_checks s choices) (state_check J ∷ []) ∙ before_refuses _ _ e

  states_decide : first_refusal (job_checks s choices) ≡ passed → short_verdict s choices ≡ first_refusal (state_check J ∷ [])
  states_decide e = first_append (job_checks s choices) (state_check J ∷ []) ∙ before_passes _ _ e

  module _ (old : bound.Memory) (kinds operands : List ℕ) where
    -- what the call's verdict makes of the answer and of the arrays gives the rest
    module _ {new_kinds new_operands : List ℕ} {r : Answer ExactReport} (p : Drawn (exact_verdict s choices old kinds operands) (exact_report s choices) P kinds operands new_kinds new_operands r) where
      module _ {b : ExactReport} (w : r ≡ Ok b) where
        reported : (exact_verdict s choices old kinds operands ≡ passed) × (b ≡ exact_report s choices)
        reported = value_answered _ _ (sym p.answer ∙ w)

        stored : (next (short_verdict s choices) (first_refusal (bound.memory_checks (bound.wide_job s choices) (full_state J) old)) ≡ passed) × (nodes_verdict P kinds operands ≡ passed)
        stored = passed_both (next (short_verdict s choices) (first_refusal (bound.memory_checks (bound.wide_job s choices) (full_state J) old))) (nodes_verdict P kinds operands) reported.0

        in_range : InRange J
        in_range = short_in_range (passed_both (short_verdict s choices) (first_refusal (bound.memory_checks (bound.wide_job s choices) (full_state J) old)) stored.0).0

        written : OptimumWritten J P kinds operands new_kinds new_operands b
        written =
            let check = nodes_check P (length kinds) (length operands) in
            let few = none_long (node_count P) (length kinds) (length operands) (cons_passed check.0 check.1 [] stored.1).0 in
            let earned = optimum_earned J in_range in
            let passes : PlanOf J P (kinds_of P) (operands_of P) = record { drawn = record { on_plate = earned.0; demands = earned.1; nodes = few.0; kinds_are = refl; operands_are = refl }; idle_free = optimum_idle J in_range } in
            record {
              passes = passes;
              checked = (plans_checked J in_range.kinds.1 (kinds_of P) (operands_of P)).passes tt P passes;
              earns = rw reported.1 earned;
              kinds_hold = p.kinds_left ∙ ap (λ u. bound.list_after u (kinds_of P) kinds) reported.0;
              operands_hold = p.operands_left ∙ ap (λ u. bound.list_after u (operands_of P) operands) reported.0;
              counted = ap (λ u. u.nodes) reported.1;
            }

      promised : {new : bound.Memory} → ExactLeaves (short_verdict s choices) (bound.wide_job s choices) (exact_figure (bound.wide_job s choices)) (full_state J) old new → ExactPromises s choices old new kinds operands new_kinds new_operands r
      promised left = record {
        answers = p.answer;
        outcome = ap exact_outcome p.answer ∙ said_by exact_values (exact_verdict s choices old kinds operands) (exact_report s choices);
        memory = left;
        kinds_left = p.kinds_left;
        operands_left = p.operands_left;
        recursion = exact_recursion (bound.wide_job s choices);
        normal = normal_listed (bound.wide_job s choices);
        exact = λ b w. subst (λ u. OptimumHolds J u.optimum) (sym (reported w).1) (optimum_holds J (in_range w));
        optimal = λ h. optimum_holds J (short_in_range h);
        planned = λ h. optimum_planned J (short_in_range h);
        figures = figures_held;
        digits = λ h. copies_by_digits J (short_in_range h).kinds.0;
        floor = λ h. exact_floors J (short_in_range h);
        plan = λ b w. written w;
      }

    -- what a verdict before the storage's checks leads to
    abbrev after : Checked → Checked
    after v = next (next v (first_refusal (bound.memory_checks (bound.wide_job s choices) (full_state J) old))) (nodes_verdict P kinds operands)

    -- the job is refused, or has too many states: nothing is changed
    pub unaccepted : {x : Refusal} {r : Answer ExactReport} → short_verdict s choices ≡ Err x → IsErrAnd r (λ y. y ≡ x) → ExactPromises s choices old old kinds operands kinds operands r
    unaccepted v p = promised (untouched _ _ kinds operands (before_refuses _ _ (before_refuses _ _ v)) p) (rw v (record { lengths = refl; widths = refl; table = refl }))

    -- the report of the last state
    same_report : job_report J (full_state J) ≡ exact_report s choices
    same_report =
        let e : state_count J - 1 + 1 ≡ state_count J = omega (arith, states_some J.demand J.count) in
        ap (λ n. record { optimum = (exact_report s choices).optimum; states = n; length_count = (exact_report s choices).length_count; columns = (exact_report s choices).columns; nodes = node_count P }) e

    -- a short order: what its optimum and plan answer and leave is what the call does
    pub accepted : ShortOrder s choices → {j : JobRecord} {q : ℕ} → j ≡ record_of s choices → q ≡ full_state J → {new : bound.Memory} {new_kinds new_operands : List ℕ} {r : Answer ExactReport}
        → ExactLeaves passed (widened (job_of j)) (exact_figure (widened (job_of j))) q old new
        → Drawn (room_verdict (job_of j) q old kinds operands) (job_report (job_of j) q) (job_plan (job_of j) q) kinds operands new_kinds new_operands r
        → ExactPromises s choices old new kinds operands new_kinds new_operands r
    accepted v e f {new} {new_kinds} {new_operands} {r} left p =
        let plan : Drawn (after passed) (job_report J (full_state J)) P kinds operands new_kinds new_operands r = rw (e, f) at p in
        let own : Drawn (after passed) (exact_report s choices) P kinds operands new_kinds new_operands r = subst (λ b. Drawn (after passed) b P kinds operands new_kinds new_operands r) same_report plan in
        let memory : ExactLeaves passed (bound.wide_job s choices) (exact_figure (bound.wide_job s choices)) (full_state J) old new = rw (e, f) at left in
        promised (subst (λ v. Drawn (after v) (exact_report s choices) P kinds operands new_kinds new_operands r) (sym v) own) (rw v memory)

-- a job block that passed and whose states were counted
module _ (s : List ℕ) (choices : Choices) {a : Answer JobRecord} {j : JobRecord} (e : a ≡ read_of s choices) (p : a ≡ Ok j) {blocks : List ℕ} {c : Answer ℕ} (counted : StatesCounted (job_of j) blocks c) where
  passed_job : (first_refusal (job_checks s choices) ≡ passed) × (j ≡ record_of s choices)
  passed_job = answered s choices e p

  verdict_is : short_verdict s choices ≡ first_refusal (state_check (job_of j) ∷ [])
  verdict_is = states_decide s choices passed_job.0 ∙ ap (λ (j : JobRecord). first_refusal (state_check (job_of j) ∷ [])) (sym passed_job.1)

  -- too many states
  pub read_many : {x : Refusal} → c ≡ Err x → short_verdict s choices ≡ Err x
  read_many f = verdict_is ∙ refusal_answered _ _ (sym counted.answer ∙ f)

  module _ {q : ℕ} (f : c ≡ Ok q) where
    counted_is : (first_refusal (state_check (job_of j) ∷ []) ≡ passed) × (q ≡ full_state (job_of j))
    counted_is = value_answered _ _ (sym counted.answer ∙ f)

    -- what its optimum and plan ask
    pub read_short : Short (job_of j) blocks q
    read_short =
        let listed = counted.listed q f in
        let some = states_some (job_of j).demand (job_of j).count in
        record {
          in_range = read_range s choices e p;
          states_are = omega (arith, counted_is.1, some);
          most = omega (arith, counted_is.1, ltb-false 4096 (state_count (job_of j)) (cons_passed _ _ _ counted_is.0).0);
          listed = listed.0;
          entries = listed.1;
        }

    pub short_order : ShortOrder s choices
    short_order = verdict_is ∙ counted_is.0

    pub last_is : q ≡ full_state (block_job s choices)
    last_is = counted_is.1 ∙ ap (λ (j : JobRecord). full_state (job_of j)) passed_job.1
