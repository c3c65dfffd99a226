-- A short order that was read: the figures of its pieces are its own, its plan is written from them, and what each refusal or the count of
-- the nodes makes of the answer.
use Rattle.exact.proofs.Prelude.{◌≡◌, refl, sym, ◌∙◌, ap, ap₂, subst, Bool, List, [], ◌∷◌, ℕ, ◌+◌, ◌-◌, ◌*◌, arith, ltb-false, ltb, length, get_or, Length, Width, over, Tree, Piece, kind, node_count, Sides, rect_of, sides_of, Job, widened, figure_under, normal_positions, plan_of, one_copy, no_more, exact_figure, InTableRange, size_in, price_in, listed_weight, pieces_job, PieceArray, range_solid, widened_above, listed_above, state_figure, laid_plan, next, first_refusal, Refusal, TableShort, cons_passed, words_needed, Kept, by_state, Order, figure_at, by_state_monotone, under, Digits, digits_order, BoundReport, pieces_range, same_positions, same_count, same_position, same_words, report_is, ChoiceInput, array_numbered, nodes_verdict, reported, table_of, whole_plan, Thick, Planned, one_passed, listed_over, ExactReport, StateFigures, StatesAfter, ExactLeaves, answer_by, Countable, state_report, Filled, Short, exact_of, job_report, job_plan, room_verdict, Drawn, Ok, Err, passed, Checked, Answer, WriteReport}
use Rattle.bound.specs.Bound as bound
use Rattle.exact.proofs.Pieces.{order_same, digits_listed}
use Rattle.std.specs.Result.{IsErrAnd}
use Rattle.refusal.proofs.Results.{handed, refused_answer, given_answer, refusal_answered, value_answered, before_refuses}

-- a refusal leaves the plan arrays as they were
pub untouched : (b : ExactReport) (t : Tree Piece) (kinds operands : List ℕ) {v : Checked} {x : Refusal} {r : Answer ExactReport} → v ≡ Err x → IsErrAnd r (λ y. y ≡ x) → Drawn v b t kinds operands kinds operands r
untouched b t kinds operands e p = rw e (record { answer = handed _ p; kinds_left = refl; operands_left = refl })

-- what the writing of a plan answers, as the exact call says it: a refusal, or a report
module _ {v : Checked} {b : BoundReport} {t : Tree Piece} {kinds operands new_kinds new_operands : List ℕ} {r : Answer WriteReport} (p : Planned v b t kinds operands new_kinds new_operands r) where
  abbrev Said : Answer ExactReport → Type 0
  Said x = Drawn v (exact_of (reported b (node_count t))) t kinds operands new_kinds new_operands x

  pub plan_refused : {y : Refusal} {x : Answer ExactReport} → r ≡ Err y → IsErrAnd x (λ z. z ≡ y) → Said x
  plan_refused e i = record { answer = refused_answer _ _ _ (refusal_answered v _ (sym p.answer ∙ e)) i; kinds_left = p.kinds_left; operands_left = p.operands_left }

  pub plan_reported : {w : WriteReport} {x : ExactReport} → r ≡ Ok w → x ≡ exact_of w → Said (Ok x)
  plan_reported e i =
      let k = value_answered v _ (sym p.answer ∙ e) in
      record { answer = given_answer _ _ k.0 (ap Ok i ∙ ap (λ w. Ok (exact_of w)) k.1); kinds_left = p.kinds_left; operands_left = p.operands_left }

module _ {J : Job} {q : ℕ} {blocks : List ℕ} (given : Short J blocks q) {plate : Sides} {n : ℕ} {pieces : List ℕ} (on : plate ≡ sides_of (widened J).plate) (array : PieceArray (widened J) (one_copy J) n pieces) where
  -- the plain job of the pieces, and the order of the states
  abbrev N : Job
  N = pieces_job (rect_of plate) n pieces

  abbrev d : ℕ
  d = J.count - 1

  abbrev le : ℕ → ℕ → Bool
  le = under blocks d

  digits : Digits blocks d (q + 1)
  digits = digits_listed J given.in_range.kinds.0 blocks given.listed given.states_are given.most (omega (arith, given.entries, given.in_range.kinds.1))

  order : Order le
  order = digits_order (λ i. get_or blocks i 0) d digits.digits

  range : InTableRange N
  range = subst (λ p. InTableRange (pieces_job (rect_of p) n pieces)) (sym on) (pieces_range J (one_copy J) n pieces array given.in_range)

  -- what the figures of the pieces ask
  pub countable : {floors : List ℕ} → length floors ≡ 2042 → Countable N blocks d q floors
  countable h = record { in_range = range; most = given.most; digits = digits; floors_there = h }

  -- the figures of the pieces
  abbrev F : ℕ → ℕ → ℕ → ℕ
  F = figure_at N le (listed_weight pieces)

  module _ {old new : bound.Memory} {floors : List ℕ} {b : Answer BoundReport} (left : Filled N F q old new floors b) where
    -- the plain job on the widened plate
    abbrev W : Job
    W = pieces_job (widened J).plate n pieces

    abbrev G : ℕ → ℕ → ℕ → ℕ
    G = figure_at W le (listed_weight pieces)

    moved : Filled W G q old new floors b
    moved = subst (λ p. Filled (pieces_job (rect_of p) n pieces) (figure_at (pieces_job (rect_of p) n pieces) le (listed_weight pieces)) q old new floors b) on left

    -- they are the job's
    same_figure : (l w s : ℕ) → G l w s ≡ exact_figure (widened J) l w s
    unfolding figure_at exact_figure
    same_figure l w s = ap (λ o. figure_under W (by_state o (λ p. listed_weight pieces (kind p))) l w s) (order_same J given.in_range.kinds.0 blocks given.listed)
        ∙ state_figure (widened J) (one_copy J) n (size_in pieces) (price_in pieces) (listed_weight pieces) array.listing (no_more J) l w s

    same_figures : (xs : List ℕ) → StateFigures W G q xs → StateFigures (widened J) (exact_figure (widened J)) q xs
    same_figures xs f a b c ha hb hc =
        let p = same_count (widened J) (one_copy J) n pieces array Length in
        let r = same_count (widened J) (one_copy J) n pieces array Width in
        ap (λ r. get_or xs ((a * r + b) * (q + 1) + c) 0) (sym r) ∙ f a b c (omega (arith, p)) (omega (arith, r)) hc
        ∙ same_figure _ _ c ∙ ap₂ (λ l w. exact_figure (widened J) l w c) (same_position (widened J) (one_copy J) n pieces array Length a) (same_position (widened J) (one_copy J) n pieces array Width b)

    -- the verdict of the storage checks
    abbrev storage : Checked
    storage = first_refusal (bound.memory_checks (widened J) q old)

    same_checks : first_refusal (bound.memory_checks W q old) ≡ storage
    same_checks = ap (λ k. first_refusal (bound.list_check (widened J) (length old.lengths) (length old.widths) ∷ (ltb (length old.table) k, TableShort k) ∷ [])) (same_words (widened J) (one_copy J) n pieces array q)

    abbrev lists : Checked
    lists = first_refusal (bound.list_check (widened J) (length old.lengths) (length old.widths) ∷ [])

    same_table : (v : Checked) → StatesAfter v W G q old.table new.table → StatesAfter v (widened J) (exact_figure (widened J)) q old.table new.table
    same_table (Ok _) t = (same_figures new.table t.0, subst (λ k. Kept k old.table new.table) (same_words (widened J) (one_copy J) n pieces array q) t.1)
    same_table (Err r) t = t

    pub memory_left : ExactLeaves passed (widened J) (exact_figure (widened J)) q old new
    memory_left = record {
      lengths = moved.memory.lengths ∙ ap (λ xs. bound.list_after lists xs old.lengths) (same_positions (widened J) (one_copy J) n pieces array Length);
      widths = moved.memory.widths ∙ ap (λ xs. bound.list_after lists xs old.widths) (same_positions (widened J) (one_copy J) n pieces array Width);
      table = same_table storage (subst (λ v. StatesAfter v W G q old.table new.table) same_checks moved.memory.table);
    }

    abbrev R : BoundReport
    R = state_report (widened J) (exact_figure (widened J)) q

    whole : b ≡ answer_by storage R
    whole = moved.answer ∙ ap₂ answer_by same_checks
        (report_is (same_figure (widened J).plate.0 (widened J).plate.1 q) refl (same_count (widened J) (one_copy J) n pieces array Length) (same_count (widened J) (one_copy J) n pieces array Width))

    abbrev T : Tree Piece
    T = job_plan J q

    -- the storage is refused: so is the plan
    pub storage_refused : (kinds operands : List ℕ) {x : Refusal} {r : Answer ExactReport} → b ≡ Err x → IsErrAnd r (λ y. y ≡ x) → Drawn (room_verdict J q old kinds operands) (job_report J q) T kinds operands kinds operands r
    storage_refused kinds operands e = untouched (job_report J q) T kinds operands (before_refuses storage _ (refusal_answered _ R (sym whole ∙ e)))

    module _ {report : BoundReport} (e : b ≡ Ok report) where
      stored : (storage ≡ passed) × (report ≡ R)
      stored = value_answered storage R (sym whole ∙ e)

      behind : (first_refusal (bound.memory_checks N q old) ≡ passed) × (report ≡ state_report N F q)
      behind = value_answered _ (state_report N F q) (sym left.answer ∙ e)

      -- what planning asks
      pub plan_ready : ChoiceInput (table_of plate n report) blocks d pieces new.lengths new.widths floors new.table
      plan_ready =
          let lists = bound.list_check N (length old.lengths) (length old.widths) in
          let words = bound.table_check N q (length old.table) in
          let long = cons_passed lists.0 lists.1 (words ∷ []) behind.0 in
          let room = cons_passed words.0 words.1 [] long.1 in
          let v : first_refusal (lists ∷ []) ≡ passed = one_passed lists.0 lists.1 long.0 in
          let l : new.lengths ≡ over (normal_positions N Length) old.lengths = left.memory.lengths ∙ ap (λ u. bound.list_after u (normal_positions N Length) old.lengths) v in
          let w : new.widths ≡ over (normal_positions N Width) old.widths = left.memory.widths ∙ ap (λ u. bound.list_after u (normal_positions N Width) old.widths) v in
          let f = subst (λ u. StatesAfter u N F q old.table new.table) behind.0 left.memory.table in
          let m = left.mapped report e in
          record {
            numbered = array_numbered (widened J) (one_copy J) n pieces array given.in_range.kinds.1;
            ordered = (digits.digits, digits.listed);
            floors_there = m.entries;
            tabled = record {
              in_range = range;
              order = order;
              columns_are = rw behind.1 refl;
              capacity_most = rw behind.1 given.most;
              lengths_are = rw l (listed_over N Length old.lengths);
              widths_are = rw w (listed_over N Width old.widths);
              lengths_floored = m.lengths;
              widths_floored = m.widths;
              words_there = rw behind.1 (omega (arith, ltb-false (length old.table) (words_needed N q) room.0, f.1.0));
              figures = rw behind.1 f.0;
            };
          }

      -- every side of the pieces is above the kerf
      pub plan_thick : Thick J.kerf (table_of plate n report) pieces
      plan_thick = listed_above (widened J) (one_copy J) n (size_in pieces) (price_in pieces) (listed_weight pieces) array.listing J.kerf (widened_above J (range_solid J given.in_range))

      -- the plan of the pieces is the job's
      same_plan : whole_plan le J.kerf (table_of plate n report) pieces ≡ T
      same_plan = rw (on, stored.1) (laid_plan le (by_state_monotone le order) J (one_copy J) n pieces array (range_solid J given.in_range) (widened J).plate.0 (widened J).plate.1 q (omega arith) (omega arith)
          ∙ ap (λ o. plan_of J (by_state o (λ p. one_copy J (kind p))) (widened J).plate.0 (widened J).plate.1 q) (order_same J given.in_range.kinds.0 blocks given.listed))

      -- check 21 alone is left
      pub plan_made : {kinds operands new_kinds new_operands : List ℕ} {r : Answer WriteReport}
          → Planned (nodes_verdict (whole_plan le J.kerf (table_of plate n report) pieces) kinds operands) report (whole_plan le J.kerf (table_of plate n report) pieces) kinds operands new_kinds new_operands r
          → Planned (room_verdict J q old kinds operands) R T kinds operands new_kinds new_operands r
      plan_made {kinds} {operands} {new_kinds} {new_operands} {r} p =
          let a = subst (λ t. Planned (nodes_verdict t kinds operands) report t kinds operands new_kinds new_operands r) same_plan p in
          let c = subst (λ y. Planned (nodes_verdict T kinds operands) y T kinds operands new_kinds new_operands r) stored.1 a in
          subst (λ v. Planned (next v (nodes_verdict T kinds operands)) R T kinds operands new_kinds new_operands r) (sym stored.0) c
