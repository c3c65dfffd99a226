-- Writing the plan of an accepted job: what the bound of the job leaves is what the choice reads, and what each refusal or the count of
-- the nodes makes of the answer.
use Rattle.writer.proofs.Prelude.{◌≡◌, refl, sym, ◌∙◌, ap, subst, Bool, true, false, ◌||◌, List, [], ◌∷◌, ℕ, ◌+◌, ◌≤◌, arith, ltb-false, ltb, length, get_or, drop, length-append, length-map, List·getD-append, Direction, Length, Width, over, preorder, kind_of, operand_of, kinds_of, operands_of, node_count, Sides, most_capacity, Tree, Piece, kind, rect_of, sides_of, by_weight, Job, widened, normal_positions, plan_of, plan_under, InTableRange, size_in, price_in, listed_weight, pieces_job, PieceArray, range_solid, widened_above, listed_above, laid_plan, plain_states, next, refuse_when, first_refusal, Refusal, PlanLong, weight_in, cons_passed, position, words_needed, Figures, Listed, below, by_state, by_state_monotone, figure_one, under, digits_order, one_digit, BoundReport, Boundable, Bounded, pieces_range, pieces_bounded, Numbered, ChoiceInput, array_numbered, WriteReport, nodes_verdict, reported, NodesListed, table_of, whole_plan, Thick, Weighed, room_verdict, Planned, Ok, Err, passed, Checked, Answer, take, ◌++◌}
use Rattle.states.specs.States as states
use Rattle.bound.specs.Bound as bound
use Rattle.writer.proofs.Listed.{copied_over}
use Rattle.std.specs.Result.{IsErrAnd}
use Rattle.refusal.proofs.Results.{handed, value_answered, refusal_answered, before_refuses}
use Rattle.job.proofs.Checks.{check_last, passed_false}

-- three tests of which none holds
pub none_long : (n a b : ℕ) → (ltb 4095 n || ltb a n) || ltb b n ≡ false → (n ≤ 4095) × (n ≤ a) × (n ≤ b)
none_long n a b e = go (ltb 4095 n) (ltb a n) (ltb b n) refl refl refl e
  where
    go : (x y z : Bool) → ltb 4095 n ≡ x → ltb a n ≡ y → ltb b n ≡ z → (x || y) || z ≡ false → (n ≤ 4095) × (n ≤ a) × (n ≤ b)
    go false false false p q r f = (ltb-false 4095 n p, ltb-false a n q, ltb-false b n r)
    go true y z p q r f = absurd (let u : ◌≡◌ {A = ℕ} 0 1 = cc in omega arith)
    go false true z p q r f = absurd (let u : ◌≡◌ {A = ℕ} 0 1 = cc in omega arith)
    go false false true p q r f = absurd (let u : ◌≡◌ {A = ℕ} 0 1 = cc in omega arith)

-- a refusal leaves the plan arrays as they were
pub untouched : (b : BoundReport) (t : Tree Piece) (kinds operands : List ℕ) {v : Checked} {x : Refusal} {r : Answer WriteReport} → v ≡ Err x → IsErrAnd r (λ y. y ≡ x) → Planned v b t kinds operands kinds operands r
untouched b t kinds operands e p = rw e (record { answer = handed _ p; kinds_left = refl; operands_left = refl })

pub one_passed : (t : Bool) (r : Refusal) → t ≡ false → first_refusal ((t, r) ∷ []) ≡ passed
unfolding first_refusal
one_passed t r e = ap (λ x. next (refuse_when x r) passed) e

-- the normal positions over old contents
pub listed_over : (J : Job) (d : Direction) (old : List ℕ) → Listed J d (over (normal_positions J d) old)
listed_over J d old = (
  omega (arith, length-append (normal_positions J d) (drop (length (normal_positions J d)) old)),
  λ i h. List·getD-append (normal_positions J d) (drop (length (normal_positions J d)) old) 0 i h,
)

-- one digit: the table of the weights is that of the states, and the shares are those by weight
figures_states : (J : Job) (weight : ℕ → ℕ) (q : ℕ) (xs : List ℕ) → Figures J weight q xs → states.Figures J (under ((q + 1) ∷ []) 0) weight (q + 1) xs
unfolding below
figures_states J weight q xs f a b c ha hb hc = f a b c ha hb hc ∙ sym (figure_one J weight (position J Length a) (position J Width b) c)

one_shares : {P : Type 0} (m : ℕ) (weight : P → ℕ) → by_state (under (m ∷ []) 0) weight ≡ by_weight weight
unfolding below
one_shares m weight = plain_states weight

-- what the choice reads, from what the bound of the pieces leaves
module _ (plate : Sides) (n : ℕ) (pieces : List ℕ) (q : ℕ) (range : InTableRange (pieces_job (rect_of plate) n pieces)) (most : q ≤ most_capacity) (numbered : Numbered n pieces)
    (old new : bound.Memory) (floors : List ℕ) {b : Answer BoundReport} (left : Bounded (pieces_job (rect_of plate) n pieces) (listed_weight pieces) q old new floors b) (report : BoundReport) (e : b ≡ Ok report) where
  abbrev N : Job
  N = pieces_job (rect_of plate) n pieces

  behind : (first_refusal (bound.memory_checks N q old) ≡ passed) × (report ≡ bound.bound_report N (listed_weight pieces) q)
  behind = value_answered _ _ (sym left.answer ∙ e)

  pub choice_input : ChoiceInput (table_of plate n report) ((q + 1) ∷ []) 0 pieces new.lengths new.widths floors new.table
  choice_input =
      let lists = bound.list_check N (length old.lengths) (length old.widths) in
      let words = bound.table_check N q (length old.table) in
      let long = cons_passed lists.0 lists.1 (words ∷ []) behind.0 in
      let room = cons_passed words.0 words.1 [] long.1 in
      let v : first_refusal (lists ∷ []) ≡ passed = one_passed lists.0 lists.1 long.0 in
      let l : new.lengths ≡ over (normal_positions N Length) old.lengths = left.memory.lengths ∙ ap (λ u. bound.list_after u (normal_positions N Length) old.lengths) v in
      let w : new.widths ≡ over (normal_positions N Width) old.widths = left.memory.widths ∙ ap (λ u. bound.list_after u (normal_positions N Width) old.widths) v in
      let f = subst (λ u. bound.TableAfter u N (listed_weight pieces) q old.table new.table) behind.0 left.memory.table in
      let m = left.mapped report e in
      record {
        numbered = numbered;
        ordered = ((one_digit (q + 1) (omega arith) (omega arith)).digits, omega arith);
        floors_there = m.entries;
        tabled = record {
          in_range = range;
          order = digits_order (λ i. get_or ((q + 1) ∷ []) i 0) 0 (one_digit (q + 1) (omega arith) (omega arith)).digits;
          columns_are = rw behind.1 refl;
          capacity_most = rw behind.1 most;
          lengths_are = rw l (listed_over N Length old.lengths);
          widths_are = rw w (listed_over N Width old.widths);
          lengths_floored = m.lengths;
          widths_floored = m.widths;
          words_there = rw behind.1 (omega (arith, ltb-false (length old.table) (words_needed N q) room.0, f.1.0));
          figures = rw behind.1 (figures_states N (listed_weight pieces) q new.table f.0);
        };
      }

-- what the bound of a job's pieces asks
pub boundable : {J : Job} {ws : List ℕ} {q : ℕ} → Weighed J ws q → {plate : Sides} {n : ℕ} {pieces floors : List ℕ} → plate ≡ sides_of (widened J).plate → PieceArray (widened J) (weight_in ws) n pieces → length floors ≡ 2042
    → Boundable (pieces_job (rect_of plate) n pieces) q floors
boundable {J} {ws} {q} given {plate} {n} {pieces} {floors} on array h =
    subst (λ p. Boundable (pieces_job (rect_of p) n pieces) q floors) (sym on) (record { in_range = pieces_range J (weight_in ws) n pieces array given.in_range; most = given.most; floors_there = h })

-- the plan of a job by the answer of its pieces' bound
module _ {J : Job} {ws : List ℕ} {q : ℕ} (given : Weighed J ws q) {plate : Sides} {n : ℕ} {pieces : List ℕ} (on : plate ≡ sides_of (widened J).plate) (array : PieceArray (widened J) (weight_in ws) n pieces)
    {old new : bound.Memory} {floors : List ℕ} {b : Answer BoundReport} (left : Bounded (pieces_job (rect_of plate) n pieces) (listed_weight pieces) q old new floors b) where
  -- the same of the job, the kerf added to every side
  whole : Bounded (widened J) (weight_in ws) q old new floors b
  whole = pieces_bounded (widened J) (weight_in ws) n pieces array q old new floors b (subst (λ p. Bounded (pieces_job (rect_of p) n pieces) (listed_weight pieces) q old new floors b) on left)

  pub memory_left : bound.Leaves passed (widened J) (weight_in ws) q old new
  memory_left = whole.memory

  abbrev storage : Checked
  storage = first_refusal (bound.memory_checks (widened J) q old)

  abbrev T : Tree Piece
  T = plan_under J (weight_in ws) q

  abbrev R : BoundReport
  R = bound.bound_report (widened J) (weight_in ws) q

  -- the bound is refused: so is the plan
  pub bound_refused : (kinds operands : List ℕ) {x : Refusal} {r : Answer WriteReport} → b ≡ Err x → IsErrAnd r (λ y. y ≡ x) → Planned (room_verdict (widened J) q old T kinds operands) R T kinds operands kinds operands r
  bound_refused kinds operands e = untouched R T kinds operands (before_refuses storage _ (refusal_answered _ R (sym whole.answer ∙ e)))

  module _ {report : BoundReport} (e : b ≡ Ok report) where
    -- what planning asks
    pub plan_ready : ChoiceInput (table_of plate n report) ((q + 1) ∷ []) 0 pieces new.lengths new.widths floors new.table
    plan_ready =
        let range = subst (λ p. InTableRange (pieces_job (rect_of p) n pieces)) (sym on) (pieces_range J (weight_in ws) n pieces array given.in_range) in
        choice_input plate n pieces q range given.most (array_numbered (widened J) (weight_in ws) n pieces array given.in_range.kinds.1) old new floors left report e

    stored : (storage ≡ passed) × (report ≡ R)
    stored = value_answered storage R (sym whole.answer ∙ e)

    -- every side of the pieces is above the kerf
    pub plan_thick : Thick J.kerf (table_of plate n report) pieces
    plan_thick = listed_above (widened J) (weight_in ws) n (size_in pieces) (price_in pieces) (listed_weight pieces) array.listing J.kerf (widened_above J (range_solid J given.in_range))

    -- the plan of the pieces is the job's
    same_plan : whole_plan (under ((q + 1) ∷ []) 0) J.kerf (table_of plate n report) pieces ≡ T
    same_plan = rw (on, stored.1) (laid_plan (under ((q + 1) ∷ []) 0) (by_state_monotone (under ((q + 1) ∷ []) 0) (digits_order (λ i. get_or ((q + 1) ∷ []) i 0) 0 (one_digit (q + 1) (omega arith) (omega (arith, given.most))).digits))
        J (weight_in ws) n pieces array (range_solid J given.in_range) (widened J).plate.0 (widened J).plate.1 q (omega arith) (omega arith)
        ∙ ap (λ H. plan_of J H (widened J).plate.0 (widened J).plate.1 q) (one_shares (q + 1) (λ p. weight_in ws (kind p))))

    -- check 21 alone is left
    pub plan_made : {kinds operands new_kinds new_operands : List ℕ} {r : Answer WriteReport}
        → Planned (nodes_verdict (whole_plan (under ((q + 1) ∷ []) 0) J.kerf (table_of plate n report) pieces) kinds operands) report (whole_plan (under ((q + 1) ∷ []) 0) J.kerf (table_of plate n report) pieces) kinds operands new_kinds new_operands r
        → Planned (room_verdict (widened J) q old T kinds operands) R T kinds operands new_kinds new_operands r
    plan_made {kinds} {operands} {new_kinds} {new_operands} {r} p =
        let a = subst (λ t. Planned (nodes_verdict t kinds operands) report t kinds operands new_kinds new_operands r) same_plan p in
        let c = subst (λ x. Planned (nodes_verdict T kinds operands) x T kinds operands new_kinds new_operands r) stored.1 a in
        subst (λ v. Planned (next v (nodes_verdict T kinds operands)) R T kinds operands new_kinds new_operands r) (sym stored.0) c

-- the plan by the number of its nodes
module _ (report : BoundReport) (T : Tree Piece) (kinds operands : List ℕ) {blank_kinds blank_operands listed_kinds listed_operands : List ℕ} {nodes : ℕ} (l : NodesListed T blank_kinds blank_operands listed_kinds listed_operands nodes)
    {long : Bool} (t : long ≡ (ltb 4095 nodes || ltb (length kinds) nodes) || ltb (length operands) nodes) {a : Checked} (k : a ≡ refuse_when long (PlanLong nodes)) where
  judged : nodes_verdict T kinds operands ≡ a
  judged = rw (sym l.number) (sym (check_last _ _ (k ∙ ap (λ b. refuse_when b (PlanLong nodes)) t)))

  -- it is too long: refusal 21 with the nodes needed
  pub plan_refused : {x : Refusal} {r : Answer WriteReport} → a ≡ Err x → IsErrAnd r (λ y. y ≡ x) → Planned (nodes_verdict T kinds operands) report T kinds operands kinds operands r
  plan_refused e = untouched report T kinds operands (judged ∙ e)

  module _ (e : a ≡ passed) where
    -- there is room
    pub few : (nodes ≤ 4095) × (nodes ≤ length kinds) × (nodes ≤ length operands)
    few = none_long nodes (length kinds) (length operands) (sym t ∙ passed_false long _ (sym k ∙ e))

    -- then the plan stands over the arrays' first entries, and is reported
    pub plan_written : length blank_kinds ≡ 4095 → length blank_operands ≡ 4095 → {written : WriteReport} {new_kinds new_operands : List ℕ} → written ≡ reported report nodes → new_kinds ≡ take nodes listed_kinds → new_operands ≡ take nodes listed_operands
        → Planned (nodes_verdict T kinds operands) report T kinds operands (new_kinds ++ drop nodes kinds) (new_operands ++ drop nodes operands) (Ok written)
    unfolding kinds_of operands_of node_count
    plan_written m n w p o =
        let i : nodes ≡ length (kinds_of T) = l.number ∙ sym (length-map (preorder T) (λ n. kind_of n)) in
        let j : nodes ≡ length (operands_of T) = l.number ∙ sym (length-map (preorder T) (λ n. operand_of n)) in
        rw (judged, e) (record {
          answer = rw (w, l.number) refl;
          kinds_left = copied_over kinds (kinds_of T) blank_kinds i (omega (arith, few.0, m)) l.kinds_listed p;
          operands_left = copied_over operands (operands_of T) blank_operands j (omega (arith, few.0, n)) l.operands_listed o;
        })
