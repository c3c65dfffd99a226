-- The call on the arrays of the plates' sides: what the checks before any plan's leave known, and all that is promised of an answer that
-- equals the definition.
use Rattle.rack.proofs.Prelude.{◌≡◌, ◌∙◌, refl, sym, ap, subst, inl, inr, ⊎_elim, List, [], ◌∷◌, ◌++◌, map, map-map, map-append, ℕ, zero, suc, ◌+◌, ◌≤◌, ◌<◌, zero-add, arith, length, get_or, replicate, length-append, length-replicate, get_or-replicate, sum, Rect, Tree, Piece, preorder, node_count, kinds_of, operands_of, Job, OnPlate, profit, SolidKinds, any_on, sum_le, number_of, place_of, first_refusal, Refusal, IdleCut, RackDemand, Choices, JobRecord, count_at, plateless_checks, pair_checks, record_of, job_of, HoldsBlock, block_job, Counts, plateless_passed, counts_hold, block_passed, pairs_range, pair_of, tree_checks, nodes_in, plan_checks, written, firsts, seconds, arrays_written, kinds_length, operands_length, whole_counts, plate_at, rack_size_check, order_checks, plate_checks, rack_checks, by_check, verdict_of, proceed, proceed_passed, proceed_value, IsErrAnd, handed, plans_answer, rack_answer, rack_outcome, OrderPasses, BeforePasses, RackOf, RackUpTo, IdleAt, OverAt, RackChecks, PlatesPromises, plated, SharesDemands, chained, rack_keeps, any_together, any_finer, rack_holds, rack_finer, Ok, Err, passed, Checked, Answer}
use Rattle.rack.proofs.Before.{before_passed, size_passed}
use Rattle.rack.proofs.Numbers.{before_gives, tree_gives}
use Rattle.rack.proofs.Trees.{racked, passing}
use Rattle.refusal.specs.Refusals.{refused_as}
use Rattle.rack.proofs.Refused.{Either, by_refused, Met, Stopped, stopped, stops}
use Rattle.rack.proofs.Unread.{same_job, same_answer}

-- a list of each plan, one after another
map_chained : {A B : Type 0} (f : A → B) (n : ℕ) (g : ℕ → List A) → map f (chained n g) ≡ chained n (λ p. map f (g p))
unfolding chained
map_chained f zero g = refl
map_chained f (suc n) g = map-append f (g 0) (chained n (λ p. g (suc p))) ∙ ap (λ l. map f (g 0) ++ l) (map_chained f n (λ p. g (suc p)))

-- nodes of arrays, one after another
nodes_append : (a b xs ys : List ℕ) → length a ≡ length b → nodes_in (a ++ xs) (b ++ ys) ≡ nodes_in a b ++ nodes_in xs ys
nodes_append [] [] xs ys h = refl
nodes_append [] (y ∷ b) xs ys h = absurd (omega arith)
nodes_append (x ∷ a) [] xs ys h = absurd (omega arith)
nodes_append (x ∷ a) (y ∷ b) xs ys h = ap (λ l. (x, y) ∷ l) (nodes_append a b xs ys (omega arith))

nodes_chained : (n : ℕ) (tree : ℕ → Tree Piece) → nodes_in (chained n (λ p. kinds_of (tree p))) (chained n (λ p. operands_of (tree p))) ≡ chained n (λ p. written (tree p))
unfolding chained
nodes_chained zero tree = refl
nodes_chained (suc n) tree = nodes_append (kinds_of (tree 0)) (operands_of (tree 0)) _ _ (kinds_length (tree 0) ∙ sym (operands_length (tree 0)))
    ∙ (λ i. arrays_written (tree 0) i ++ nodes_chained n (λ p. tree (suc p)) i)

written_first : (t : Tree Piece) → map (λ p. p.0) (written t) ≡ kinds_of t
unfolding kinds_of
written_first t = map-map (λ p. p.0) (λ n. pair_of n) (preorder t)

written_second : (t : Tree Piece) → map (λ p. p.1) (written t) ≡ operands_of t
unfolding operands_of
written_second t = map-map (λ p. p.1) (λ n. pair_of n) (preorder t)

-- as many kinds as operands
chained_same : (n : ℕ) (tree : ℕ → Tree Piece) → length (chained n (λ p. kinds_of (tree p))) ≡ length (chained n (λ p. operands_of (tree p)))
unfolding chained
chained_same zero tree = refl
chained_same (suc n) tree = omega (
  arith,
  length-append (kinds_of (tree 0)) (chained n (λ p. kinds_of (tree (suc p)))),
  length-append (operands_of (tree 0)) (chained n (λ p. operands_of (tree (suc p)))),
  kinds_length (tree 0),
  operands_length (tree 0),
  chained_same n (λ p. tree (suc p)),
)

-- the number and values of an answer that follows a check
outcome_after : (v : Checked) (a : Answer (List ℕ)) → rack_outcome (proceed v a) ≡ by_check v (rack_outcome a) refused_as
outcome_after (Ok _) a = refl
outcome_after (Err r) a = refl

module _ (s : List ℕ) (choices : Choices) where
  abbrev J : Job
  J = block_job s choices

  -- what a job block whose order passes says of its kinds
  order_counts : OrderPasses s choices → Counts choices s
  unfolding order_checks
  order_counts p = plateless_passed choices s (block_passed plateless_checks pair_checks s choices p).0

  pub order_holds : OrderPasses s choices → HoldsBlock choices s
  order_holds p = counts_hold choices s (count_at s) refl (order_counts p)

  pub order_few : OrderPasses s choices → J.count ≤ 64
  unfolding record_of
  order_few p = (order_counts p).kinds.1

  order_solid : OrderPasses s choices → SolidKinds J
  unfolding order_checks
  order_solid p i l =
      let r = pairs_range plateless_checks s choices p (order_counts p) 1 1 ((omega arith, omega arith), (omega arith, omega arith)) in
      (omega (arith, (r.lengths i l).0), omega (arith, (r.widths i l).0))

  module _ (lengths widths kinds operands : List ℕ) where
    abbrev n : ℕ
    n = length lengths

    abbrev plate : ℕ → Rect
    plate = plate_at lengths widths

    abbrev plans : Answer (List ℕ)
    plans = plans_answer J plate n kinds operands

    abbrev before : Checked
    before = first_refusal (rack_checks s choices lengths widths kinds operands)

    module _ (b : BeforePasses s choices lengths widths kinds operands) where
      parts : (first_refusal (rack_size_check lengths widths ∷ []) ≡ passed) × OrderPasses s choices × (first_refusal (plate_checks plate n) ≡ passed) × (first_refusal (plan_checks kinds operands) ≡ passed)
      parts = before_passed s choices lengths widths kinds operands b

      -- plans that are refused with x at a tree
      abbrev Halted : Refusal → Type 0
      Halted x = Stopped J (order_few parts.1) plate kinds operands (whole_counts kinds operands parts.3).0 0 n 0 (replicate 64 0) x

      none_yet : (j : ℕ) → j < J.count → ◌≡◌ {A = ℕ} (get_or (replicate 64 0) j 0) 0
      none_yet j l = get_or-replicate {A = ℕ} 64 j 0 0 (omega (arith, l, order_few parts.1))

      -- plans that pass are trees'
      drawn : {given : List ℕ} → plans ≡ Ok given → (tree : ℕ → Tree Piece) × RackOf J n plate tree kinds operands × ((p : ℕ) → p < n → get_or given p 0 ≡ profit J (tree p))
      unfolding plans_answer
      drawn {given} p =
          let same = (whole_counts kinds operands parts.3).0 in
          let t = racked J (order_few parts.1) plate kinds operands same n 0 0 (replicate 64 0) (replicate 16 0) (length-replicate {A = ℕ} 64 0) (length-replicate {A = ℕ} 16 0) (omega (arith, (size_passed lengths widths parts.0).2))
          (λ j l. omega (arith, none_yet j l)) p in
          let shares : SharesDemands J n t.tree = λ j l. (let h = t.shares j l in omega (arith, h, none_yet j l)) in
          let nodes : nodes_in kinds operands ≡ chained n (λ q. written (t.tree q)) = t.nodes in (
            t.tree,
            record {
              on_plates = λ q l. subst (λ i. OnPlate (plated J (plate i)) (t.tree q)) (zero-add q) (t.on q l);
              keeps = rack_keeps J n t.tree shares;
              shares = shares;
              idle_free = t.free;
              kinds_are = sym (firsts kinds operands same) ∙ ap (map (λ q. q.0)) nodes ∙ map_chained (λ q. q.0) n (λ q. written (t.tree q)) ∙ (λ i. chained n (λ q. written_first (t.tree q) i));
              operands_are = sym (seconds kinds operands same) ∙ ap (map (λ q. q.1)) nodes ∙ map_chained (λ q. q.1) n (λ q. written (t.tree q)) ∙ (λ i. chained n (λ q. written_second (t.tree q) i));
            },
            λ q l. ap (λ i. get_or given i 0) (sym (zero-add q)) ∙ t.paid q l,
          )

      -- and the other way
      judged : (tree : ℕ → Tree Piece) → RackOf J n plate tree kinds operands → verdict_of plans ≡ passed
      unfolding plans_answer
      judged tree t =
          passing J (order_few parts.1) plate kinds operands (whole_counts kinds operands parts.3).0 n 0 0 (replicate 64 0) (replicate 16 0) tree (length-replicate {A = ℕ} 64 0)
          (λ q l. subst (λ i. OnPlate (plated J (plate i)) (tree q)) (sym (zero-add q)) (t.on_plates q l)) t.idle_free (λ j l. (let h = t.shares j l in omega (arith, h, none_yet j l)))
          ((λ i. nodes_in (t.kinds_are i) (t.operands_are i)) ∙ nodes_chained n tree)

      -- plans that are refused with 26 or 29 are trees' up to there
      halted : (x : Refusal) → Either x → verdict_of plans ≡ Err x → Halted x
      unfolding plans_answer
      halted x kind p = stopped J (order_few parts.1) plate kinds operands (whole_counts kinds operands parts.3).0 n 0 0 (replicate 64 0) (replicate 16 0) x (length-replicate {A = ℕ} 64 0) (λ j l. omega (arith, none_yet j l)) kind p

      up_to : {x : Refusal} (u : Halted x) → RackUpTo J u.at plate u.tree kinds operands
      up_to u =
          let same = (whole_counts kinds operands parts.3).0 in
          let nodes : nodes_in kinds operands ≡ chained (suc u.at) (λ q. written (u.tree q)) ++ u.more = u.nodes in
          record {
            on_plates = λ q l. subst (λ i. OnPlate (plated J (plate i)) (u.tree q)) (zero-add q) (u.on q l);
            keeps = u.keeps;
            shares = λ j l. omega (arith, u.shares j l, none_yet j l);
            idle_free = u.free;
            kinds_begin = (
              map (λ q. q.0) u.more,
              sym (firsts kinds operands same) ∙ ap (map (λ q. q.0)) nodes ∙ map-append (λ q. q.0) (chained (suc u.at) (λ q. written (u.tree q))) u.more
                  ∙ ap (λ l. l ++ map (λ q. q.0) u.more) (map_chained (λ q. q.0) (suc u.at) (λ q. written (u.tree q)) ∙ (λ i. chained (suc u.at) (λ q. written_first (u.tree q) i))),
            );
            operands_begin = (
              map (λ q. q.1) u.more,
              sym (seconds kinds operands same) ∙ ap (map (λ q. q.1)) nodes ∙ map-append (λ q. q.1) (chained (suc u.at) (λ q. written (u.tree q))) u.more
                  ∙ ap (λ l. l ++ map (λ q. q.1) u.more) (map_chained (λ q. q.1) (suc u.at) (λ q. written (u.tree q)) ∙ (λ i. chained (suc u.at) (λ q. written_second (u.tree q) i))),
            );
          }

      idle_told : (k : ℕ) → verdict_of plans ≡ Err (IdleCut k) → IdleAt J n plate kinds operands k
      idle_told k p =
          let u = halted (IdleCut k) (inl refl) p in
          (u.tree, u.at, u.inside, up_to u, ⊎_elim (λ e. ap (λ m. first_refusal (tree_checks m (u.tree u.at))) (sym (zero-add (sum u.at (λ q. node_count (u.tree q))))) ∙ e) (λ e. absurd (let z = ap number_of e.1 in omega (arith, z))) u.met)

      over_told : (i : ℕ) → verdict_of plans ≡ Err (RackDemand i) → OverAt J n plate kinds operands i
      over_told i p = let u = halted (RackDemand i) (inr refl) p in ⊎_elim
          (λ e. absurd (let z = tree_gives (u.tree u.at) (0 + sum u.at (λ q. node_count (u.tree q))) (RackDemand i) e in omega (arith, z)))
          (λ e. (let z : u.at ≡ i = (let y = ap place_of e.1 in omega (arith, y)) in
          subst (OverAt J n plate kinds operands) z (u.tree, u.inside, up_to u, e.0, (e.2.0, e.2.1, omega (arith, e.2.2, none_yet e.2.0 e.2.1))))) u.met

      -- and the other way
      halts : (tree : ℕ → Tree Piece) (i : ℕ) → i < n → RackUpTo J i plate tree kinds operands → (x : Refusal) → Met J (order_few parts.1) plate kinds operands (whole_counts kinds operands parts.3).0 0 0 (replicate 64 0) tree i x → verdict_of plans ≡ Err x
      unfolding plans_answer
      halts tree i l t x met =
          stops J (order_few parts.1) plate kinds operands (whole_counts kinds operands parts.3).0 i n 0 0 (replicate 64 0) (replicate 16 0) tree (nodes_in t.kinds_begin.0 t.operands_begin.0) x l (length-replicate {A = ℕ} 64 0)
          (λ q l. subst (λ i. OnPlate (plated J (plate i)) (tree q)) (sym (zero-add q)) (t.on_plates q l)) t.keeps t.idle_free (λ j l. (let h = t.shares j l in omega (arith, h, none_yet j l)))
          ((λ j. nodes_in (t.kinds_begin.1 j) (t.operands_begin.1 j)) ∙ nodes_append (chained (suc i) (λ p. kinds_of (tree p))) (chained (suc i) (λ p. operands_of (tree p))) t.kinds_begin.0 t.operands_begin.0 (chained_same (suc i) tree)
          ∙ ap (λ l. l ++ nodes_in t.kinds_begin.0 t.operands_begin.0) (nodes_chained (suc i) tree)) met

      idle_halts : (k : ℕ) → IdleAt J n plate kinds operands k → verdict_of plans ≡ Err (IdleCut k)
      idle_halts k t = halts t.0 t.1 t.2 t.3 (IdleCut k) (inl (ap (λ m. first_refusal (tree_checks m (t.0 t.1))) (zero-add (sum t.1 (λ q. node_count (t.0 q)))) ∙ t.4))

      over_halts : (i : ℕ) → OverAt J n plate kinds operands i → verdict_of plans ≡ Err (RackDemand i)
      over_halts i t = halts t.0 i t.1 t.2 (RackDemand i) (inr (t.3, ap RackDemand (sym (zero-add i)), (t.4.0, t.4.1, omega (arith, t.4.2, none_yet t.4.0 t.4.1))))

    -- a rack that is refused with 26 or 29 passes the checks before any plan's
    past_before : (x : Refusal) → Either x → verdict_of (proceed before plans) ≡ Err x → BeforePasses s choices lengths widths kinds operands × (verdict_of plans ≡ Err x)
    past_before x kind p = ⊎_elim (λ e. (let n = before_gives s choices lengths widths kinds operands x e in absurd (⊎_elim n.0 n.1 kind))) (λ e. e) (by_refused before plans p)

    -- a rack that passes is that of trees
    trees : {given : List ℕ} → proceed before plans ≡ Ok given → (tree : ℕ → Tree Piece) × RackOf J n plate tree kinds operands × ((p : ℕ) → p < n → get_or given p 0 ≡ profit J (tree p))
    trees p = let b = proceed_value before plans p in drawn b.0 b.1

    checked : RackChecks s choices lengths widths kinds operands (proceed before plans)
    unfolding plans_answer
    checked =
        record {
          passes = λ b tree t. ap (λ v. verdict_of (proceed v plans)) b ∙ judged b tree t;
          before = λ p. (proceed_passed before plans p).0;
          trees = λ given p. trees p;
          idle = λ k. ((λ p. (let b = past_before (IdleCut k) (inl refl) p in (b.0, idle_told b.0 k b.1))), λ t. ap (λ v. verdict_of (proceed v plans)) t.0 ∙ idle_halts t.0 k t.1);
          shared = λ i. ((λ p. (let b = past_before (RackDemand i) (inr refl) p in (b.0, over_told b.0 i b.1))), λ t. ap (λ v. verdict_of (proceed v plans)) t.0 ∙ over_halts t.0 i t.1);
          unread = λ z h. same_answer choices s z h lengths widths kinds operands;
          other_plate = λ z h. same_job choices s z h;
          any = any_together J n plate;
          any_finer = any_finer J n plate;
          bounds = λ p. rack_holds J n plate (order_solid p);
          finer = λ p. rack_finer J n plate (order_solid p);
          earned = λ given p weight. (let t = trees p in let o = (parts (proceed_value before plans p).0).1 in
              let a = sum_le n (λ q. get_or given q 0) (λ q. profit J (t.0 q)) (λ q l. omega (arith, t.2 q l)) in
              let c = rack_holds J n plate (order_solid o) weight t.0 (λ q l. any_on (plated J (plate q)) (t.0 q) (t.1.on_plates q l)) t.1.shares in omega (arith, a, c));
        }

    -- an answer that equals the definition meets the whole contract
    pub plates_met : {r : Answer (List ℕ)} → r ≡ rack_answer s choices lengths widths kinds operands → PlatesPromises s choices lengths widths kinds operands r
    plates_met e = record { answers = e; outcome = ap (λ a. rack_outcome a) e ∙ outcome_after before plans; checks = subst (RackChecks s choices lengths widths kinds operands) (sym e) checked }

    -- the rack is refused before any plan
    pub plates_stopped : {v : Checked} {x : Refusal} (r : Answer (List ℕ)) → v ≡ before → v ≡ Err x → IsErrAnd r (λ y. y ≡ x) → r ≡ rack_answer s choices lengths widths kinds operands
    plates_stopped r e p h = handed r h ∙ sym (ap (λ v. proceed v plans) (sym e ∙ p))

    -- the plans of the job that was read decide
    pub plates_walked : {v : Checked} {j : JobRecord} → v ≡ before → v ≡ passed → j ≡ record_of s choices → plans_answer (job_of j) plate n kinds operands ≡ rack_answer s choices lengths widths kinds operands
    plates_walked e p r = ap (λ (j : JobRecord). plans_answer (job_of j) plate n kinds operands) r ∙ sym (ap (λ v. proceed v plans) (sym e ∙ p))
