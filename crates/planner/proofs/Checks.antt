-- The check of a plan: verdict and report are the inner check's, and what they mean for trees.
use Rattle.planner.proofs.Prelude.{◌≡◌, refl, sym, ◌∙◌, ap, ap₂, subst, Option, none, some, List, [], ◌∷◌, ◌++◌, ℕ, ◌+◌, ◌*◌, ◌≤◌, zero-add, arith, ltb, length, take_all, le-ltb, ltb-false, Rect, Tree, waste, piece, cut, IdleFree, Piece, upright, turned, saw, node_count, Job, laid, preorder, areas_sum, stages_paths, by_check, next, first_refusal, NodeLeft, passed_both, next_passed, cons_passed, idle_checks, tree_checks, idle_tree, passed_free, free_passed, passed_within, within_passed, path_checks, Report, TreeWalk, node_of, node_checks, parts, report_after, proceed, left_check, only_tree, nodes_in, empty_report, plan_checks, walk_answer, plan_answer, tree_in, DrawnAs, walk_ends, tree_passed, nodes_length, whole_passes, whole_counts, verdict_is, written, written_kinds, written_operands, kinds_length, operands_length, plans_checked, nodes_are, drawn_is, tree_drawn, drawn_tree, WithinLimit, waste_area, trim_area, sawdust_area, tree_report, stage_checks, tree_walk, walked, walk_verdict, plan_verdict, Checks, Ok, Err, Checked, Answer, passed, verdict_of, answer_by, ForOk}
use Rattle.cutting.specs.Areas as areas
use Rattle.plan.specs.Plan as old
use Rattle.plan.specs.Trees as old_trees

-- an answer that passes has a value
pub value_of : {A : Type 0} (a : Answer A) → verdict_of a ≡ passed → (x : A) × (a ≡ Ok x)
value_of (Ok x) p = (x, refl)
value_of (Err r) p = cc

next_assoc : (a b c : Checked) → next (next a b) c ≡ next a (next b c)
next_assoc (Ok _) b c = refl
next_assoc (Err r) b c = refl

-- the areas
waste_is : (k : ℕ) (t : Tree Piece) (r : Rect) → waste_area k r t ≡ areas.waste_area (saw k) r t
unfolding waste_area areas.waste_area saw
waste_is k waste r = refl
waste_is k (piece p) r = refl
waste_is k (cut d x a b) r = ap₂ ◌+◌ (waste_is k a _) (waste_is k b _)

trim_is : (size : Piece → Rect) (k : ℕ) (t : Tree Piece) (r : Rect) → trim_area size k r t ≡ areas.trim_area size (saw k) r t
unfolding trim_area areas.trim_area saw
trim_is size k waste r = refl
trim_is size k (piece p) r = refl
trim_is size k (cut d x a b) r = ap₂ ◌+◌ (trim_is size k a _) (trim_is size k b _)

dust_is : (k : ℕ) (t : Tree Piece) (r : Rect) → sawdust_area k r t ≡ areas.sawdust_area k r t
unfolding sawdust_area areas.sawdust_area saw
dust_is k waste r = refl
dust_is k (piece p) r = refl
dust_is k (cut d x a b) r = ap₂ (λ m n. k * areas.breadth d r + (m + n)) (dust_is k a _) (dust_is k b _)

pub report_is : (J : Job) (t : Tree Piece) → tree_report J t ≡ old_trees.tree_report J t
unfolding areas.pieces_area
report_is J t = λ i. record {
  profit = (old_trees.tree_report J t).profit;
  copies = (old_trees.tree_report J t).copies;
  pieces = (old_trees.tree_report J t).pieces;
  waste = waste_is J.kerf t J.plate i;
  trim = trim_is (laid J) J.kerf t J.plate i;
  sawdust = dust_is J.kerf t J.plate i;
}

-- the walk over one tree, without its sums
abbrev pub Same : Checked × ℕ → Answer TreeWalk → Type 0
Same w a = (w.0 ≡ verdict_of a) × ForOk a (λ t. w.1 ≡ t.past)

same_by : (v : Checked) (k : ℕ) (w : Checked × ℕ) (a : Answer TreeWalk) → Same w a → Same (by_check v w (λ x. (Err x, k))) (by_check v a Err)
same_by (Ok _) k w a h = h
same_by (Err x) k w a h = (refl, λ t e. cc)

ended : (k : ℕ) (s : Report) (t : TreeWalk) → tree_passed k s ≡ Ok t → k ≡ t.past
ended k s t e = let f : ◌≡◌ {A = TreeWalk} (record { report = s; past = k }) t = cc in ap (λ (t : TreeWalk). t.past) f

pub walk_same : (J : Job) (k : ℕ) (ns : List (ℕ × ℕ)) (rs : List Rect) (s : Report) → Same (tree_walk J k ns rs s.copies) (old.tree_walk J k ns rs s)
unfolding tree_walk old.tree_walk
walk_same J k [] [] s = (refl, ended k s)
walk_same J k (n ∷ ns) [] s = (refl, ended k s)
walk_same J k [] (r ∷ rs) s = (refl, λ t e. cc)
walk_same J k (n ∷ ns) (r ∷ rs) s = same_by (first_refusal (node_checks J s.copies r k n.0 n.1)) k _ _
    (walk_same J (k + 1) ns (parts J.kerf (node_of n.0 n.1) r ++ rs) (report_after J (node_of n.0 n.1) r s))

some_node : (t : Tree Piece) → 1 ≤ node_count t
unfolding node_count preorder
some_node waste = omega arith
some_node (piece (upright i)) = omega arith
some_node (piece (turned i)) = omega arith
some_node (cut d x a b) = omega arith

-- a limit's check of a tree passes exactly within it
limit_passes : (limit : Option ℕ) (t : Tree Piece) → WithinLimit limit t → first_refusal (stage_checks limit t) ≡ passed
unfolding first_refusal
limit_passes none t h = refl
limit_passes (some n) t h = within_passed t n (rw (stages_paths t) h)

passes_limit : (limit : Option ℕ) (t : Tree Piece) → first_refusal (stage_checks limit t) ≡ passed → WithinLimit limit t
passes_limit none t h = tt
passes_limit (some n) t h = rw⁻¹ (stages_paths t) (passed_within t n h)

left_passes : (n k : ℕ) → n ≤ k → first_refusal (left_check n k ∷ []) ≡ passed
unfolding first_refusal
left_passes n k h = simp (le-ltb k n h)

passes_left : (n k : ℕ) → first_refusal (left_check n k ∷ []) ≡ passed → n ≤ k
passes_left n k h = ltb-false k n (cons_passed (ltb k n) (NodeLeft k) [] h).0

module _ (J : Job) (kinds operands : List ℕ) where
  abbrev nodes : List (ℕ × ℕ)
  nodes = nodes_in kinds operands

  abbrev whole : Answer TreeWalk
  whole = old.tree_walk J 0 nodes (J.plate ∷ []) empty_report

  same : Same (walked J 0 nodes) whole
  same = walk_same J 0 nodes (J.plate ∷ []) empty_report

  -- 10 to 18 as the inner check answers them
  proceed_verdict : (v : Checked) (a : Answer Report) → verdict_of (proceed v a) ≡ next v (verdict_of a)
  proceed_verdict (Ok _) a = refl
  proceed_verdict (Err r) a = refl

  only_verdict : (v : Checked) (s : Report) → verdict_of (answer_by v s) ≡ v
  only_verdict (Ok _) s = refl
  only_verdict (Err r) s = refl

  left_is : (a : Answer TreeWalk) → whole ≡ a → verdict_of (only_tree (length kinds) a) ≡ next (walked J 0 nodes).0 (first_refusal (left_check (length kinds) (walked J 0 nodes).1 ∷ []))
  left_is (Ok t) e = only_verdict (first_refusal (left_check (length kinds) t.past ∷ [])) t.report
      ∙ sym (ap₂ (λ v k. next v (first_refusal (left_check (length kinds) k ∷ []))) (same.0 ∙ ap verdict_of e) (same.1 t e))
  left_is (Err r) e = sym (ap (λ v. next v (first_refusal (left_check (length kinds) (walked J 0 nodes).1 ∷ []))) (same.0 ∙ ap verdict_of e))

  pub walk_is : walk_verdict J kinds operands ≡ verdict_of (walk_answer J kinds operands)
  unfolding walk_answer
  walk_is = sym (proceed_verdict (first_refusal (plan_checks kinds operands)) (old.walk J 0 nodes (J.plate ∷ []) empty_report) ∙ go (first_refusal (plan_checks kinds operands)) refl)
    where
      go : (v : Checked) → first_refusal (plan_checks kinds operands) ≡ v → next v (verdict_of (old.walk J 0 nodes (J.plate ∷ []) empty_report)) ≡ next v (next (walked J 0 nodes).0 (first_refusal (left_check (length kinds) (walked J 0 nodes).1 ∷ [])))
      go (Ok _) e = ap verdict_of (walk_ends J 0 nodes (J.plate ∷ []) empty_report ∙ ap (λ n. only_tree n whole) (zero-add (length nodes) ∙ nodes_length kinds operands (whole_counts kinds operands e).0))
          ∙ left_is whole refl
      go (Err r) e = refl

  module _ (few : J.count ≤ 64) where
    -- arrays that pass them are drawn as a tree
    pub walk_drawn : walk_verdict J kinds operands ≡ passed → (t : Tree Piece) × DrawnAs J t kinds operands
    walk_drawn p =
        let v = passed_both (first_refusal (plan_checks kinds operands)) (next (walked J 0 nodes).0 (first_refusal (left_check (length kinds) (walked J 0 nodes).1 ∷ []))) p in
        let w = passed_both (walked J 0 nodes).0 (first_refusal (left_check (length kinds) (walked J 0 nodes).1 ∷ [])) v.1 in
        let g = whole_counts kinds operands v.0 in
        let t = value_of whole (sym same.0 ∙ w.0) in
        let d = tree_drawn J few 0 nodes t.1 in
        let n = nodes_length kinds operands g.0 in
        let past : (walked J 0 nodes).1 ≡ 0 + node_count d.tree = same.1 _ d.answer in
        let most = passes_left (length kinds) (walked J 0 nodes).1 w.1 in
        let all : nodes ≡ written d.tree = sym (take_all (node_count d.tree) nodes (omega (arith, n, past, most))) ∙ d.nodes in (
          d.tree,
          record {
            on_plate = d.on_plate;
            demands = d.keeps;
            nodes = omega (arith, d.inside, n, g.2);
            kinds_are = written_kinds kinds operands d.tree g.0 all;
            operands_are = written_operands kinds operands d.tree g.0 all;
          },
        )

    -- and the other way
    pub drawn_walk : (t : Tree Piece) → DrawnAs J t kinds operands → walk_verdict J kinds operands ≡ passed
    drawn_walk t d =
        let a = ap length d.kinds_are ∙ kinds_length t in
        let b = ap length d.operands_are ∙ operands_length t in
        let e : whole ≡ _ = ap (λ ns. old.tree_walk J 0 ns (J.plate ∷ []) empty_report) (nodes_are J kinds operands t d) ∙ drawn_tree J few 0 t d.on_plate d.demands [] in
        let past : (walked J 0 nodes).1 ≡ 0 + node_count t = same.1 _ e in
        ap₂ next (whole_passes kinds operands (a ∙ sym b) (omega (arith, a, some_node t)) (omega (arith, a, d.nodes)))
        (ap₂ next (same.0 ∙ ap verdict_of e) (left_passes (length kinds) (walked J 0 nodes).1 (omega (arith, past, a))))

    -- 26, and within a limit 23, decide for every tree
    judged : (limit : Option ℕ) (t : Tree Piece) → DrawnAs J t kinds operands → plan_verdict J limit kinds operands ≡ next (first_refusal (tree_checks 0 t)) (first_refusal (stage_checks limit t))
    judged limit t d = ap₂ (λ v u. next v (next (first_refusal (tree_checks 0 u)) (first_refusal (stage_checks limit u)))) (drawn_walk t d) (sym (drawn_is J kinds operands t d))

-- what the verdict means for trees, after the checks before it
pub checks_new : (before : Checked) (J : Job) → (before ≡ passed → J.count ≤ 64) → (limit : Option ℕ) (kinds operands : List ℕ) → Checks before J limit kinds operands
checks_new before J f limit kinds operands = record {
  passes = λ b t h u. after b (judged J kinds operands (f b) limit t h.drawn ∙ ap₂ next (free_passed t 0 h.idle_free) (limit_passes limit t u));
  before = λ p. (passed_both before own p).0;
  tree = λ p. (let h = behind p in (record { drawn = h.1; idle_free = passed_free plan_tree 0 h.2 }, passes_limit limit plan_tree h.3));
  only = λ t d. drawn_is J kinds operands t d;
  areas = λ p. (let h = behind p in ap (λ (a : Report). a.pieces + a.waste + a.trim + a.sawdust) (report_is J plan_tree) ∙ areas_sum J plan_tree J.plate.0 J.plate.1 h.1.on_plate);
  first = λ b t d. after b (judged J kinds operands (f b) limit t d);
  old_table = λ h. free h before refl;
}
  where
    plan_tree : Tree Piece
    plan_tree = tree_in kinds operands

    own : Checked
    own = plan_verdict J limit kinds operands

    after : {v : Checked} → before ≡ passed → own ≡ v → next before own ≡ v
    after b e = ap (λ w. next w own) b ∙ e

    behind : next before own ≡ passed → (before ≡ passed) × DrawnAs J plan_tree kinds operands × (first_refusal (tree_checks 0 plan_tree) ≡ passed) × (first_refusal (stage_checks limit plan_tree) ≡ passed)
    behind p =
        let b = passed_both before own p in
        let w = passed_both (walk_verdict J kinds operands) (next (first_refusal (tree_checks 0 plan_tree)) (first_refusal (stage_checks limit plan_tree))) b.1 in
        let c = passed_both (first_refusal (tree_checks 0 plan_tree)) (first_refusal (stage_checks limit plan_tree)) w.1 in
        let d = walk_drawn J kinds operands (f b.0) w.0 in
        (b.0, subst (λ u. DrawnAs J u kinds operands) (drawn_is J kinds operands d.0 d.1) d.1, c.0, c.1)

    free : ((t : Tree Piece) → DrawnAs J t kinds operands → IdleFree t) → (v : Checked) → before ≡ v → next before own ≡ next before (next (walk_verdict J kinds operands) (first_refusal (stage_checks limit plan_tree)))
    free h (Err x) e = ap (λ w. next w own) e ∙ sym (ap (λ w. next w (next (walk_verdict J kinds operands) (first_refusal (stage_checks limit plan_tree)))) e)
    free h (Ok _) e = ap (next before) (go (walk_verdict J kinds operands) refl)
      where
        go : (v : Checked) → walk_verdict J kinds operands ≡ v → next v (next (first_refusal (tree_checks 0 plan_tree)) (first_refusal (stage_checks limit plan_tree))) ≡ next v (first_refusal (stage_checks limit plan_tree))
        go (Err x) k = refl
        go (Ok _) k = (let d = walk_drawn J kinds operands (f e) k in
            let i = drawn_is J kinds operands d.0 d.1 in
            ap (λ w. next w (first_refusal (stage_checks limit plan_tree))) (free_passed plan_tree 0 (subst IdleFree i (h d.0 d.1))))

-- the verdict is the inner check's, without a limit and with one
module _ (J : Job) (few : J.count ≤ 64) (kinds operands : List ℕ) where
  idle_is : (v : Checked) → walk_verdict J kinds operands ≡ v → next v (first_refusal (tree_checks 0 (tree_in kinds operands))) ≡ next v (first_refusal (idle_checks 0 kinds))
  idle_is (Err x) e = refl
  idle_is (Ok _) e =
      let d = walk_drawn J kinds operands few e in
      ap first_refusal (ap (tree_checks 0) (sym (drawn_is J kinds operands d.0 d.1)) ∙ sym (ap (idle_checks 0) d.1.kinds_are ∙ idle_tree d.0 0))

  pub verdict_none : plan_verdict J none kinds operands ≡ verdict_of (plan_answer J kinds operands)
  unfolding first_refusal
  verdict_none = ap (next (walk_verdict J kinds operands)) (sym (next_passed (first_refusal (tree_checks 0 (tree_in kinds operands)))))
      ∙ (idle_is (walk_verdict J kinds operands) refl ∙ (ap (λ v. next v (first_refusal (idle_checks 0 kinds))) (walk_is J kinds operands) ∙ sym (verdict_is J kinds operands)))

  pub verdict_some : (n : ℕ) → plan_verdict J (some n) kinds operands ≡ next (verdict_of (plan_answer J kinds operands)) (first_refusal (path_checks n (tree_in kinds operands)))
  verdict_some n = sym (next_assoc (walk_verdict J kinds operands) (first_refusal (tree_checks 0 (tree_in kinds operands))) (first_refusal (path_checks n (tree_in kinds operands))))
      ∙ ap (λ v. next v (first_refusal (path_checks n (tree_in kinds operands))))
      (idle_is (walk_verdict J kinds operands) refl ∙ (ap (λ v. next v (first_refusal (idle_checks 0 kinds))) (walk_is J kinds operands) ∙ sym (verdict_is J kinds operands)))

  -- a passed plan's report is that of the tree that its arrays draw
  pub reported : {r : Report} → plan_answer J kinds operands ≡ Ok r → r ≡ tree_report J (tree_in kinds operands)
  reported {r} p =
      let t = (plans_checked J few kinds operands).tree r p in
      t.2.own ∙ (ap (old_trees.tree_report J) (drawn_is J kinds operands t.0 t.1.drawn) ∙ sym (report_is J (tree_in kinds operands)))

  -- so its answer is that tree's report where the verdict passes, and else the refusal
  pub plan_is : plan_answer J kinds operands ≡ answer_by (plan_verdict J none kinds operands) (tree_report J (tree_in kinds operands))
  plan_is = go (plan_answer J kinds operands) refl ∙ sym (ap (λ v. answer_by v (tree_report J (tree_in kinds operands))) verdict_none)
    where
      go : (a : Answer Report) → plan_answer J kinds operands ≡ a → plan_answer J kinds operands ≡ answer_by (verdict_of (plan_answer J kinds operands)) (tree_report J (tree_in kinds operands))
      go (Ok r) e = e ∙ ap Ok (reported e) ∙ sym (ap (λ a. answer_by (verdict_of a) (tree_report J (tree_in kinds operands))) e)
      go (Err x) e = e ∙ sym (ap (λ a. answer_by (verdict_of a) (tree_report J (tree_in kinds operands))) e)
