-- The plans of a rack pass exactly for trees, one a plate, whose nodes stand one after another: each a guillotine tree on its plate without
-- an idle cut, and all of them sharing the demands. The profits are the trees'.
use Rattle.rack.proofs.Prelude.{◌≡◌, ◌∙◌, refl, sym, ap, ap₂, subst, List, [], ◌∷◌, ◌++◌, map, map-map, ℕ, zero, suc, ◌+◌, ◌-◌, ◌≤◌, ◌<◌, arith, ltb, length, take, drop, get_or, set, length-set, length-drop, take-append-drop, drop_of_length-le, get_or-set_same, get_or-set_other, drop-drop, drop-append_seam, take-append_seam, ltb-false, le-ltb, sum, Rect, Tree, waste, IdleFree, Piece, preorder, node_count, kinds_of, Job, OnPlate, profit, copies_of, KeepsDemands, Check, first_refusal, RackDemand, pair_of, each_kind, cons_passed, passed_append, entries_in, idle_checks, tree_checks, idle_tree, passed_free, free_passed, TreeWalk, nodes_in, empty_report, left_check, tree_passed, proceed, tree_walk, tree_report, nodes_length, written, firsts, count_written, Drawn, tree_drawn, drawn_tree, plated, chained, walked_at, idle_at, own_answer, total_check, total_checks, with_own, and_then, value_answered, proceed_value, verdict_of, rack_walk, sum_first, Ok, passed, Answer}
use Rattle.rack.proofs.Totals.{with_own_length, with_own_in, totals_within}
use Rattle.rack.proofs.Own.{same_value, value_then, own_decides, own_passed}

-- a first thing and the others, of m
pub first_then : {m : ℕ} (P : ℕ → Type 0) → P 0 → ((d : ℕ) → d < m → P (suc d)) → (d : ℕ) → d < suc m → P d
first_then P a f zero h = a
first_then P a f (suc d) h = f d (omega arith)

-- a tree in front of others
abbrev pub front : Tree Piece → (ℕ → Tree Piece) → ℕ → Tree Piece
front t f zero = t
front t f (suc d) = f d

map_take : {A B : Type 0} (f : A → B) (n : ℕ) (xs : List A) → map f (take n xs) ≡ take n (map f xs)
map_take f zero xs = refl
map_take f (suc n) [] = refl
map_take f (suc n) (x ∷ xs) = ap (λ l. f x ∷ l) (map_take f n xs)

map_drop : {A B : Type 0} (f : A → B) (n : ℕ) (xs : List A) → map f (drop n xs) ≡ drop n (map f xs)
map_drop f zero xs = refl
map_drop f (suc n) [] = refl
map_drop f (suc n) (x ∷ xs) = map_drop f n xs

-- checks of the kinds that all pass
all_pass : (f : ℕ → List Check) (i n : ℕ) → ((j : ℕ) → i ≤ j → j < i + n → first_refusal (f j) ≡ passed) → first_refusal (each_kind f i n) ≡ passed
unfolding each_kind first_refusal
all_pass f i zero h = refl
all_pass f i (suc n) h = passed_append (f i) (each_kind f (suc i) n) (h i (omega arith) (omega arith)) (all_pass f (suc i) n (λ j l m. h j (omega arith) (omega arith)))

-- 29 passes for a kind whose total is within its demand
pub within : (demand total i : ℕ) → total ≤ demand → first_refusal ((ltb demand total, RackDemand i) ∷ []) ≡ passed
unfolding first_refusal
within demand total i h = simp (le-ltb demand total h)

module _ (J : Job) (few : J.count ≤ 64) (plate : ℕ → Rect) (kinds operands : List ℕ) (same : length kinds ≡ length operands) where
  abbrev nodes_of : List (ℕ × ℕ)
  nodes_of = nodes_in kinds operands

  -- the kinds at the front are a tree's where the nodes are
  front_kinds : (t : Tree Piece) (k : ℕ) → take (node_count t) (drop k nodes_of) ≡ written t → take (node_count t) (drop k kinds) ≡ kinds_of t
  unfolding kinds_of
  front_kinds t k e =
      ap (λ l. take (node_count t) (drop k l)) (sym (firsts kinds operands same)) ∙ ap (take (node_count t)) (sym (map_drop (λ p. p.0) k nodes_of))
      ∙ sym (map_take (λ p. p.0) (node_count t) (drop k nodes_of)) ∙ ap (map (λ p. p.0)) e ∙ map-map (λ p. p.0) (λ n. pair_of n) (preorder t)

  -- 26 over a tree's nodes is the tree's own
  idle_own : (t : Tree Piece) (k past : ℕ) → take (node_count t) (drop k nodes_of) ≡ written t → past ≡ k + node_count t → idle_at kinds k past ≡ tree_checks k t
  idle_own t k past e q =
      let z : past - k ≡ node_count t = omega (arith, q) in
      ap (λ n. idle_checks k (take n (drop k kinds))) z ∙ ap (idle_checks k) (front_kinds t k e) ∙ idle_tree t k

  -- the nodes of a tree that keeps every demand, whatever follows: 26 alone decides
  pub own_tree : (K : Job) (f : K.count ≤ 64) (t : Tree Piece) (k : ℕ) (more : List (ℕ × ℕ)) → OnPlate K t → KeepsDemands K t → drop k nodes_of ≡ written t ++ more
      → own_answer K kinds operands k ≡ proceed (first_refusal (tree_checks k t)) (tree_passed (k + node_count t) (tree_report K t))
  own_tree K f t k more on keeps nodes =
      let front : take (node_count t) (drop k nodes_of) ≡ written t = ap (take (node_count t)) nodes ∙ ap (λ n. take n (written t ++ more)) (sym (count_written t)) ∙ take-append_seam (written t) more in
      let walked : tree_passed (k + node_count t) (tree_report K t) ≡ walked_at K kinds operands k = sym (ap (λ l. tree_walk K k l (K.plate ∷ []) empty_report) nodes ∙ drawn_tree K f k t on keeps more) in
      own_decides K kinds operands k walked refl ∙ ap (λ cs. proceed (first_refusal cs) (tree_passed (k + node_count t) (tree_report K t))) (idle_own t k (k + node_count t) front refl)

  -- a plan that passes its own checks has no idle cut
  idle_free : (K : Job) (k : ℕ) {f : K.count ≤ 64} (t : Drawn K f k (drop k nodes_of)) (w : TreeWalk) → w.past ≡ k + node_count t.tree → first_refusal (idle_at kinds k w.past) ≡ passed → IdleFree t.tree
  idle_free K k t w e o = passed_free t.tree k (sym (ap first_refusal (idle_own t.tree k w.past t.nodes e)) ∙ o)

  -- m plans from plate i and node k on that pass, after the totals and profits of the plates before
  pub record Racked (i m k : ℕ) (totals profits given : List ℕ) : Type 0 where
    pub tree : ℕ → Tree Piece
    pub on : (d : ℕ) → d < m → OnPlate (plated J (plate (i + d))) (tree d)
    pub free : (d : ℕ) → d < m → IdleFree (tree d)
    pub shares : (j : ℕ) → j < J.count → get_or totals j 0 + sum m (λ d. copies_of j (tree d)) ≤ J.demand j
    pub nodes : drop k nodes_of ≡ chained m (λ d. written (tree d))
    pub paid : (d : ℕ) → d < m → get_or given (i + d) 0 ≡ profit J (tree d)
    pub kept : (p : ℕ) → p < i → get_or given p 0 ≡ get_or profits p 0

  abbrev walk : ℕ → ℕ → ℕ → List ℕ → List ℕ → Answer (List ℕ)
  walk i m k totals profits = rack_walk J plate kinds operands i m k totals profits

  pub racked : (m i k : ℕ) (totals profits : List ℕ) {given : List ℕ} → length totals ≡ 64 → length profits ≡ 16 → i + m ≤ 16 → ((j : ℕ) → j < J.count → get_or totals j 0 ≤ J.demand j)
      → walk i m k totals profits ≡ Ok given → Racked i m k totals profits given
  unfolding rack_walk sum chained
  racked zero i k totals profits tl pl r within p =
      let v = value_answered (first_refusal (left_check (length kinds) k ∷ [])) profits p in
      let l = ltb-false k (length kinds) (cons_passed _ _ _ v.0).0 in
      let n = nodes_length kinds operands same in
      record {
        tree = λ d. waste;
        on = λ d h. absurd (omega arith);
        free = λ d h. absurd (omega arith);
        shares = λ j h. omega (arith, within j h);
        nodes = drop_of_length-le nodes_of {i = k} (omega (arith, l, n));
        paid = λ d h. absurd (omega arith);
        kept = λ q h. ap (λ l. get_or l q 0) v.1;
      }
  racked (suc m) i k totals profits {given} tl pl r within p =
      let K = plated J (plate i) in
      let w = value_then (own_answer K kinds operands k) (λ t. proceed (first_refusal (total_checks J i totals t.report.copies)) (walk (i + 1) m t.past (with_own totals t.report.copies J.count) (set profits i t.report.profit))) p in
      let a = w.0 in
      let v = proceed_value (first_refusal (total_checks J i totals a.report.copies)) (walk (i + 1) m a.past (with_own totals a.report.copies J.count) (set profits i a.report.profit)) w.2 in
      let o = own_passed K kinds operands k w.1 in
      let t = tree_drawn K few k (drop k nodes_of) o.0 in
      let e : a ≡ record { report = tree_report K t.tree; past = k + node_count t.tree } = same_value (sym o.0 ∙ t.answer) in
      let own : (j : ℕ) → j < J.count → get_or a.report.copies j 0 ≡ copies_of j t.tree = λ j l. ap (λ (a : TreeWalk). get_or a.report.copies j 0) e ∙ entries_in (λ j. copies_of j t.tree) J.count j few l in
      let totals' = with_own totals a.report.copies J.count in
      let sums : (j : ℕ) → j < J.count → get_or totals' j 0 ≡ get_or totals j 0 + copies_of j t.tree = λ j l. with_own_in totals a.report.copies J.count j l (omega (arith, tl, few)) ∙ ap (λ n. get_or totals j 0 + n) (own j l) in
      let u = racked m (i + 1) a.past totals' (set profits i a.report.profit) (with_own_length totals a.report.copies J.count ∙ tl) (length-set profits i a.report.profit ∙ pl) (omega (arith, r))
      (λ j l. (let w = totals_within J.count J.demand i totals a.report.copies v.0 j l in omega (arith, w, sums j l, own j l))) v.1 in
      record {
        tree = front t.tree u.tree;
        on = first_then (λ d. OnPlate (plated J (plate (i + d))) (front t.tree u.tree d)) (let z : i ≡ i + 0 = omega arith in subst (λ q. OnPlate (plated J (plate q)) t.tree) z t.on_plate)
            (λ d l. (let z : i + 1 + d ≡ i + suc d = omega arith in subst (λ q. OnPlate (plated J (plate q)) (u.tree d)) z (u.on d l)));
        free = first_then (λ d. IdleFree (front t.tree u.tree d)) (idle_free K k t a (ap (λ (a : TreeWalk). a.past) e) o.1) u.free;
        shares = λ j l. (let f = sum_first m (λ d. copies_of j (front t.tree u.tree d)) in let g = u.shares j l in omega (arith, f, g, sums j l));
        nodes = sym (take-append-drop (node_count t.tree) (drop k nodes_of)) ∙ ap₂ (λ x y. x ++ y) t.nodes (drop-drop (node_count t.tree) k nodes_of ∙ ap (λ q. drop q nodes_of) (sym (ap (λ (a : TreeWalk). a.past) e)) ∙ u.nodes);
        paid = first_then (λ d. get_or given (i + d) 0 ≡ profit J (front t.tree u.tree d))
            (let z : i + 0 ≡ i = omega arith in ap (λ q. get_or given q 0) z ∙ u.kept i (omega arith) ∙ get_or-set_same profits i a.report.profit 0 (omega (arith, pl, r)) ∙ ap (λ (a : TreeWalk). a.report.profit) e)
            (λ d l. (let z : i + suc d ≡ i + 1 + d = omega arith in ap (λ q. get_or given q 0) z ∙ u.paid d l));
        kept = λ q h. u.kept q (omega arith) ∙ get_or-set_other profits i q a.report.profit 0 (λ z. omega arith);
      }

  -- and the other way
  pub passing : (m i k : ℕ) (totals profits : List ℕ) (tree : ℕ → Tree Piece) → length totals ≡ 64 → ((d : ℕ) → d < m → OnPlate (plated J (plate (i + d))) (tree d)) → ((d : ℕ) → d < m → IdleFree (tree d))
      → ((j : ℕ) → j < J.count → get_or totals j 0 + sum m (λ d. copies_of j (tree d)) ≤ J.demand j) → drop k nodes_of ≡ chained m (λ d. written (tree d)) → verdict_of (walk i m k totals profits) ≡ passed
  unfolding rack_walk chained first_refusal
  passing zero i k totals profits tree tl on free shares nodes =
      let n = nodes_length kinds operands same in
      let d : length (drop k nodes_of) ≡ length nodes_of - k = length-drop k nodes_of in
      let z : length (drop k nodes_of) ≡ 0 = ap length nodes in
      simp (le-ltb k (length kinds) (omega (arith, n, d, z)))
  passing (suc m) i k totals profits tree tl on free shares nodes =
      let K = plated J (plate i) in
      let t = tree 0 in
      let more = chained m (λ d. written (tree (suc d))) in
      let a : TreeWalk = record { report = tree_report K t; past = k + node_count t } in
      let start : i + 0 ≡ i = omega arith in
      let first = sum_first m in
      let keeps : KeepsDemands K t = λ j l. (let f = first (λ d. copies_of j (tree d)) in let g = shares j l in omega (arith, f, g)) in
      let own : own_answer K kinds operands k ≡ Ok a = own_tree K few t k more (subst (λ q. OnPlate (plated J (plate q)) t) start (on 0 (omega arith))) keeps nodes
      ∙ ap (λ v. proceed v (Ok a)) (free_passed t k (free 0 (omega arith))) in
      let copies : (j : ℕ) → j < J.count → get_or a.report.copies j 0 ≡ copies_of j t = λ j l. entries_in (λ j. copies_of j t) J.count j few l in
      let total : first_refusal (total_checks J i totals a.report.copies) ≡ passed = all_pass (total_check J.demand i totals a.report.copies) 0 J.count
      (λ j z l. (let f = first (λ d. copies_of j (tree d)) in let h : j < J.count = omega arith in let g = shares j h in within (J.demand j) (get_or totals j 0 + get_or a.report.copies j 0) i (omega (arith, f, g, copies j h)))) in
      let after : drop (k + node_count t) nodes_of ≡ more = sym (drop-drop (node_count t) k nodes_of) ∙ ap (drop (node_count t)) nodes ∙ ap (λ n. drop n (written t ++ more)) (sym (count_written t)) ∙ drop-append_seam (written t) more in
      let rest = passing m (i + 1) (k + node_count t) (with_own totals a.report.copies J.count) (set profits i a.report.profit) (λ d. tree (suc d)) (with_own_length totals a.report.copies J.count ∙ tl)
      (λ d l. (let z : i + suc d ≡ i + 1 + d = omega arith in subst (λ q. OnPlate (plated J (plate q)) (tree (suc d))) z (on (suc d) (omega arith)))) (λ d l. free (suc d) (omega arith))
      (λ j l. (let f = first (λ d. copies_of j (tree d)) in let g = shares j l in let w = with_own_in totals a.report.copies J.count j l (omega (arith, tl, few)) in omega (arith, f, g, w, copies j l))) after in
      ap (λ a. verdict_of (and_then a (λ t. proceed (first_refusal (total_checks J i totals t.report.copies)) (walk (i + 1) m t.past (with_own totals t.report.copies J.count) (set profits i t.report.profit))))) own
      ∙ ap (λ v. verdict_of (proceed v (walk (i + 1) m a.past (with_own totals a.report.copies J.count) (set profits i a.report.profit)))) total ∙ rest
