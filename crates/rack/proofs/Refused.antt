-- The plans of a rack are refused with 26 or 29 exactly where trees, one a plate and the first of them passing, have the idle cut or pass the
-- demand: from the verdict to the trees and the other way.
use Rattle.rack.proofs.Prelude.{◌≡◌, ◌∙◌, refl, sym, ap, subst, ◌⊎◌, inl, inr, ⊎_elim, List, [], ◌∷◌, ◌++◌, append_assoc, ℕ, zero, suc, ◌+◌, ◌≤◌, ◌<◌, dec_le, arith, length, drop, get_or, set, take-append-drop, drop-drop, drop-append_seam, lt-ltb, sum, Rect, Tree, IdleFree, Piece, node_count, Job, OnPlate, copies_of, KeepsDemands, Check, number_of, next, first_refusal, Refusal, RackDemand, each_kind, first_append, entries_in, tree_checks, passed_free, free_passed, TreeWalk, nodes_in, empty_report, left_check, tree_report, written, count_written, no_pass, tree_drawn, plated, chained, walked_at, own_answer, total_check, total_checks, with_own, and_then, proceed, verdict_of, rack_walk, sum_first, Ok, Err, passed, Checked, Answer}
use Rattle.rack.proofs.Totals.{with_own_length, with_own_in, totals_within}
use Rattle.rack.proofs.Own.{own_stops}
use Rattle.rack.proofs.Numbers.{Neither, same_refusal, left_gives, walk_gives}
use Rattle.rack.proofs.Trees.{first_then, front, within, own_tree}

-- a refusal of the plans of a rack that this file is about
abbrev pub Either : Refusal → Type 0
Either x = (number_of x ≡ 26) ⊎ (number_of x ≡ 29)

-- the verdict of a check, and else of what follows it
pub by_refused : (v : Checked) (a : Answer (List ℕ)) {x : Refusal} → verdict_of (proceed v a) ≡ Err x → (v ≡ Err x) ⊎ ((v ≡ passed) × (verdict_of a ≡ Err x))
by_refused (Ok _) a p = inr (refl, p)
by_refused (Err r) a p = inl p

-- 29 passes, or some kind's total passes its demand
decide : (demand : ℕ → ℕ) (p : ℕ) (totals own : List ℕ) (i n : ℕ) → (first_refusal (each_kind (total_check demand p totals own) i n) ≡ passed)
    ⊎ ((j : ℕ) × (j < i + n) × (demand j < get_or totals j 0 + get_or own j 0) × (first_refusal (each_kind (total_check demand p totals own) i n) ≡ Err (RackDemand p)))
unfolding each_kind first_refusal
decide demand p totals own i zero = inl refl
decide demand p totals own i (suc n) = go (dec_le (get_or totals i 0 + get_or own i 0) (demand i)) (decide demand p totals own (suc i) n)
  where
    f : ℕ → List Check
    f = total_check demand p totals own

    go : Dec (get_or totals i 0 + get_or own i 0 ≤ demand i)
        → (first_refusal (each_kind f (suc i) n) ≡ passed) ⊎ ((j : ℕ) × (j < suc i + n) × (demand j < get_or totals j 0 + get_or own j 0) × (first_refusal (each_kind f (suc i) n) ≡ Err (RackDemand p)))
        → (first_refusal (f i ++ each_kind f (suc i) n) ≡ passed) ⊎ ((j : ℕ) × (j < i + suc n) × (demand j < get_or totals j 0 + get_or own j 0) × (first_refusal (f i ++ each_kind f (suc i) n) ≡ Err (RackDemand p)))
    go (no h) r = inr (i, omega arith, omega (arith, h), simp (lt-ltb (demand i) (get_or totals i 0 + get_or own i 0) (omega (arith, h))))
    go (yes h) (inl e) = inl (first_append (f i) (each_kind f (suc i) n) ∙ ap (λ v. next v (first_refusal (each_kind f (suc i) n))) (within (demand i) (get_or totals i 0 + get_or own i 0) p h) ∙ e)
    go (yes h) (inr u) = inr (u.0, omega (arith, u.1), u.2, first_append (f i) (each_kind f (suc i) n) ∙ ap (λ v. next v (first_refusal (each_kind f (suc i) n))) (within (demand i) (get_or totals i 0 + get_or own i 0) p h) ∙ u.3)

module _ (J : Job) (few : J.count ≤ 64) (plate : ℕ → Rect) (kinds operands : List ℕ) (same : length kinds ≡ length operands) where
  abbrev nodes_of : List (ℕ × ℕ)
  nodes_of = nodes_in kinds operands

  -- the rest of m + 1 plans from plate i on, by what 29 says of the first
  abbrev rest_of : ℕ → ℕ → List ℕ → List ℕ → Checked → TreeWalk → Answer (List ℕ)
  rest_of i m totals profits v t = proceed v (rack_walk J plate kinds operands (i + 1) m t.past (with_own totals t.report.copies J.count) (set profits i t.report.profit))

  -- the verdict of m + 1 plans from plate i on, by what the first answers
  abbrev after : ℕ → ℕ → List ℕ → List ℕ → Answer TreeWalk → Checked
  after i m totals profits a = verdict_of (and_then a (λ t. rest_of i m totals profits (first_refusal (total_checks J i totals t.report.copies)) t))

  -- what a tree's own checks answer, by 26
  abbrev walk_of : ℕ → ℕ → Tree Piece → TreeWalk
  walk_of i k t = record { report = tree_report (plated J (plate i)) t; past = k + node_count t }

  abbrev by_idle : ℕ → ℕ → Tree Piece → Checked → Answer TreeWalk
  by_idle i k t v = proceed v (Ok (walk_of i k t))

  -- the totals with a tree's copies
  abbrev totals_after : ℕ → List ℕ → Tree Piece → List ℕ
  totals_after i totals t = with_own totals (tree_report (plated J (plate i)) t).copies J.count

  module _ (i : ℕ) (totals : List ℕ) (t : Tree Piece) where
    own : (j : ℕ) → j < J.count → get_or (tree_report (plated J (plate i)) t).copies j 0 ≡ copies_of j t
    own j l = entries_in (λ j. copies_of j t) J.count j few l

    sums : length totals ≡ 64 → (j : ℕ) → j < J.count → get_or (totals_after i totals t) j 0 ≡ get_or totals j 0 + copies_of j t
    sums tl j l = with_own_in totals (tree_report (plated J (plate i)) t).copies J.count j l (omega (arith, tl, few)) ∙ ap (λ n. get_or totals j 0 + n) (own j l)

    -- 29 of a tree
    abbrev total : Checked
    total = first_refusal (total_checks J i totals (tree_report (plated J (plate i)) t).copies)

    decided : ((total ≡ passed) × ((j : ℕ) → j < J.count → get_or totals j 0 + copies_of j t ≤ J.demand j))
        ⊎ ((j : ℕ) × (j < J.count) × (J.demand j < get_or totals j 0 + copies_of j t) × (total ≡ Err (RackDemand i)))
    decided = go (decide J.demand i totals (tree_report (plated J (plate i)) t).copies 0 J.count)
      where
        go : (total ≡ passed) ⊎ ((j : ℕ) × (j < 0 + J.count) × (J.demand j < get_or totals j 0 + get_or (tree_report (plated J (plate i)) t).copies j 0) × (total ≡ Err (RackDemand i)))
            → ((total ≡ passed) × ((j : ℕ) → j < J.count → get_or totals j 0 + copies_of j t ≤ J.demand j)) ⊎ ((j : ℕ) × (j < J.count) × (J.demand j < get_or totals j 0 + copies_of j t) × (total ≡ Err (RackDemand i)))
        go (inl e) = inl (e, λ j l. (let w = totals_within J.count J.demand i totals (tree_report (plated J (plate i)) t).copies e j l in omega (arith, w, own j l)))
        go (inr u) = let l : u.0 < J.count = omega (arith, u.1) in inr (u.0, l, omega (arith, u.2, own u.0 l), u.3)

  -- what is met at a tree after some that pass: its first idle cut, or none and a total that passes its demand
  abbrev pub Met : ℕ → ℕ → List ℕ → (ℕ → Tree Piece) → ℕ → Refusal → Type 0
  Met i k totals tree at x = (first_refusal (tree_checks (k + sum at (λ d. node_count (tree d))) (tree at)) ≡ Err x)
      ⊎ (IdleFree (tree at) × (x ≡ RackDemand (i + at)) × ((j : ℕ) × (j < J.count) × (J.demand j < get_or totals j 0 + sum (suc at) (λ d. copies_of j (tree d)))))

  -- m plans from plate i and node k on, after the totals of the plates before, that are refused with x at a tree
  pub record Stopped (i m k : ℕ) (totals : List ℕ) (x : Refusal) : Type 0 where
    pub at : ℕ
    pub inside : at < m
    pub tree : ℕ → Tree Piece
    pub on : (d : ℕ) → d < suc at → OnPlate (plated J (plate (i + d))) (tree d)
    pub keeps : (d : ℕ) → d < suc at → KeepsDemands J (tree d)
    pub free : (d : ℕ) → d < at → IdleFree (tree d)
    pub shares : (j : ℕ) → j < J.count → get_or totals j 0 + sum at (λ d. copies_of j (tree d)) ≤ J.demand j
    pub more : List (ℕ × ℕ)
    pub nodes : drop k nodes_of ≡ chained (suc at) (λ d. written (tree d)) ++ more
    pub met : Met i k totals tree at x

  -- a tree at node k, and what follows it
  pub record At (i k : ℕ) : Type 0 where
    pub tree : Tree Piece
    pub on : OnPlate (plated J (plate i)) tree
    pub keeps : KeepsDemands J tree
    pub nodes : drop k nodes_of ≡ written tree ++ drop (k + node_count tree) nodes_of

  -- a plan's walk is refused with neither 26 nor 29, or reads a tree
  walked : (i k : ℕ) → ((y : Refusal) × (own_answer (plated J (plate i)) kinds operands k ≡ Err y) × Neither y) ⊎ At i k
  walked i k = go (walked_at K kinds operands k) refl
    where
      K : Job
      K = plated J (plate i)

      go : (a : Answer TreeWalk) → walked_at K kinds operands k ≡ a → ((y : Refusal) × (own_answer K kinds operands k ≡ Err y) × Neither y) ⊎ At i k
      go (Ok w) e =
          let t = tree_drawn K few k (drop k nodes_of) e in
          inr (record {
            tree = t.tree;
            on = t.on_plate;
            keeps = t.keeps;
            nodes = sym (take-append-drop (node_count t.tree) (drop k nodes_of)) ∙ (ap (λ l. l ++ drop (node_count t.tree) (drop k nodes_of)) t.nodes ∙ ap (λ l. written t.tree ++ l) (drop-drop (node_count t.tree) k nodes_of));
          })
      go (Err y) e = inl (y, own_stops K kinds operands k refl e, walk_gives K k (drop k nodes_of) (K.plate ∷ []) empty_report y (ap verdict_of e))

  -- the first tree is the one
  here : (i m k : ℕ) (totals : List ℕ) (x : Refusal) (t : At i k) → ((j : ℕ) → j < J.count → get_or totals j 0 ≤ J.demand j) → Met i k totals (λ d. t.tree) 0 x → Stopped i (suc m) k totals x
  unfolding sum chained
  here i m k totals x t low met = record {
    at = 0;
    inside = omega arith;
    tree = λ d. t.tree;
    on = λ d l. (let z : i ≡ i + d = omega arith in subst (λ q. OnPlate (plated J (plate q)) t.tree) z t.on);
    keeps = λ d l. t.keeps;
    free = λ d l. absurd (omega arith);
    shares = λ j l. omega (arith, low j l);
    more = drop (k + node_count t.tree) nodes_of;
    nodes = t.nodes ∙ sym (append_assoc (written t.tree) [] (drop (k + node_count t.tree) nodes_of));
    met = met;
  }

  -- a tree in front of those
  there : (i m k : ℕ) (totals : List ℕ) (x : Refusal) → length totals ≡ 64 → (t : At i k) → IdleFree t.tree → Stopped (i + 1) m (k + node_count t.tree) (totals_after i totals t.tree) x → Stopped i (suc m) k totals x
  unfolding sum chained
  there i m k totals x tl t free u = record {
    at = suc u.at;
    inside = omega (arith, u.inside);
    tree = all;
    on = first_then (λ d. OnPlate (plated J (plate (i + d))) (all d)) (let z : i ≡ i + 0 = omega arith in subst (λ q. OnPlate (plated J (plate q)) t.tree) z t.on)
        (λ d l. (let z : i + 1 + d ≡ i + suc d = omega arith in subst (λ q. OnPlate (plated J (plate q)) (u.tree d)) z (u.on d l)));
    keeps = first_then (λ d. KeepsDemands J (all d)) t.keeps u.keeps;
    free = first_then (λ d. IdleFree (all d)) free u.free;
    shares = λ j l. (let f = sum_first u.at (λ d. copies_of j (all d)) in omega (arith, f, u.shares j l, sums i totals t.tree tl j l));
    more = u.more;
    nodes = t.nodes ∙ ap (λ l. written t.tree ++ l) u.nodes ∙ sym (append_assoc (written t.tree) (chained (suc u.at) (λ d. written (u.tree d))) u.more);
    met = ⊎_elim
        (λ e. inl (ap (λ n. first_refusal (tree_checks n (u.tree u.at))) start ∙ e))
        (λ e. inr (e.0, e.1 ∙ ap RackDemand plates, (e.2.0, e.2.1, (let f = sum_first (suc u.at) (λ d. copies_of e.2.0 (all d)) in omega (arith, f, e.2.2, sums i totals t.tree tl e.2.0 e.2.1))))) u.met;
  }
    where
      all : ℕ → Tree Piece
      all = front t.tree u.tree

      plates : i + 1 + u.at ≡ i + suc u.at
      plates = omega arith

      start : k + sum (suc u.at) (λ d. node_count (all d)) ≡ k + node_count t.tree + sum u.at (λ d. node_count (u.tree d))
      start = let f = sum_first u.at (λ d. node_count (all d)) in omega (arith, f)

  -- from the verdict to the trees: one plan, and the rest by what is known of fewer
  one : (m i k : ℕ) (totals profits : List ℕ) (x : Refusal) → length totals ≡ 64 → ((j : ℕ) → j < J.count → get_or totals j 0 ≤ J.demand j) → Either x
      → after i m totals profits (own_answer (plated J (plate i)) kinds operands k) ≡ Err x
      → ((k' : ℕ) (totals' profits' : List ℕ) → length totals' ≡ 64 → ((j : ℕ) → j < J.count → get_or totals' j 0 ≤ J.demand j) → verdict_of (rack_walk J plate kinds operands (i + 1) m k' totals' profits') ≡ Err x → Stopped (i + 1) m k' totals' x)
      → Stopped i (suc m) k totals x
  unfolding sum
  one m i k totals profits x tl low kind p rest = first (walked i k)
    where
      K : Job
      K = plated J (plate i)

      first : ((y : Refusal) × (own_answer K kinds operands k ≡ Err y) × Neither y) ⊎ At i k → Stopped i (suc m) k totals x
      first (inl u) =
          let e : Err u.0 ≡ Err x = sym (ap (after i m totals profits) u.1) ∙ p in
          let n : Neither x = subst Neither (same_refusal e) u.2 in
          absurd (⊎_elim n.0 n.1 kind)
      first (inr t) = idle (first_refusal (tree_checks k t.tree)) refl
        where
          told : after i m totals profits (by_idle i k t.tree (first_refusal (tree_checks k t.tree))) ≡ Err x
          told = sym (ap (after i m totals profits) (own_tree J few plate kinds operands same K few t.tree k (drop (k + node_count t.tree) nodes_of) t.on t.keeps t.nodes)) ∙ p

          idle : (v : Checked) → first_refusal (tree_checks k t.tree) ≡ v → Stopped i (suc m) k totals x
          idle (Err y) e =
              let z : k + 0 ≡ k = omega arith in
              here i m k totals x t low (inl (ap (λ n. first_refusal (tree_checks n t.tree)) z ∙ (e ∙ (sym (ap (λ v. after i m totals profits (by_idle i k t.tree v)) e) ∙ told))))
          idle (Ok _) e = by_total (decided i totals t.tree)
            where
              passes : verdict_of (rest_of i m totals profits (total i totals t.tree) (walk_of i k t.tree)) ≡ Err x
              passes = sym (ap (λ v. after i m totals profits (by_idle i k t.tree v)) e) ∙ told

              by_total : ((total i totals t.tree ≡ passed) × ((j : ℕ) → j < J.count → get_or totals j 0 + copies_of j t.tree ≤ J.demand j))
                  ⊎ ((j : ℕ) × (j < J.count) × (J.demand j < get_or totals j 0 + copies_of j t.tree) × (total i totals t.tree ≡ Err (RackDemand i)))
                  → Stopped i (suc m) k totals x
              by_total (inl u) = there i m k totals x tl t (passed_free t.tree k e)
                  (rest (k + node_count t.tree) (totals_after i totals t.tree) (set profits i (tree_report K t.tree).profit) (with_own_length totals (tree_report K t.tree).copies J.count ∙ tl)
                  (λ j l. omega (arith, sums i totals t.tree tl j l, u.1 j l))
                  (sym (ap (λ v. verdict_of (rest_of i m totals profits v (walk_of i k t.tree))) u.0) ∙ passes))
              by_total (inr u) =
                  let y : Err (RackDemand i) ≡ Err x = sym (ap (λ v. verdict_of (rest_of i m totals profits v (walk_of i k t.tree))) u.3) ∙ passes in
                  let z : i ≡ i + 0 = omega arith in
                  here i m k totals x t low (inr (passed_free t.tree k e, sym (same_refusal y) ∙ ap RackDemand z, (u.0, u.1, omega (arith, u.2))))

  pub stopped : (m i k : ℕ) (totals profits : List ℕ) (x : Refusal) → length totals ≡ 64 → ((j : ℕ) → j < J.count → get_or totals j 0 ≤ J.demand j) → Either x
      → verdict_of (rack_walk J plate kinds operands i m k totals profits) ≡ Err x → Stopped i m k totals x
  unfolding rack_walk
  stopped zero i k totals profits x tl low kind p = ⊎_elim (λ e. (let n = left_gives (length kinds) k x e in absurd (⊎_elim n.0 n.1 kind))) (λ e. no_pass (sym e.1)) (by_refused (first_refusal (left_check (length kinds) k ∷ [])) (Ok profits) p)
  stopped (suc m) i k totals profits x tl low kind p = one m i k totals profits x tl low kind p (λ k' totals' profits' tl' low' q. stopped m (i + 1) k' totals' profits' x tl' low' kind q)

  -- and the other way
  pub stops : (at m i k : ℕ) (totals profits : List ℕ) (tree : ℕ → Tree Piece) (more : List (ℕ × ℕ)) (x : Refusal) → at < m → length totals ≡ 64 → ((d : ℕ) → d < suc at → OnPlate (plated J (plate (i + d))) (tree d)) → ((d : ℕ) → d < suc at → KeepsDemands J (tree d))
      → ((d : ℕ) → d < at → IdleFree (tree d)) → ((j : ℕ) → j < J.count → get_or totals j 0 + sum at (λ d. copies_of j (tree d)) ≤ J.demand j) → drop k nodes_of ≡ chained (suc at) (λ d. written (tree d)) ++ more
      → Met i k totals tree at x → verdict_of (rack_walk J plate kinds operands i m k totals profits) ≡ Err x
  unfolding rack_walk sum chained
  stops at zero i k totals profits tree more x h tl on keeps free shares nodes met = absurd (omega arith)
  stops zero (suc m) i k totals profits tree more x h tl on keeps free shares nodes met =
      let t = tree 0 in
      let z : i + 0 ≡ i = omega arith in
      let told = ap (after i m totals profits) (own_tree J few plate kinds operands same (plated J (plate i)) few t k ([] ++ more) (subst (λ q. OnPlate (plated J (plate q)) t) z (on 0 (omega arith))) (keeps 0 (omega arith)) (nodes ∙ append_assoc (written t) [] more)) in
      told ∙ ⊎_elim
      (λ e. (let y : k ≡ k + 0 = omega arith in ap (λ v. after i m totals profits (by_idle i k t v)) (ap (λ n. first_refusal (tree_checks n t)) y ∙ e)))
      (λ e. ap (λ v. after i m totals profits (by_idle i k t v)) (free_passed t k e.0) ∙ ⊎_elim
      (λ u. (let l = u.1 e.2.0 e.2.1 in absurd (omega (arith, l, e.2.2))))
      (λ u. ap (λ v. verdict_of (rest_of i m totals profits v (walk_of i k t))) u.3 ∙ ap Err (ap RackDemand (sym z) ∙ sym e.1))
      (decided i totals t)) met
  stops (suc at) (suc m) i k totals profits tree more x h tl on keeps free shares nodes met =
      let t = tree 0 in
      let z : i + 0 ≡ i = omega arith in
      let later = chained (suc at) (λ d. written (tree (suc d))) ++ more in
      let here : drop k nodes_of ≡ written t ++ later = nodes ∙ append_assoc (written t) (chained (suc at) (λ d. written (tree (suc d)))) more in
      let after_nodes : drop (k + node_count t) nodes_of ≡ later = sym (drop-drop (node_count t) k nodes_of) ∙ ap (drop (node_count t)) here ∙ ap (λ n. drop n (written t ++ later)) (sym (count_written t)) ∙ drop-append_seam (written t) later in
      let told = ap (after i m totals profits) (own_tree J few plate kinds operands same (plated J (plate i)) few t k later (subst (λ q. OnPlate (plated J (plate q)) t) z (on 0 (omega arith))) (keeps 0 (omega arith)) here) in
      let start : k + sum (suc at) (λ d. node_count (tree d)) ≡ k + node_count t + sum at (λ d. node_count (tree (suc d))) = (let f = sum_first at (λ d. node_count (tree d)) in omega (arith, f)) in
      let plates : i + suc at ≡ i + 1 + at = omega arith in
      let rest = stops at m (i + 1) (k + node_count t) (totals_after i totals t) (set profits i (tree_report (plated J (plate i)) t).profit) (λ d. tree (suc d)) more x (omega arith) (with_own_length totals (tree_report (plated J (plate i)) t).copies J.count ∙ tl)
      (λ d l. (let y : i + suc d ≡ i + 1 + d = omega arith in subst (λ q. OnPlate (plated J (plate q)) (tree (suc d))) y (on (suc d) (omega arith)))) (λ d l. keeps (suc d) (omega arith)) (λ d l. free (suc d) (omega arith))
      (λ j l. (let f = sum_first at (λ d. copies_of j (tree d)) in omega (arith, f, shares j l, sums i totals t tl j l))) after_nodes
      (⊎_elim (λ e. inl (ap (λ n. first_refusal (tree_checks n (tree (suc at)))) (sym start) ∙ e))
      (λ e. inr (e.0, e.1 ∙ ap RackDemand plates, (e.2.0, e.2.1, (let f = sum_first (suc at) (λ d. copies_of e.2.0 (tree d)) in omega (arith, f, e.2.2, sums i totals t tl e.2.0 e.2.1))))) met) in
      told ∙ ap (λ v. after i m totals profits (by_idle i k t v)) (free_passed t k (free 0 (omega arith)))
      ∙ ⊎_elim (λ u. ap (λ v. verdict_of (rest_of i m totals profits v (walk_of i k t))) u.0 ∙ rest)
      (λ u. (let f = sum_first at (λ d. copies_of u.0 (tree d)) in let s = shares u.0 u.1 in absurd (omega (arith, f, s, u.2)))) (decided i totals t)
