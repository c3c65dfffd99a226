-- A walk over one tree and the walk over a plan: the plan's only tree, nodes past a tree's end, and the nodes of a tree that ends.
use Rattle.plan.proofs.Prelude.{◌≡◌, ◌∙◌, refl, sym, ap, ap₂, List, [], ◌∷◌, ◌++◌, ℕ, suc, ◌+◌, ◌≤◌, zero-add, arith, length, take, lt-ltb, le-ltb, Rect, Job, first_refusal, Refusal, Report, TreeWalk, node_of, node_checks, parts, report_after, proceed, tree_passed, tree_walk, left_check, only_tree, walk, nodes_in, answer_by, verdict_of, empty_report, Ok, Err, Checked, Answer}
use Rattle.plan.proofs.Walk.{nodes_length}
use Rattle.plan.proofs.Parse.{no_pass, proceed_value}

-- what a check passes on is as it was
only_after : (n : ℕ) (v : Checked) (a : Answer TreeWalk) → only_tree n (proceed v a) ≡ proceed v (only_tree n a)
only_after n (Ok _) a = refl
only_after n (Err r) a = refl

-- the plan's walk is that over its only tree, and then 18
pub walk_ends : (J : Job) (k : ℕ) (ns : List (ℕ × ℕ)) (rs : List Rect) (s : Report) → walk J k ns rs s ≡ only_tree (k + length ns) (tree_walk J k ns rs s)
unfolding walk tree_walk first_refusal
walk_ends J k [] [] s = simp (le-ltb k (k + 0) (omega arith))
walk_ends J k (n ∷ ns) [] s = simp (lt-ltb k (k + suc (length ns)) (omega arith))
walk_ends J k [] (r ∷ rs) s = refl
walk_ends J k (n ∷ ns) (r ∷ rs) s =
    let v = first_refusal (node_checks J s.copies r k n.0 n.1) in
    let e : k + 1 + length ns ≡ k + suc (length ns) = omega arith in
    ap (proceed v) (walk_ends J (k + 1) ns (parts J.kerf (node_of n.0 n.1) r ++ rs) (report_after J (node_of n.0 n.1) r s)
    ∙ ap (λ m. only_tree m (tree_walk J (k + 1) ns (parts J.kerf (node_of n.0 n.1) r ++ rs) (report_after J (node_of n.0 n.1) r s))) e)
    ∙ sym (only_after (k + suc (length ns)) v (tree_walk J (k + 1) ns (parts J.kerf (node_of n.0 n.1) r ++ rs) (report_after J (node_of n.0 n.1) r s)))

-- so the walk from the plate is that over the tree of the nodes, whose answer is a
module _ (J : Job) (kinds operands : List ℕ) (same : length kinds ≡ length operands) {a : Answer TreeWalk} (e : a ≡ tree_walk J 0 (nodes_in kinds operands) (J.plate ∷ []) empty_report) where
  abbrev answer : Answer Report
  answer = walk J 0 (nodes_in kinds operands) (J.plate ∷ []) empty_report

  by_tree : answer ≡ only_tree (length kinds) a
  by_tree = walk_ends J 0 (nodes_in kinds operands) (J.plate ∷ []) empty_report ∙ ap₂ only_tree (zero-add (length (nodes_in kinds operands)) ∙ nodes_length kinds operands same) (sym e)

  -- the tree is refused
  pub tree_stops : {r : Refusal} → a ≡ Err r → answer ≡ Err r
  tree_stops p = by_tree ∙ ap (only_tree (length kinds)) p

  -- it passes, and 18 decides
  pub left_decides : {t : TreeWalk} → a ≡ Ok t → answer ≡ answer_by (first_refusal (left_check (length kinds) t.past ∷ [])) t.report
  left_decides p = by_tree ∙ ap (only_tree (length kinds)) p

-- a tree without a rectangle to fill has ended
tree_none : (J : Job) (k : ℕ) (ns : List (ℕ × ℕ)) (s : Report) → tree_walk J k ns [] s ≡ tree_passed k s
unfolding tree_walk
tree_none J k [] s = refl
tree_none J k (n ∷ ns) s = refl

-- the nodes of a plan that passes are those of a tree, whatever nodes follow
pub tree_more : (J : Job) (k : ℕ) (ns more : List (ℕ × ℕ)) (rs : List Rect) (s z : Report) → walk J k ns rs s ≡ Ok z → tree_walk J k (ns ++ more) rs s ≡ tree_passed (k + length ns) z
unfolding walk tree_walk
tree_more J k [] more [] s z p = let e : k ≡ k + 0 = omega arith in let w : s ≡ z = cc in tree_none J k more s ∙ ap₂ tree_passed e w
tree_more J k (n ∷ ns) more [] s z p = no_pass (ap verdict_of p)
tree_more J k [] more (r ∷ rs) s z p = no_pass (ap verdict_of p)
tree_more J k (n ∷ ns) more (r ∷ rs) s z p =
    let e : k + 1 + length ns ≡ k + suc (length ns) = omega arith in
    let q = proceed_value (first_refusal (node_checks J s.copies r k n.0 n.1)) _ p in
    ap (λ v. proceed v (tree_walk J (k + 1) (ns ++ more) (parts J.kerf (node_of n.0 n.1) r ++ rs) (report_after J (node_of n.0 n.1) r s))) q.0
    ∙ tree_more J (k + 1) ns more (parts J.kerf (node_of n.0 n.1) r ++ rs) (report_after J (node_of n.0 n.1) r s) z q.1 ∙ ap (λ m. tree_passed m z) e

-- and the other way: the nodes of a tree that ends pass as a plan
pub record TreeEnds (J : Job) (k : ℕ) (ns : List (ℕ × ℕ)) (rs : List Rect) (s : Report) (t : TreeWalk) : Type 0 where
  pub size : ℕ
  pub ended : t.past ≡ k + size
  pub inside : size ≤ length ns
  pub walks : walk J k (take size ns) rs s ≡ Ok t.report

pub tree_ends : (J : Job) (k : ℕ) (ns : List (ℕ × ℕ)) (rs : List Rect) (s : Report) {t : TreeWalk} → tree_walk J k ns rs s ≡ Ok t → TreeEnds J k ns rs s t
unfolding walk tree_walk
tree_ends J k [] [] s {t} p = let w : record { report = s; past = k } ≡ t = cc in record { size = 0; ended = ap (λ u. u.past) (sym w) ∙ omega arith; inside = omega arith; walks = ap (λ u. Ok u.report) w }
tree_ends J k (n ∷ ns) [] s {t} p = let w : record { report = s; past = k } ≡ t = cc in record { size = 0; ended = ap (λ u. u.past) (sym w) ∙ omega arith; inside = omega arith; walks = ap (λ u. Ok u.report) w }
tree_ends J k [] (r ∷ rs) s p = no_pass (ap verdict_of p)
tree_ends J k (n ∷ ns) (r ∷ rs) s p =
    let q = proceed_value (first_refusal (node_checks J s.copies r k n.0 n.1)) _ p in
    let e = tree_ends J (k + 1) ns (parts J.kerf (node_of n.0 n.1) r ++ rs) (report_after J (node_of n.0 n.1) r s) q.1 in
    record {
      size = suc e.size;
      ended = omega (arith, e.ended);
      inside = omega (arith, e.inside);
      walks = ap (λ v. proceed v (walk J (k + 1) (take e.size ns) (parts J.kerf (node_of n.0 n.1) r ++ rs) (report_after J (node_of n.0 n.1) r s))) q.0 ∙ e.walks;
    }
