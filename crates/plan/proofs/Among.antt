-- A tree among other nodes: a walk over one tree that ends has read the nodes of a guillotine tree that keeps every demand, and the nodes
-- of such a tree are walked to their end, whatever nodes follow.
use Rattle.plan.proofs.Prelude.{◌≡◌, ◌∙◌, sym, ap, List, [], ◌∷◌, ◌++◌, append-nil, ℕ, ◌+◌, ◌≤◌, arith, length, take, length-take-le, Tree, node_count, Job, OnPlate, KeepsDemands, TreeWalk, tree_passed, tree_walk, walk, empty_report, tree_report, Ok, verdict_of, Answer}
use Rattle.cutting.specs.Pieces as laid
use Rattle.plan.proofs.Preorder.{written, count_written}
use Rattle.plan.proofs.Trees.{tree_walks}
use Rattle.plan.proofs.Parse.{Kept, parse}
use Rattle.plan.proofs.Plans.{ended, empty_length, empty_copies, same_value, whole, whole_copies, whole_own}
use Rattle.plan.proofs.Ends.{tree_ends, tree_more}

module _ (J : Job) (few : J.count ≤ 64) (k : ℕ) where
  -- the walk over one tree, on the plate, from node k on
  abbrev pub from_plate : List (ℕ × ℕ) → Answer TreeWalk
  from_plate ns = tree_walk J k ns (J.plate ∷ []) empty_report

  -- the tree at the front of the nodes, and the answer
  pub record Drawn (ns : List (ℕ × ℕ)) : Type 0 where
    pub tree : Tree laid.Piece
    pub on_plate : OnPlate J tree
    pub keeps : KeepsDemands J tree
    pub inside : node_count tree ≤ length ns
    pub nodes : take (node_count tree) ns ≡ written tree
    pub answer : from_plate ns ≡ tree_passed (k + node_count tree) (tree_report J tree)

  pub tree_drawn : (ns : List (ℕ × ℕ)) {a : TreeWalk} → from_plate ns ≡ Ok a → Drawn ns
  tree_drawn ns p =
      let e = tree_ends J k ns (J.plate ∷ []) empty_report p in
      let front = take e.size ns in
      let w = e.walks in
      let kept : Kept J few empty_report = (empty_length, λ i l. omega (arith, empty_copies i (omega (arith, l, few)))) in
      let u = parse J few (length front) k front J.plate [] empty_report (omega arith) kept (ap verdict_of w) in
      let z = ended J (k + node_count u.tree) u.left (whole J few u.tree) (ap verdict_of (sym u.goes ∙ w)) in
      let n : front ≡ written u.tree = u.nodes ∙ ap (λ l. written u.tree ++ l) z.0 ∙ append-nil (written u.tree) in
      let s : e.size ≡ node_count u.tree = sym (length-take-le e.size ns e.inside) ∙ ap length n ∙ count_written u.tree in
      let own = same_value (sym w ∙ u.goes ∙ z.1) ∙ whole_own J few u.tree u.on in
      record {
        tree = u.tree;
        on_plate = u.on;
        keeps = λ i l. (let c = whole_copies J few u.tree i (omega (arith, l, few)) in omega (arith, c, u.kept.1 i l));
        inside = omega (arith, s, e.inside);
        nodes = ap (λ m. take m ns) (sym s) ∙ n;
        answer = p ∙ (λ i. tree_passed ((e.ended ∙ ap (λ m. k + m) s) i) (own i));
      }

  -- and the other way
  pub drawn_tree : (t : Tree laid.Piece) → OnPlate J t → KeepsDemands J t → (more : List (ℕ × ℕ)) → from_plate (written t ++ more) ≡ tree_passed (k + node_count t) (tree_report J t)
  unfolding walk
  drawn_tree t on keeps more =
      tree_more J k (written t) more (J.plate ∷ []) empty_report (whole J few t)
      (ap (λ l. walk J k l (J.plate ∷ []) empty_report) (sym (append-nil (written t)))
      ∙ tree_walks J few t k [] J.plate [] empty_report on (empty_length, λ i l. omega (arith, empty_copies i (omega (arith, l, few)), keeps i l)))
      ∙ ap (λ n. tree_passed (k + n) (whole J few t)) (count_written t) ∙ ap (tree_passed (k + node_count t)) (whole_own J few t on)
