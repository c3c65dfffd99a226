-- A tree's arrays draw the tree, and no other: those of a plan that passes draw the tree of the plan.
use Rattle.plan.proofs.Prelude.{◌≡◌, refl, sym, ◌∙◌, ap, ap₂, subst, List, [], ◌∷◌, ◌++◌, append-nil, ℕ, ◌≤◌, Cut, Tree, waste, piece, cut, preorder, Job, node_back, nodes_in, plan_answer, with_node, trees_in, first_tree, tree_in, DrawnAs, PlanOf, Report, Ok}
use Rattle.cutting.specs.Pieces as laid
use Rattle.plan.proofs.Preorder.{written, written_cut, arrays_written}
use Rattle.plan.proofs.Plans.{plans_checked}

-- a tree's nodes in front of others draw the tree in front of theirs
pub trees_tree : (t : Tree laid.Piece) (ns : List (ℕ × ℕ)) → trees_in (written t ++ ns) ≡ t ∷ trees_in ns
unfolding trees_in preorder
trees_tree waste ns = refl
trees_tree (piece (laid.upright i)) ns = refl
trees_tree (piece (laid.turned i)) ns = refl
trees_tree (cut d x a b) ns =
    ap trees_in (written_cut d x a b ns)
    ∙ ap₂ with_node (node_back (Cut d x)) (trees_tree a (written b ++ ns) ∙ ap (λ ts. a ∷ ts) (trees_tree b ns))

-- the arrays of a tree draw it
module _ (J : Job) (kinds operands : List ℕ) (t : Tree laid.Piece) (drawn : DrawnAs J t kinds operands) where
  pub nodes_are : nodes_in kinds operands ≡ written t ++ []
  nodes_are = ap₂ nodes_in drawn.kinds_are drawn.operands_are ∙ arrays_written t ∙ sym (append-nil (written t))

  pub trees_are : trees_in (nodes_in kinds operands) ≡ t ∷ []
  unfolding trees_in
  trees_are = ap trees_in nodes_are ∙ trees_tree t []

  pub drawn_is : t ≡ tree_in kinds operands
  drawn_is = sym (ap first_tree trees_are)

-- the arrays of a plan that passes draw its tree
pub plan_is : (J : Job) → J.count ≤ 64 → (kinds operands : List ℕ) {s : Report} → plan_answer J kinds operands ≡ Ok s → PlanOf J (tree_in kinds operands) kinds operands
plan_is J few kinds operands p =
    let t = (plans_checked J few kinds operands).tree _ p in
    subst (λ u. PlanOf J u kinds operands) (drawn_is J kinds operands t.0 t.1.drawn) t.1
