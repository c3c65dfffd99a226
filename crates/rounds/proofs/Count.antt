-- The pieces that a loop over a written plan's nodes counts are the tree's copies.
use Rattle.rounds.proofs.Prelude.{◌≡◌, refl, ◌∙◌, ap, ap₂, Bool, true, false, List, [], ◌∷◌, ◌++◌, map, ℕ, zero, suc, ◌+◌, ◌≤◌, arith, eqb, length, get_or, drop, length-map, List·getD-map, List·getD-append, Node, Length, Width, Waste, sum, only, over, Tree, waste, piece, cut, total, preorder, kind_of, operand_of, kinds_of, operands_of, node_count, copies_of, lays, piece_here, pieces_in, sum_same}
use Rattle.cutting.specs.Pieces as laid

-- the first summand first
sum_front : (n : ℕ) (f : ℕ → ℕ) → sum (suc n) f ≡ f 0 + sum n (λ j. f (suc j))
unfolding sum
sum_front zero f = omega arith
sum_front (suc n) f = omega (arith, sum_front n f)

module _ (k : ℕ) where
  -- what a node counts
  abbrev one : Node → ℕ
  one n = piece_here (kind_of n) (operand_of n) k

  -- what nodes count
  abbrev all : List Node → ℕ
  all [] = 0
  all (n ∷ ns) = one n + all ns

  all_append : (xs ys : List Node) → all (xs ++ ys) ≡ all xs + all ys
  all_append [] ys = omega arith
  all_append (x ∷ xs) ys = omega (arith, all_append xs ys)

  all_tree : (t : Tree laid.Piece) → all (preorder t) ≡ copies_of k t
  unfolding preorder total
  all_tree waste = refl
  all_tree (piece (laid.upright i)) = omega arith
  all_tree (piece (laid.turned i)) = omega arith
  all_tree (cut Length x a b) = omega (arith, all_append (preorder a) (preorder b), all_tree a, all_tree b)
  all_tree (cut Width x a b) = omega (arith, all_append (preorder a) (preorder b), all_tree a, all_tree b)

  all_sum : (ns : List Node) → sum (length ns) (λ j. one (get_or ns j Waste)) ≡ all ns
  unfolding sum
  all_sum [] = refl
  all_sum (n ∷ ns) = sum_front (length ns) (λ j. one (get_or (n ∷ ns) j Waste)) ∙ ap (λ m. one n + m) (all_sum ns)

  -- arrays that begin with a tree's nodes
  pub pieces_tree : (t : Tree laid.Piece) (kinds operands : List ℕ) → pieces_in (over (kinds_of t) kinds) (over (operands_of t) operands) (node_count t) k ≡ copies_of k t
  unfolding kinds_of operands_of node_count
  pieces_tree t kinds operands =
      let ns = preorder t in
      sum_same (length ns) _ _ (λ j h. ap₂ (λ x y. piece_here x y k)
      (List·getD-append (map (λ n. kind_of n) ns) (drop (length (map (λ n. kind_of n) ns)) kinds) 0 j (omega (arith, length-map ns (λ n. kind_of n))) ∙ List·getD-map (λ n. kind_of n) ns j Waste)
      (List·getD-append (map (λ n. operand_of n) ns) (drop (length (map (λ n. operand_of n) ns)) operands) 0 j (omega (arith, length-map ns (λ n. operand_of n))) ∙ List·getD-map (λ n. operand_of n) ns j Waste))
      ∙ all_sum ns ∙ all_tree t

-- at most one a node
here_most : (a b : Bool) → only a (only b 1) ≤ 1
here_most true true = omega arith
here_most true false = omega arith
here_most false b = omega arith

pub pieces_most : (kinds operands : List ℕ) (n k : ℕ) → pieces_in kinds operands n k ≤ n
unfolding sum
pieces_most kinds operands zero k = omega arith
pieces_most kinds operands (suc n) k = omega (arith, pieces_most kinds operands n k, here_most (lays (get_or kinds n 0)) (eqb (get_or operands n 0) k))
