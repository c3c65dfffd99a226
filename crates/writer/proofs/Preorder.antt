-- Trees in preorder: how many nodes a tree on a rectangle has.
use Rattle.writer.proofs.Prelude.{◌≡◌, refl, sym, ◌∙◌, Bool, true, false, List, ℕ, ◌+◌, ◌-◌, ◌*◌, ◌≤◌, mul-le-mul, mul-le-mul_right, arith, Length, Width, Rect, side, part, Tree, waste, piece, cut, Piece, upright, turned, kind, cut_remains, or_first, sawn, preorder, node_count, Job, GuillotineTree, count_cut, node_in, numbered_piece, laid_tree}

count_waste : node_count waste ≡ 1
unfolding node_count preorder
count_waste = refl

count_piece : (p : Piece) → node_count (piece p) ≡ 1
unfolding node_count preorder
count_piece (upright i) = refl
count_piece (turned i) = refl

-- two parts that are no more than the whole have no more area
two_parts : (x y l w : ℕ) → x + y ≤ l → x * w + y * w ≤ l * w
two_parts x y l w h = omega (arith, mul-le-mul_right w h)

-- a tree on a rectangle has fewer nodes than twice its area
pub nodes_most : (J : Job) (t : Tree Piece) (l w : ℕ) → GuillotineTree J l w t → 1 ≤ l → 1 ≤ w → node_count t + 1 ≤ 2 * (l * w)
nodes_most J waste l w s h g = omega (arith, count_waste, mul-le-mul h g)
nodes_most J (piece p) l w s h g = omega (arith, count_piece p, mul-le-mul h g)
nodes_most J (cut Length x a b) l w s h g =
    omega (arith, count_cut Length x a b, two_parts x (l - x - J.kerf) l w (omega (arith, s.1)), nodes_most J a x w s.2 s.0 g, nodes_most J b (l - x - J.kerf) w s.3 (omega (arith, s.1)) g)
nodes_most J (cut Width x a b) l w s h g =
    omega (arith, count_cut Width x a b, two_parts x (w - x - J.kerf) w l (omega (arith, s.1)), nodes_most J a l x s.2 h s.0, nodes_most J b l (w - x - J.kerf) s.3 h (omega (arith, s.1)))

-- as the saw cuts it, a tree has no more nodes
pub count_sawn : (k : ℕ) (r : Rect) (t : Tree Piece) → node_count (sawn k r t) ≤ node_count t
unfolding sawn
count_sawn k r waste = omega arith
count_sawn k r (piece p) = omega arith
count_sawn k r (cut d x a b) = go (cut_remains k (side d r - x)) (sawn k (part d x r) a) (sawn k (part d (side d r - x) r) b) (count_sawn k (part d x r) a) (count_sawn k (part d (side d r - x) r) b)
  where
    go : (c : Bool) (a' b' : Tree Piece) → node_count a' ≤ node_count a → node_count b' ≤ node_count b → node_count (or_first c d (x - k) a' b') ≤ node_count (cut d x a b)
    go true a' b' u v = omega (arith, u, v, count_cut d x a b, count_cut d (x - k) a' b')
    go false a' b' u v = omega (arith, u, count_cut d x a b)

-- a tree has as many nodes, whatever pieces its numbers stand for
pub count_laid : (pieces : List ℕ) (t : Tree Piece) → node_count (laid_tree pieces t) ≡ node_count t
count_laid pieces waste = refl
count_laid pieces (piece p) = count_piece (numbered_piece (node_in pieces (kind p))) ∙ sym (count_piece p)
count_laid pieces (cut d x a b) = omega (arith, count_cut d x a b, count_cut d x (laid_tree pieces a) (laid_tree pieces b), count_laid pieces a, count_laid pieces b)
