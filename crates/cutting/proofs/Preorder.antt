-- A cut's nodes in preorder: its own, then the first part's, then the second's.
use Rattle.cutting.proofs.Prelude.{◌≡◌, refl, ◌∙◌, ap, List, [], ◌∷◌, ◌++◌, map, append_assoc, ℕ, ◌+◌, arith, length-append, Direction, Node, Cut, Tree, cut, preorder, kind_of, node_count, kinds_of}
use Rattle.cutting.specs.Pieces as laid

pub map-append : {A : Type 0} (f : Node → A) (xs ys : List Node) → map f (xs ++ ys) ≡ map f xs ++ map f ys
map-append f [] ys = refl
map-append f (x ∷ xs) ys = ap (λ l. f x ∷ l) (map-append f xs ys)

pub count_cut : (d : Direction) (x : ℕ) (a b : Tree laid.Piece) → node_count (cut d x a b) ≡ 1 + node_count a + node_count b
unfolding node_count preorder
count_cut d x a b = omega (arith, length-append (preorder a) (preorder b))

-- the kinds
pub kinds_cut : (d : Direction) (x : ℕ) (a b : Tree laid.Piece) (ks : List ℕ) → kinds_of (cut d x a b) ++ ks ≡ kind_of (Cut d x) ∷ (kinds_of a ++ (kinds_of b ++ ks))
unfolding kinds_of preorder
kinds_cut d x a b ks = ap (λ l. kind_of (Cut d x) ∷ l) (ap (λ l. l ++ ks) (map-append (λ n. kind_of n) (preorder a) (preorder b)) ∙ append_assoc (kinds_of a) (kinds_of b) ks)
