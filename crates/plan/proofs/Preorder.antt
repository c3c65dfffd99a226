-- A tree's nodes as pairs of kind and operand, and the two arrays that hold them.
use Rattle.plan.proofs.Prelude.{◌≡◌, ◌∙◌, refl, sym, ap, List, [], ◌∷◌, ◌++◌, map, map-map, append_assoc, ℕ, arith, length, length-map, Direction, Node, Cut, Tree, cut, preorder, kind_of, operand_of, node_count, kinds_of, operands_of, map-append, pair_of, nodes_in}
use Rattle.cutting.specs.Pieces as laid

-- a tree's nodes in preorder
abbrev pub written : Tree laid.Piece → List (ℕ × ℕ)
written t = map (λ n. pair_of n) (preorder t)

-- a cut's nodes: its own, then the first part's, then the second's
pub written_cut : (d : Direction) (x : ℕ) (a b : Tree laid.Piece) (ns : List (ℕ × ℕ)) → written (cut d x a b) ++ ns ≡ pair_of (Cut d x) ∷ (written a ++ (written b ++ ns))
unfolding preorder
written_cut d x a b ns = ap (λ l. pair_of (Cut d x) ∷ l) (ap (λ l. l ++ ns) (map-append (λ n. pair_of n) (preorder a) (preorder b)) ∙ append_assoc (written a) (written b) ns)

pub count_written : (t : Tree laid.Piece) → length (written t) ≡ node_count t
unfolding node_count
count_written t = length-map (preorder t) (λ n. pair_of n)

-- the arrays of a list of nodes hold its pairs
arrays_in : (ns : List Node) → nodes_in (map (λ n. kind_of n) ns) (map (λ n. operand_of n) ns) ≡ map (λ n. pair_of n) ns
arrays_in [] = refl
arrays_in (n ∷ ns) = ap (λ l. pair_of n ∷ l) (arrays_in ns)

-- two arrays of one length are known by their pairs
pub firsts : (ks os : List ℕ) → length ks ≡ length os → map (λ p. p.0) (nodes_in ks os) ≡ ks
firsts [] os h = refl
firsts (k ∷ ks) [] h = absurd (omega arith)
firsts (k ∷ ks) (o ∷ os) h = ap (λ l. k ∷ l) (firsts ks os (omega arith))

pub seconds : (ks os : List ℕ) → length ks ≡ length os → map (λ p. p.1) (nodes_in ks os) ≡ os
seconds [] [] h = refl
seconds [] (o ∷ os) h = absurd (omega arith)
seconds (k ∷ ks) [] h = absurd (omega arith)
seconds (k ∷ ks) (o ∷ os) h = ap (λ l. o ∷ l) (seconds ks os (omega arith))

-- a tree's arrays: their pairs, and their length
pub arrays_written : (t : Tree laid.Piece) → nodes_in (kinds_of t) (operands_of t) ≡ written t
unfolding kinds_of operands_of
arrays_written t = arrays_in (preorder t)

pub kinds_length : (t : Tree laid.Piece) → length (kinds_of t) ≡ node_count t
unfolding kinds_of node_count
kinds_length t = length-map (preorder t) (λ n. kind_of n)

pub operands_length : (t : Tree laid.Piece) → length (operands_of t) ≡ node_count t
unfolding operands_of node_count
operands_length t = length-map (preorder t) (λ n. operand_of n)

pub written_kinds : (ks os : List ℕ) (t : Tree laid.Piece) → length ks ≡ length os → nodes_in ks os ≡ written t → ks ≡ kinds_of t
unfolding kinds_of
written_kinds ks os t h e = sym (firsts ks os h) ∙ ap (map (λ p. p.0)) e ∙ map-map (λ p. p.0) (λ n. pair_of n) (preorder t)

pub written_operands : (ks os : List ℕ) (t : Tree laid.Piece) → length ks ≡ length os → nodes_in ks os ≡ written t → os ≡ operands_of t
unfolding operands_of
written_operands ks os t h e = sym (seconds ks os h) ∙ ap (map (λ p. p.1)) e ∙ map-map (λ p. p.1) (λ n. pair_of n) (preorder t)
