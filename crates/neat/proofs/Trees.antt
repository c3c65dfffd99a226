-- The trees that a plan's nodes draw: one step of the scan is one node in front of them, and the nodes of a tree make what holds of its parts.
use Rattle.neat.proofs.Prelude.{◌≡◌, refl, sym, ◌∙◌, ap, ap₂, subst, List, [], ◌∷◌, ◌++◌, map, append_assoc, ℕ, zero, suc, ◌+◌, ◌≤◌, ◌<◌, max, arith, Direction, Length, Width, Node, Waste, Piece, Turned, Cut, most_kinds, keep, Rect, side, Tree, waste, piece, cut, total, piece_count, ◌⊑◌, preorder, kinds_of, kind_of, operand_of, joined, remaining, used, neat, kinds_cut, used_none, node_back, with_node, written, written_cut, trees_tree, told_side, told, told_of, size_of, moved, used_with, becomes, Ready, Numbered, remains, unless_none, neat_nodes, pieces_in, Fair, Known, Within, Makes, AllMake}
use Rattle.cutting.specs.Pieces as laid

-- the pieces of a tree's kinds in front of others
pub pieces_tree : (t : Tree laid.Piece) (ks : List ℕ) → pieces_in (kinds_of t ++ ks) ≡ piece_count t + pieces_in ks
unfolding pieces_in kinds_of preorder total
pieces_tree waste ks = refl
pieces_tree (piece (laid.upright i)) ks = refl
pieces_tree (piece (laid.turned i)) ks = refl
pieces_tree (cut Length x a b) ks = ap pieces_in (kinds_cut Length x a b ks) ∙ omega (arith, pieces_tree a (kinds_of b ++ ks), pieces_tree b ks)
pieces_tree (cut Width x a b) ks = ap pieces_in (kinds_cut Width x a b ks) ∙ omega (arith, pieces_tree a (kinds_of b ++ ks), pieces_tree b ks)

-- two numbers of which both are 0 or none is
abbrev Alike : ℕ → ℕ → Type 0
Alike m i = (m ≡ 0 → i ≡ 0) × (0 < m → 0 < i)

-- a cut by numbers that are alike
joined_alike : (k : ℕ) (d : Direction) (u v : Rect) (m n i j : ℕ) → Alike m i → Alike n j → joined k d m n u v ≡ joined k d i j u v
joined_alike k d u v zero n i j e f = sym (ap (λ l. joined k d l j u v) (e.0 refl))
joined_alike k d u v (suc m) n zero j e f = absurd (omega (arith, e.1 (omega arith)))
joined_alike k d u v (suc m) zero (suc i) j e f = sym (ap (λ l. joined k d (suc i) l u v) (f.0 refl))
joined_alike k d u v (suc m) (suc n) (suc i) zero e f = absurd (omega (arith, f.1 (omega arith)))
joined_alike k Length u v (suc m) (suc n) (suc i) (suc j) e f = refl
joined_alike k Width u v (suc m) (suc n) (suc i) (suc j) e f = refl

moved_alike : (d : Direction) (x m n i j : ℕ) → Alike m i → Alike n j → moved d m n x ≡ moved d i j x
moved_alike d x zero n i j e f = sym (ap (λ l. moved d l j x) (e.0 refl))
moved_alike d x (suc m) n zero j e f = absurd (omega (arith, e.1 (omega arith)))
moved_alike d x (suc m) zero (suc i) j e f = sym (ap (λ l. moved d (suc i) l x) (f.0 refl))
moved_alike d x (suc m) (suc n) (suc i) zero e f = absurd (omega (arith, f.1 (omega arith)))
moved_alike d x (suc m) (suc n) (suc i) (suc j) e f = refl

moved_operand : (d : Direction) (m n x l : ℕ) → x ≤ l → operand_of (moved d m n x) ≤ l
moved_operand d zero n x l h = omega arith
moved_operand d (suc m) zero x l h = omega arith
moved_operand d (suc m) (suc n) x l h = h

-- what is written of a cut, in front of what is written of its parts
cut_nodes : (d : Direction) (x m n : ℕ) (a b : Tree laid.Piece) (ws : List Node)
    → unless_none (m + n) (preorder (remaining d m n x a b)) ++ ws ≡ keep (remains (kind_of (moved d m n x))) (moved d m n x) (unless_none m (preorder a) ++ (unless_none n (preorder b) ++ ws))
unfolding preorder
cut_nodes d x zero n a b ws = let e : zero + n ≡ n = omega arith in ap (λ i. unless_none i (preorder b) ++ ws) e
cut_nodes d x (suc m) zero a b ws = let e : suc m + zero ≡ suc m = omega arith in ap (λ i. unless_none i (preorder a) ++ ws) e
cut_nodes Length x (suc m) (suc n) a b ws = let e : suc m + suc n ≡ suc (m + suc n) = omega arith in
    ap (λ i. unless_none i (preorder (cut Length x a b)) ++ ws) e ∙ ap (λ l. Cut Length x ∷ l) (append_assoc (preorder a) (preorder b) ws)
cut_nodes Width x (suc m) (suc n) a b ws = let e : suc m + suc n ≡ suc (m + suc n) = omega arith in
    ap (λ i. unless_none i (preorder (cut Width x a b)) ++ ws) e ∙ ap (λ l. Cut Width x ∷ l) (append_assoc (preorder a) (preorder b) ws)

-- a sum and the greater are told alike, whether of two sides or of what is told of them
sum_told : (k a b : ℕ) → told_side (a + k + b) ≡ told_side (told_side a + k + told_side b)
sum_told k a b = omega arith

max_told : (a b : ℕ) → told_side (max a b) ≡ told_side (max (told_side a) (told_side b))
max_told a b = omega arith

-- what is told once is told again
told_again : (r : Rect) → told r ≡ told (told r)
told_again r = ap₂ (λ l w. (l, w)) (omega arith) (omega arith)

-- a cut is told alike over its parts' used sizes and over what is told of them
joined_told : (k : ℕ) (d : Direction) (m n : ℕ) (u v : Rect) → told (joined k d m n u v) ≡ told (joined k d m n (told u) (told v))
joined_told k d zero n u v = told_again v
joined_told k d (suc m) zero u v = told_again u
joined_told k Length (suc m) (suc n) u v = ap₂ (λ l w. (l, w)) (sum_told k u.0 v.0) (max_told u.1 v.1)
joined_told k Width (suc m) (suc n) u v = ap₂ (λ l w. (l, w)) (max_told u.0 v.0) (sum_told k u.1 v.1)

-- a cut of which a part holds a piece, and uses some length, does too
joined_some : (k : ℕ) (d : Direction) (m n : ℕ) (u v : Rect) → (0 < m → 0 < u.0) → (0 < n → 0 < v.0) → 0 < m + n → 0 < (joined k d m n u v).0
joined_some k d zero n u v p q e = q (omega arith)
joined_some k d (suc m) zero u v p q e = p (omega arith)
joined_some k Length (suc m) (suc n) u v p q e = omega (arith, p (omega arith))
joined_some k Width (suc m) (suc n) u v p q e = omega (arith, p (omega arith))

-- the parts of a cut use no more than the cut
joined_parts : (k : ℕ) (d : Direction) (m n : ℕ) (u v r : Rect) → (m ≡ 0 → u ≡ (0, 0)) → (n ≡ 0 → v ≡ (0, 0)) → joined k d m n u v ⊑ r → (u ⊑ r) × (v ⊑ r)
joined_parts k d zero n u v r p q h = (subst (λ (z : Rect). z ⊑ r) (sym (p refl)) (omega arith), h)
joined_parts k d (suc m) zero u v r p q h = (h, subst (λ (z : Rect). z ⊑ r) (sym (q refl)) (omega arith))
joined_parts k Length (suc m) (suc n) u v r p q h = (omega arith, omega arith)
joined_parts k Width (suc m) (suc n) u v r p q h = (omega arith, omega arith)

-- what is not too great is told as it is
told_small : (r q : Rect) → r ⊑ q → Fair q → told r ≡ r
told_small r q h f = ap₂ (λ a b. (a, b)) (omega arith) (omega arith)

-- a property of a tree that its parts have too
abbrev pub Shared : (Tree laid.Piece → Type 0) → Type 0
Shared Q = (d : Direction) (x : ℕ) (a b : Tree laid.Piece) → Q (cut d x a b) → Q a × Q b

pub known_parts : (size : laid.Piece → Rect) → Shared (Known size)
known_parts size d x a b h = h

pub within_parts : (kerf : ℕ) (size : laid.Piece → Rect) (plate : Rect) → Shared (Within kerf size plate)
unfolding used
within_parts kerf size plate d x a b h =
    joined_parts kerf d (piece_count a) (piece_count b) (used kerf size a) (used kerf size b) plate (used_none kerf size a) (used_none kerf size b) h

-- the nodes of a tree that has it make trees that have it
pub tree_makes : (Q : Tree laid.Piece → Type 0) → Shared Q → (t : Tree laid.Piece) (ns : List (ℕ × ℕ)) → Q t → AllMake Q ns → AllMake Q (written t ++ ns)
unfolding preorder
tree_makes Q parts waste ns h f = (tt, f)
tree_makes Q parts (piece (laid.upright i)) ns h f = (h, f)
tree_makes Q parts (piece (laid.turned i)) ns h f = (h, f)
tree_makes Q parts (cut d x a b) ns h f =
    let p = parts d x a b h in
    let ts = trees_tree a (written b ++ ns) ∙ ap (λ ts. a ∷ ts) (trees_tree b ns) in
    subst (AllMake Q) (sym (written_cut d x a b ns))
    (subst (λ (z : Node × List (Tree laid.Piece)). Makes Q z.0 z.1) (λ i. (sym (node_back (Cut d x)) i, sym ts i)) h, tree_makes Q parts a (written b ++ ns) p.0 (tree_makes Q parts b ns p.1 f))

module _ (kerf : ℕ) (size : laid.Piece → Rect) where
  used_some : (t : Tree laid.Piece) → Known size t → 0 < piece_count t → 0 < (used kerf size t).0
  unfolding used total
  used_some waste h e = absurd (omega (arith, e))
  used_some (piece p) h e = h.1.0.0
  used_some (cut d x a b) h e = joined_some kerf d (piece_count a) (piece_count b) (used kerf size a) (used kerf size b) (used_some a h.0) (used_some b h.1) e

  -- the used length of a tree, as it is told, tells whether it holds a piece
  told_tells : (t : Tree laid.Piece) → Known size t → Alike (piece_count t) (told_of kerf size t).0
  told_tells t h = (λ e. let z = ap (λ (r : Rect). r.0) (used_none kerf size t e) in omega (arith, z), λ e. omega (arith, used_some t h e))

  -- a node in front of trees
  module _ (d : Direction) (x : ℕ) (a b : Tree laid.Piece) (h : Known size (cut d x a b)) where
    cut_told : told_of kerf size (cut d x a b) ≡ told (joined kerf d (told_of kerf size a).0 (told_of kerf size b).0 (told_of kerf size a) (told_of kerf size b))
    unfolding used
    cut_told = joined_told kerf d (piece_count a) (piece_count b) (used kerf size a) (used kerf size b)
        ∙ ap told (joined_alike kerf d (told_of kerf size a) (told_of kerf size b) (piece_count a) (piece_count b) _ _ (told_tells a h.0) (told_tells b h.1))

    cut_written : (plate : Rect) → Fair plate → Within kerf size plate (cut d x a b) → (ts : List (Tree laid.Piece))
        → let n = becomes (Cut d x) (told_of kerf size a ∷ told_of kerf size b ∷ map (told_of kerf size) ts) in neat_nodes kerf size (cut d x a b ∷ ts) ≡ keep (remains (kind_of n)) n (neat_nodes kerf size (a ∷ b ∷ ts))
    unfolding neat_nodes neat total
    cut_written plate fair w ts =
        cut_nodes d (side d (used kerf size a)) (piece_count a) (piece_count b) (neat kerf size a) (neat kerf size b) (neat_nodes kerf size ts)
        ∙ ap (λ n. keep (remains (kind_of n)) n (neat_nodes kerf size (a ∷ b ∷ ts)))
        (moved_alike d (side d (used kerf size a)) (piece_count a) (piece_count b) _ _ (told_tells a h.0) (told_tells b h.1)
        ∙ sym (ap (λ r. moved d (told_of kerf size a).0 (told_of kerf size b).0 (side d r)) (told_small (used kerf size a) plate (within_parts kerf size plate d x a b w).0 fair)))

  pub node_numbered : (n : Node) (ts : List (Tree laid.Piece)) → Makes (Known size) n ts → Numbered n
  node_numbered Waste ts f = tt
  node_numbered (Piece i) ts f = f.0
  node_numbered (Turned i) ts f = f.0
  node_numbered (Cut d x) ts f = tt

  pub node_ready : (n : Node) (ts : List (Tree laid.Piece)) → Makes (Known size) n ts → Ready n (map (told_of kerf size) ts)
  node_ready Waste ts f = tt
  node_ready (Piece i) ts f = tt
  node_ready (Turned i) ts f = tt
  node_ready (Cut d x) [] f = f
  node_ready (Cut d x) (a ∷ []) f = f
  node_ready (Cut d x) (a ∷ b ∷ ts) f = (omega arith, omega arith)

  pub node_used : (n : Node) (ts : List (Tree laid.Piece)) → Makes (Known size) n ts → used_with kerf (size_of size n) n (map (told_of kerf size) ts) ≡ map (told_of kerf size) (with_node n ts)
  unfolding used
  node_used Waste ts f = refl
  node_used (Piece i) ts f = sym (ap (λ r. r ∷ map (told_of kerf size) ts) (told_small (size (laid.upright i)) (size (laid.upright i)) (omega arith) f.1))
  node_used (Turned i) ts f = sym (ap (λ r. r ∷ map (told_of kerf size) ts) (told_small (size (laid.turned i)) (size (laid.turned i)) (omega arith) f.1))
  node_used (Cut d x) [] f = absurd f
  node_used (Cut d x) (a ∷ []) f = absurd f
  node_used (Cut d x) (a ∷ b ∷ ts) f = sym (ap (λ r. r ∷ map (told_of kerf size) ts) (cut_told d x a b f))

  -- the operand of what a node becomes: a kind's number, or a side of a used size within the plate
  pub node_operand : (plate : Rect) (l : ℕ) → most_kinds ≤ l → plate ⊑ (l, l) → (n : Node) (ts : List (Tree laid.Piece)) → Makes (Known size) n ts → Makes (Within kerf size plate) n ts → operand_of (becomes n (map (told_of kerf size) ts)) ≤ l
  node_operand plate l k h Waste ts f w = omega arith
  node_operand plate l k h (Piece i) ts f w = omega (arith, f.0)
  node_operand plate l k h (Turned i) ts f w = omega (arith, f.0)
  node_operand plate l k h (Cut d x) [] f w = absurd f
  node_operand plate l k h (Cut d x) (a ∷ []) f w = absurd f
  node_operand plate l k h (Cut Length x) (a ∷ b ∷ ts) f w = moved_operand Length (told_of kerf size a).0 (told_of kerf size b).0 _ l (omega (arith, (within_parts kerf size plate Length x a b w).0.0))
  node_operand plate l k h (Cut Width x) (a ∷ b ∷ ts) f w = moved_operand Width (told_of kerf size a).0 (told_of kerf size b).0 _ l (omega (arith, (within_parts kerf size plate Width x a b w).0.1))

  module _ (plate : Rect) (fair : Fair plate) where
    pub node_written : (n : Node) (ts : List (Tree laid.Piece)) → Makes (Known size) n ts → Makes (Within kerf size plate) n ts
        → let b = becomes n (map (told_of kerf size) ts) in neat_nodes kerf size (with_node n ts) ≡ keep (remains (kind_of b)) b (neat_nodes kerf size ts)
    unfolding neat_nodes neat total preorder
    node_written Waste ts f w = refl
    node_written (Piece i) ts f w = refl
    node_written (Turned i) ts f w = refl
    node_written (Cut d x) [] f w = absurd f
    node_written (Cut d x) (a ∷ []) f w = absurd f
    node_written (Cut d x) (a ∷ b ∷ ts) f w = cut_written d x a b f plate fair w ts
