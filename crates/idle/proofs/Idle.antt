-- The checks over a tree's kinds are those over its nodes, and they pass exactly where no cut of the tree is idle.
use Rattle.idle.proofs.Prelude.{◌≡◌, refl, sym, ◌∙◌, ap, ap₂, false, List, [], ◌∷◌, ◌++◌, append_assoc, append-nil, ℕ, zero, suc, ◌+◌, ◌-◌, arith, ltb, eqb, lt-ltb, eqb-false, ne_eqb, Direction, Length, Width, Cut, Tree, waste, piece, cut, total, piece_count, IdleFree, preorder, kind_of, node_count, kinds_of, kinds_cut, count_cut, first_refusal, IdleCut, cons_passed, append_passed, passed_append, node_of, pieceless_from, pieceless, is_idle, idle_checks, tree_checks, passed}
use Rattle.cutting.specs.Pieces as laid

-- a tree of so many pieces before n trees without one
abbrev before : ℕ → ℕ → ℕ
before zero n = n + 1
before (suc pieces) n = 0

before_cut : (i j n : ℕ) → before i (before j n) - 1 ≡ before (i + j) n
before_cut zero zero n = omega arith
before_cut zero (suc j) n = let e : zero + suc j ≡ suc j = omega arith in rw e refl
before_cut (suc i) j n = let e : suc i + j ≡ suc (i + j) = omega arith in rw e refl

before_idle : (i j n : ℕ) → ltb 1 (before i (before j n)) ≡ eqb (i + j) 0
before_idle zero zero n = lt-ltb 1 (n + 1 + 1) (omega arith)
before_idle zero (suc j) n = sym (ne_eqb (zero + suc j) 0 (λ e. (let w : ⊥ = omega (arith, e) in w)))
before_idle (suc i) j n = sym (ne_eqb (suc i + j) 0 (λ e. (let w : ⊥ = omega (arith, e) in w)))

cut_from : (d : Direction) (x n : ℕ) → pieceless_from (node_of (kind_of (Cut d x)) 0) n ≡ n - 1
cut_from Length x n = refl
cut_from Width x n = refl

cut_idle : (d : Direction) (x n : ℕ) → is_idle (node_of (kind_of (Cut d x)) 0) n ≡ ltb 1 n
cut_idle Length x n = refl
cut_idle Width x n = refl

-- the trees without a piece where a tree's kinds begin
pieceless_tree : (t : Tree laid.Piece) (ks : List ℕ) → pieceless (kinds_of t ++ ks) ≡ before (piece_count t) (pieceless ks)
unfolding pieceless kinds_of preorder total
pieceless_tree waste ks = refl
pieceless_tree (piece (laid.upright i)) ks = refl
pieceless_tree (piece (laid.turned i)) ks = refl
pieceless_tree (cut d x a b) ks =
    ap pieceless (kinds_cut d x a b ks) ∙ cut_from d x (pieceless (kinds_of a ++ (kinds_of b ++ ks)))
    ∙ ap (λ n. n - 1) (pieceless_tree a (kinds_of b ++ ks) ∙ ap (before (piece_count a)) (pieceless_tree b ks))
    ∙ before_cut (piece_count a) (piece_count b) (pieceless ks)

-- the checks where a tree's kinds begin
checks_tree : (t : Tree laid.Piece) (k : ℕ) (ks : List ℕ) → idle_checks k (kinds_of t ++ ks) ≡ tree_checks k t ++ idle_checks (k + node_count t) ks
unfolding idle_checks tree_checks kinds_of node_count preorder total
checks_tree waste k ks = refl
checks_tree (piece (laid.upright i)) k ks = refl
checks_tree (piece (laid.turned i)) k ks = refl
checks_tree (cut d x a b) k ks =
    let e : k + 1 + node_count a + node_count b ≡ k + node_count (cut d x a b) = omega (arith, count_cut d x a b) in
    ap (idle_checks k) (kinds_cut d x a b ks)
    ∙ ap₂ (λ c l. (c, IdleCut k) ∷ l)
    (cut_idle d x (pieceless (kinds_of a ++ (kinds_of b ++ ks))) ∙ ap (ltb 1) (pieceless_tree a (kinds_of b ++ ks) ∙ ap (before (piece_count a)) (pieceless_tree b ks)) ∙ before_idle (piece_count a) (piece_count b) (pieceless ks))
    (checks_tree a (k + 1) (kinds_of b ++ ks) ∙ ap (λ l. tree_checks (k + 1) a ++ l) (checks_tree b (k + 1 + node_count a) ks ∙ ap (λ n. tree_checks (k + 1 + node_count a) b ++ idle_checks n ks) e)
    ∙ sym (append_assoc (tree_checks (k + 1) a) (tree_checks (k + 1 + node_count a) b) (idle_checks (k + node_count (cut d x a b)) ks)))

-- the checks of a tree's kinds are its own
pub idle_tree : (t : Tree laid.Piece) (k : ℕ) → idle_checks k (kinds_of t) ≡ tree_checks k t
unfolding idle_checks
idle_tree t k = ap (idle_checks k) (sym (append-nil (kinds_of t))) ∙ checks_tree t k [] ∙ append-nil (tree_checks k t)

-- where they pass, no cut is idle
pub passed_free : (t : Tree laid.Piece) (k : ℕ) → first_refusal (tree_checks k t) ≡ passed → IdleFree t
unfolding tree_checks
passed_free waste k p = tt
passed_free (piece q) k p = tt
passed_free (cut d x a b) k p =
    let u = cons_passed _ _ _ p in
    let v = append_passed (tree_checks (k + 1) a) (tree_checks (k + 1 + node_count a) b) u.1 in
    let n = eqb-false (piece_count a + piece_count b) 0 u.0 in
    (omega (arith, n), passed_free a (k + 1) v.0, passed_free b (k + 1 + node_count a) v.1)

-- and the other way
pub free_passed : (t : Tree laid.Piece) (k : ℕ) → IdleFree t → first_refusal (tree_checks k t) ≡ passed
unfolding tree_checks first_refusal
free_passed waste k f = refl
free_passed (piece q) k f = refl
free_passed (cut d x a b) k f =
    let e : eqb (piece_count a + piece_count b) 0 ≡ false = ne_eqb (piece_count a + piece_count b) 0 (λ e. (let w : ⊥ = omega (arith, e, f.0) in w)) in
    rw e (passed_append (tree_checks (k + 1) a) (tree_checks (k + 1 + node_count a) b) (free_passed a (k + 1) f.1) (free_passed b (k + 1 + node_count a) f.2))
