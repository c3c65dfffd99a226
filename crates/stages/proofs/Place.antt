-- Check 23 as the walks count it, by the stages left, names the first node whose own path has more stages than the limit.
use Rattle.stages.proofs.Prelude.{◌≡◌, refl, sym, ◌∙◌, ap, ap₂, Bool, true, false, List, [], ◌∷◌, ◌++◌, map, map-append, map-map, ℕ, suc, ◌+◌, ◌-◌, ◌≤◌, arith, leb-true, leb-false, lt-ltb, le-ltb, leb, ltb, length, length-append, length-map, Direction, Tree, waste, piece, cut, change, root, changes, path_stages, preorder, node_count, count_cut, change_same, ManyStages, next, first_refusal, first_append, node_paths, above_checks, path_checks, stage_checks, walk_checks}
use Rattle.cutting.specs.Pieces as laid

-- a node has one path
paths_count : (t : Tree laid.Piece) → length (node_paths t) ≡ node_count t
unfolding node_paths node_count preorder
paths_count waste = refl
paths_count (piece (laid.upright i)) = refl
paths_count (piece (laid.turned i)) = refl
paths_count (cut d x a b) =
    omega (arith, length-map (node_paths a ++ node_paths b) (λ p. d ∷ p), length-append (node_paths a) (node_paths b), paths_count a, paths_count b, count_cut d x a b)

-- the checks of nodes one after another
above_append : (k i : ℕ) (xs ys : List ℕ) → above_checks k i (xs ++ ys) ≡ above_checks k i xs ++ above_checks k (i + length xs) ys
unfolding above_checks
above_append k i [] ys = ap (λ j. above_checks k j ys) (let z : i ≡ i + 0 = omega arith in z)
above_append k i (x ∷ xs) ys = ap (λ l. (ltb k x, ManyStages i) ∷ l)
    (above_append k (i + 1) xs ys ∙ ap (λ j. above_checks k (i + 1) xs ++ above_checks k j ys) (let z : i + 1 + length xs ≡ i + suc (length xs) = omega arith in z))

-- the checks of the nodes of a cut's parts
parts_checks : (k i : ℕ) (f : List Direction → ℕ) (a b : Tree laid.Piece) → first_refusal (above_checks k i (map f (node_paths a ++ node_paths b)))
    ≡ next (first_refusal (above_checks k i (map f (node_paths a)))) (first_refusal (above_checks k (i + node_count a) (map f (node_paths b))))
parts_checks k i f a b = ap (λ l. first_refusal (above_checks k i l)) (map-append f (node_paths a) (node_paths b))
    ∙ (ap first_refusal (above_append k i (map f (node_paths a)) (map f (node_paths b)))
    ∙ (first_append (above_checks k i (map f (node_paths a))) (above_checks k (i + length (map f (node_paths a))) (map f (node_paths b)))
    ∙ ap (λ j. next (first_refusal (above_checks k i (map f (node_paths a)))) (first_refusal (above_checks k (i + j) (map f (node_paths b)))))
    (length-map (node_paths a) f ∙ paths_count a)))

module _ (k : ℕ) where
  -- below cuts in direction d with c changes, the stages left are the limit's less those, and at least one
  abbrev Placed : Tree laid.Piece → Type 0
  Placed t = (d : Direction) (left c i : ℕ) (f : List Direction → ℕ) → ((p : List Direction) → f p ≡ c + changes d p + 1) → left + c ≡ k → 1 ≤ left
      → first_refusal (stage_checks d left i t) ≡ first_refusal (above_checks k i (map f (node_paths t)))

  -- a cut, whose path alone is read from it on
  placed_cut : (g : Direction) (x : ℕ) (a b : Tree laid.Piece) → Placed a → Placed b → (d : Direction) (left c i : ℕ) (f : List Direction → ℕ)
      → ((p : List Direction) → f (g ∷ p) ≡ c + change d g + changes g p + 1) → left + c ≡ k
      → first_refusal (stage_checks d left i (cut g x a b)) ≡ first_refusal (above_checks k i (map f (node_paths (cut g x a b))))
  unfolding stage_checks node_paths above_checks first_refusal changes
  placed_cut g x a b in_a in_b d left c i f h e = go (leb left (change d g)) refl
    where
      rest : left - change d g + (c + change d g) ≡ k → 1 ≤ left - change d g
          → first_refusal (stage_checks g (left - change d g) (i + 1) a ++ stage_checks g (left - change d g) (i + 1 + node_count a) b)
          ≡ first_refusal (above_checks k (i + 1) (map f (map (λ p. g ∷ p) (node_paths a ++ node_paths b))))
      rest e l = first_append (stage_checks g (left - change d g) (i + 1) a) (stage_checks g (left - change d g) (i + 1 + node_count a) b)
          ∙ (ap₂ next (in_a g (left - change d g) (c + change d g) (i + 1) (λ p. f (g ∷ p)) h e l) (in_b g (left - change d g) (c + change d g) (i + 1 + node_count a) (λ p. f (g ∷ p)) h e l)
          ∙ (sym (parts_checks k (i + 1) (λ p. f (g ∷ p)) a b)
          ∙ ap (λ ss. first_refusal (above_checks k (i + 1) ss)) (sym (map-map f (λ p. g ∷ p) (node_paths a ++ node_paths b)))))

      go : (t : Bool) → leb left (change d g) ≡ t → first_refusal (stage_checks d left i (cut g x a b)) ≡ first_refusal (above_checks k i (map f (node_paths (cut g x a b))))
      go true w = let z : ltb k (f (g ∷ [])) ≡ true = lt-ltb k (f (g ∷ [])) (omega (arith, h [], leb-true left (change d g) w)) in rw (w, z) refl
      go false w =
          let m = leb-false left (change d g) w in
          let z : ltb k (f (g ∷ [])) ≡ false = le-ltb k (f (g ∷ [])) (omega (arith, h [], m)) in
          rw (w, z) (rest (omega (arith, m)) (omega (arith, m)))

  placed : (t : Tree laid.Piece) → Placed t
  unfolding stage_checks node_paths above_checks first_refusal changes
  placed waste d left c i f h e l = let z : ltb k (f []) ≡ false = le-ltb k (f []) (omega (arith, h [])) in rw z refl
  placed (piece p) d left c i f h e l = let z : ltb k (f []) ≡ false = le-ltb k (f []) (omega (arith, h [])) in rw z refl
  placed (cut g x a b) d left c i f h e l = placed_cut g x a b (placed a) (placed b) d left c i f (λ p. omega (arith, h (g ∷ p))) e

  -- so the walks name the first node whose path passes the limit
  pub by_paths : (t : Tree laid.Piece) → first_refusal (walk_checks k t) ≡ first_refusal (path_checks k t)
  unfolding stage_checks node_paths above_checks first_refusal root
  by_paths waste = let z : ltb k 0 ≡ false = le-ltb k 0 (omega arith) in rw z refl
  by_paths (piece p) = let z : ltb k 0 ≡ false = le-ltb k 0 (omega arith) in rw z refl
  by_paths (cut g x a b) = placed_cut g x a b (placed a) (placed b) g k 0 0 (λ p. path_stages p) (λ p. omega (arith, change_same g)) (omega arith)
