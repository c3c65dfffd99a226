-- The stages below cuts in a direction are the most of a path: as the theory has it, where it is not public.
use Rattle.planner.proofs.Prelude.{◌≡◌, refl, sym, ◌∙◌, ap, ap₂, List, [], ◌∷◌, ◌++◌, map, ℕ, ◌+◌, max, arith, Direction, greatest, Tree, waste, piece, cut, change, stages_below, paths, changes, path_stages, greatest_map, greatest_cong, greatest_append, below_cut}

path_more : (d : Direction) (p : List Direction) → path_stages (d ∷ p) ≡ max 1 (below_cut d p)
unfolding changes
path_more d [] = refl
path_more d (e ∷ p) = omega arith

greatest_more : (k : ℕ) (f : List Direction → ℕ) (p : List Direction) (ps : List (List Direction))
    → greatest (λ p. k + max 1 (f p)) (p ∷ ps) ≡ k + max 1 (greatest f (p ∷ ps))
unfolding greatest
greatest_more k f p [] = omega arith
greatest_more k f p (q ∷ ps) = ap (max (k + max 1 (f p))) (greatest_more k f q ps) ∙ joined k (f p) (greatest f (q ∷ ps))
  where
    joined : (k a b : ℕ) → max (k + max 1 a) (k + max 1 b) ≡ k + max 1 (max a b)
    joined k a b = omega arith

module _ {P : Type 0} where
  paths_some : (t : Tree P) → (p : List Direction) × (ps : List (List Direction)) × (paths t ≡ p ∷ ps)
  unfolding paths
  paths_some waste = ([], [], refl)
  paths_some (piece p) = ([], [], refl)
  paths_some (cut d x a b) = let e = paths_some a in (d ∷ e.0, map (λ p. d ∷ p) (e.1 ++ paths b), ap (λ ps. map (λ p. d ∷ p) (ps ++ paths b)) e.2)

  through_cut : (k : ℕ) (d : Direction) (a b : Tree P) → greatest (λ p. k + path_stages (d ∷ p)) (paths a ++ paths b) ≡ k + max 1 (max (greatest (below_cut d) (paths a)) (greatest (below_cut d) (paths b)))
  through_cut k d a b =
      let e = paths_some a in
      greatest_cong _ _ (paths a ++ paths b) (λ p m. ap (λ n. k + n) (path_more d p))
      ∙ (rw e.2 (greatest_more k (below_cut d) e.0 (e.1 ++ paths b)) ∙ ap (λ n. k + max 1 n) (greatest_append (below_cut d) (paths a) (paths b)))

  pub below_paths : (t : Tree P) (d : Direction) → stages_below d t ≡ greatest (below_cut d) (paths t)
  unfolding stages_below paths greatest
  below_paths waste d = refl
  below_paths (piece p) d = refl
  below_paths (cut e x a b) d = ap (λ n. change d e + max 1 n) (ap₂ max (below_paths a e) (below_paths b e))
      ∙ sym (greatest_map (below_cut d) (λ p. e ∷ p) (paths a ++ paths b) ∙ through_cut (change d e) e a b)
