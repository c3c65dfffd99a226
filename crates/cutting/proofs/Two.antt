-- Two weights a kind: the recursion, normal positions, the bound's exactness under two capacities, the trees that keep the demands, and
-- that second weights of 0 change nothing.
use Rattle.cutting.proofs.Prelude.{◌≡◌, refl, ◌∙◌, ap₂, List, [], ◌∷◌, map, ℕ, zero, suc, ◌*◌, ◌≤◌, max, sub-zero, mul-zero, arith, most_figure, sum, greatest, pairs, Tree, waste, piece, cut, Monotone, total, leaf, best, step, kind, sized, saw, by_weight, paired, Job, laid, counted, capacity, members, pieces, by_kind, figure_of, normal_side, SolidKinds, InRange, NoneAbove, by_two, figure_two, two_under, two_bound, OfWeights, MostTwo, TwoFiguresMost, TwoRecursion, TwoFloors}
use Rattle.cutting.proofs.Greatest.{greatest_map, greatest_append}
use Rattle.cutting.proofs.Recursion.{figure_eq}
use Rattle.cutting.proofs.Exact.{figure_within}
use Rattle.cutting.proofs.Saws.{saw_proper}
use Rattle.cutting.proofs.Weights.{within_weight, weight_within, by_weight_monotone}
use Rattle.cutting.proofs.Pairs.{paired_within, within_paired, paired_monotone}
use Rattle.cutting.proofs.Reduction.{floor_figure}
use Rattle.cutting.proofs.Members.{members_solid, range_solid}
use Rattle.cutting.proofs.AnyKinds.{none_any}
use Rattle.cutting.proofs.Table.{sides_suffice}
use Rattle.cutting.proofs.Bound.{share_figure, demands_weight, bound_most, bound_ceiling}

-- the greatest over all pairs
greatest_pairs : {A B : Type 0} (f : A × B → ℕ) (xs : List A) (ys : List B) → greatest f (pairs xs ys) ≡ greatest (λ x. greatest (λ y. f (x, y)) ys) xs
unfolding greatest pairs
greatest_pairs f [] ys = refl
greatest_pairs f (x ∷ xs) ys = greatest_append f (map (λ y. (x, y)) ys) (pairs xs ys) ∙ ap₂ max (greatest_map f (λ y. (x, y)) ys) (greatest_pairs f xs ys)

-- what comes to nothing at each piece comes to nothing in a tree
total_none : {P : Type 0} (f : P → ℕ) → ((p : P) → f p ≡ 0) → (t : Tree P) → total f t ≡ 0
unfolding total
total_none f h waste = refl
total_none f h (piece p) = h p
total_none f h (cut d x a b) = omega (arith, total_none f h a, total_none f h b)

module _ (J : Job) (first second : ℕ → ℕ) where
  -- each cut shares out both
  pub two_recursion : TwoRecursion J first second
  unfolding figure_two step leaf best pieces sized saw by_weight paired
  two_recursion l w c c' = figure_eq (pieces J) (saw 0) (by_two first second) (saw_proper 0) (l, w) (c, c') ∙ simp (greatest_map, greatest_pairs, sub-zero)

  monotone : Monotone (by_two first second)
  monotone = paired_monotone _ _ (by_weight_monotone _) (by_weight_monotone _)

  module _ (solid : SolidKinds J) where
    -- normal positions serve every pair of shares
    pub two_floor : TwoFloors J first second
    unfolding figure_two pieces
    two_floor l w c c' on_length on_width = floor_figure (members J) (λ p. J.price (kind p)) (laid J) (members_solid J solid) (by_two first second) monotone
        J.plate (normal_side J) (sides_suffice J) (l, w) (c, c') (on_length, on_width)

    -- every figure is the most that a tree within its pair of shares earns
    pub two_figures : TwoFiguresMost J first second
    unfolding figure_two
    two_figures l w c c' = share_figure J solid (by_two first second) monotone (OfWeights first second c c') l w (c, c')
        (λ t g a. within_paired (by_kind first) (by_kind second) t (c, c') (weight_within (λ p. first (kind p)) t c a.0) (weight_within (λ p. second (kind p)) t c' a.1))
        (λ t g a. (let v = paired_within (by_kind first) (by_kind second) t (c, c') a in (within_weight (λ p. first (kind p)) t c v.0, within_weight (λ p. second (kind p)) t c' v.1)))

    -- so the bound is the most that a tree on the plate within both capacities earns
    pub two_most : (q q' : ℕ) → MostTwo J first second q q' (two_under J first second q q')
    two_most = two_figures J.plate.0 J.plate.1

    -- no tree that keeps every demand earns more
    pub two_holds : NoneAbove J (two_bound J first second)
    two_holds = none_any J (two_bound J first second)
        (λ t g k. (two_most (capacity J first) (capacity J second)).0 t g (demands_weight J first solid t g k, demands_weight J second solid t g k))

  -- the bound is at most 1,000,000,000,000
  pub two_ceiling : InRange J → two_bound J first second ≤ most_figure
  two_ceiling h =
      let e = (two_most (range_solid J h) (capacity J first) (capacity J second)).1 in
      omega (arith, e.1.2, (bound_most J first (range_solid J h)).0 e.0 e.1.0 e.1.1.0, bound_ceiling J first h)

  -- with all second weights 0
  module _ (none : (i : ℕ) → second i ≡ 0) where
    -- the second capacity is 0
    pub capacity_none : capacity J second ≡ 0
    unfolding sum
    capacity_none = go J.count
      where
        go : (n : ℕ) → sum n (λ i. counted J i * second i) ≡ 0
        go zero = refl
        go (suc n) = rw (none n, mul-zero (counted J n)) (omega (arith, go n))

    -- and every figure is that of the first weights
    pub two_one : (l w c : ℕ) → figure_two J first second l w c 0 ≡ figure_of J first l w c
    unfolding figure_two figure_of
    two_one l w c = figure_within (pieces J) (saw 0) (saw_proper 0) (by_two first second) (by_kind first) (l, w) (c, 0) c
        (λ t v. (paired_within (by_kind first) (by_kind second) t (c, 0) v).0)
        (λ t v. within_paired (by_kind first) (by_kind second) t (c, 0) v (weight_within (λ p. second (kind p)) t 0 (omega (arith, total_none (λ p. second (kind p)) (λ p. none (kind p)) t))))
