-- The marked example whose kind 2 by 2 does not fit the plate 1 by 1. Its demand is free, so that it is ordered or cancelled: neither gives
-- a position or a figure.
use Rattle.examples.proofs.Prelude.{◌≡◌, refl, ap, Bool, true, false, List, [], ◌∷◌, ℕ, suc, ◌+◌, ◌*◌, min, arith, leb, length, Direction, Length, Width, range, sum, keep, filter, each, any, greatest, side, waste, leaf, best, step, after, figure, Piece, kind, ways, sized, floor, saw_normal, saw_written, by_weight, summed, normal?, normal, sides, choice, plan_within, written, sawn, Job, laid, turns, capacity, ordered, members, pieces, by_kind, normal_positions, lossless_plan, plan_of, entries, record_of, block_job, weight_in, wide_job, block_plan, old_block, misfit_job}
use Rattle.examples.proofs.Calls.{words_in, bound_in, values_in}

-- where no copy is counted, none is weighed
pub none_weighed : (demand weight : ℕ) → 0 + min demand 0 * weight ≡ 0
none_weighed demand weight = let e : min demand 0 ≡ 0 = omega arith in rw e (omega arith)

module _ (pair ws : List ℕ) where
  abbrev J : Job
  J = wide_job (misfit_job pair) old_block

  -- none can lie on the plate, so the capacity is 0
  abbrev misfit_capacity : ℕ
  misfit_capacity = capacity (block_job (misfit_job pair) old_block) (weight_in ws)

  none : misfit_capacity ≡ 0
  unfolding range sum entries record_of
  none = none_weighed (J.demand 0) (weight_in ws 0)

  -- the pieces where a test says that it is ordered
  abbrev either : Bool → List Piece
  either b = each (λ i. ways (turns J i) i) (keep b 0 [])

  -- so position 0 is the only one
  pub alone : (d : Direction) → normal_positions J d ≡ 0 ∷ []
  unfolding range filter each any summed normal? sides ordered members normal_positions entries record_of
  alone d = go d (leb 1 (J.demand 0))
    where
      go : (d : Direction) (b : Bool) → filter (normal (either b) (laid J) J.plate d) (range 0 (suc (side d J.plate))) ≡ 0 ∷ []
      go Length true = refl
      go Length false = refl
      go Width true = refl
      go Width false = refl

  -- the bound is 0
  nothing : bound_in old_block (misfit_job pair) ws ≡ 0
  unfolding range filter each any greatest leaf best step after figure sized floor saw_normal by_weight summed normal? sides ordered members pieces entries record_of
  nothing = go (leb 1 (J.demand 0))
    where
      go : (b : Bool) → figure (sized (either b) (λ p. J.price (kind p)) (laid J)) (saw_normal (normal (either b) (laid J) J.plate)) (by_kind (weight_in ws)) J.plate misfit_capacity ≡ 0
      go true = refl
      go false = refl

  -- and its plan is waste
  pub wasted : block_plan (misfit_job pair) old_block ws ≡ waste
  unfolding range filter each any greatest leaf best step after figure sized floor saw_normal saw_written by_weight summed normal? sides choice plan_within written sawn lossless_plan ordered members pieces plan_of entries record_of
  wasted = ap (sawn (block_job (misfit_job pair) old_block).kerf J.plate) (go (leb 1 (J.demand 0)))
    where
      go : (b : Bool) → written (sized (either b) (λ p. J.price (kind p)) (laid J)) (saw_written (normal (either b) (laid J) J.plate)) (by_kind (weight_in ws)) J.plate misfit_capacity ≡ waste
      go true = refl
      go false = refl

  pub words : words_in old_block (misfit_job pair) ws ≡ 1
  words = let l = ap length (alone Length) in let w = ap length (alone Width) in rw (l, w, none) (omega arith)

  pub values : values_in old_block (misfit_job pair) ws ≡ 0 ∷ 0 ∷ 1 ∷ 1 ∷ []
  values = let l = ap length (alone Length) in let w = ap length (alone Width) in rw (nothing, l, w, none) refl
