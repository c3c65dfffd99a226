-- The optimum in plain words: no guillotine tree on the plate that keeps every demand earns more, the written plan earns it, and every
-- weighted bound lies at or above it.
use Rattle.exact.proofs.Prelude.{◌∙◌, ℕ, ◌≤◌, sub-zero, add-sub_cancel, arith, eqb, only, IdleFree, leaf, best, step, kind, sized, saw, Job, InRange, AnyOnPlate, profit, weight_of, widened, capacity, at_full_demand, ordered, members, pieces, bound_of, NoneAbove, NoneFiner, PlanFollows, figure_two, two_bound, full_state, by_copies, exact_figure, optimum, optimum_plan, ExactRecursion, ExactFloors, EarnsExactly, MostExact, OfState, ExactFiguresMost, greatest_map, figure_eq, saw_proper, range_solid, widened_solid, plain_guillotine, any_on, none_any, none_finer, share_most, share_figure, capacity_less, bound_less, floor_under, plan_saw, plan_within, plan_recursion, plan_idle, none_above, none_heavier, two_most, two_holds, by_state}
use Rattle.exact.proofs.States.{copies_monotone}
use Rattle.exact.proofs.Remaining.{copies_within, within_copies, keeps_within, within_keeps}

-- the recursion, cut at every whole unit
pub exact_recursion : (J : Job) → ExactRecursion J
unfolding exact_figure step leaf best pieces sized saw by_state
exact_recursion J l w s = figure_eq (pieces J) (saw 0) (by_copies J) (saw_proper 0) (l, w) s ∙ simp (greatest_map, sub-zero)

module _ (J : Job) (h : InRange J) where
  pub exact_floors : ExactFloors (widened J)
  unfolding exact_figure
  exact_floors = floor_under (widened J) (by_copies (widened J)) (copies_monotone (widened J) h.kinds.0) (widened_solid J (range_solid J h))

  -- the figure of a state is the most that a tree earns with of no kind more copies than remain
  pub exact_figures : ExactFiguresMost J
  unfolding exact_figure pieces members ordered
  exact_figures l w s few = share_figure J (range_solid J h) (by_copies J) (copies_monotone J h.kinds.0) (OfState J s) l w s
      (λ t g. copies_within J h.kinds.0 t (saw J.kerf) (l, w) (plain_guillotine J t (l, w) g) s few)
      (λ t g. within_copies J h.kinds.0 t (saw J.kerf) (l, w) (plain_guillotine J t (l, w) g) s few)

  -- no tree that keeps the demands earns more
  pub optimum_most : NoneAbove J (optimum J)
  unfolding exact_figure
  optimum_most = none_any J (optimum J)
      (λ t g k. share_most J (range_solid J h) (by_copies J) (copies_monotone J h.kinds.0) t J.plate.0 J.plate.1 (full_state J) g
      (keeps_within J h.kinds.0 t (saw J.kerf) J.plate (plain_guillotine J t J.plate g) k))

  -- nor does one cut finer
  pub optimum_finer : NoneFiner J (optimum J)
  optimum_finer = none_finer J (range_solid J h) (optimum J) optimum_most

  -- the plan earns it and keeps them
  pub optimum_earned : EarnsExactly J (optimum J) (optimum_plan J)
  unfolding exact_figure pieces members ordered
  optimum_earned =
      let e = plan_within J (by_copies J) (copies_monotone J h.kinds.0) (range_solid J h) (widened J).plate.0 (widened J).plate.1 (full_state J) (omega arith) (omega arith) in
      let keeps = within_keeps (widened J) h.kinds.0 e.1.0 (plan_saw (widened J)) (widened J).plate e.1.1 e.1.2 in (
        rw (add-sub_cancel J.plate.0 J.kerf, add-sub_cancel J.plate.1 J.kerf) at e.0,
        (λ i l. omega (arith, e.1.3 (λ p. only (eqb (kind p) i) 1), keeps i l)),
        e.2,
      )

  -- it is one of any kinds
  optimum_any : AnyOnPlate J (optimum_plan J)
  optimum_any = any_on J (optimum_plan J) optimum_earned.0

  pub optimum_exact : MostExact J (optimum J)
  optimum_exact = (optimum_most, (optimum_plan J, optimum_earned))

  -- it follows the order of choice and has no idle cut
  pub optimum_follows : PlanFollows J (by_copies J)
  optimum_follows l w s on_length on_width = plan_recursion J (by_copies J) (copies_monotone J h.kinds.0) (range_solid J h) l w s on_length on_width

  pub optimum_idle : IdleFree (optimum_plan J)
  optimum_idle = plan_idle J (by_copies J) (copies_monotone J h.kinds.0) (range_solid J h) (widened J).plate.0 (widened J).plate.1 (full_state J)

  -- every weighted bound lies at or above it, in either form of the capacity
  pub bounds_above : (weight : ℕ → ℕ) → (optimum J ≤ bound_of J weight) × (optimum J ≤ bound_of (at_full_demand J) weight)
  bounds_above weight =
      let a : optimum J ≤ bound_of J weight = omega (arith, optimum_earned.2, none_above J weight h (optimum_plan J) optimum_any optimum_earned.1) in
      (a, omega (arith, a, bound_less J weight))

  -- and so does every bound of two weights: the plan's weights are within the capacities of the full demands too
  pub two_above : (first second : ℕ → ℕ) → (optimum J ≤ two_bound J first second) × (optimum J ≤ two_bound (at_full_demand J) first second)
  unfolding figure_two pieces members ordered
  two_above first second =
      let e = optimum_earned in
      let q = capacity (at_full_demand J) first in
      let q' = capacity (at_full_demand J) second in
      let w : weight_of first (optimum_plan J) ≤ q = omega (arith, none_heavier J first h (optimum_plan J) optimum_any e.1, capacity_less J first) in
      let w' : weight_of second (optimum_plan J) ≤ q' = omega (arith, none_heavier J second h (optimum_plan J) optimum_any e.1, capacity_less J second) in
      let a : profit J (optimum_plan J) ≤ two_bound J first second = two_holds J first second (range_solid J h) (optimum_plan J) optimum_any e.1 in
      let b : profit J (optimum_plan J) ≤ two_bound (at_full_demand J) first second = (two_most J first second (range_solid J h) q q').0 (optimum_plan J) e.0 (w, w') in
      (omega (arith, e.2, a), omega (arith, e.2, b))
