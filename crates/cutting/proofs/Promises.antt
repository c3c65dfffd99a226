-- The sentences of the scope hold: the recursion and the normal positions of every job, the others of a job in range.
use Rattle.cutting.proofs.Prelude.{ℕ, suc, arith, side, range, Job, InRange, widened, capacity, by_kind, bound_of, normal_positions, normal_side, NoneAbove, PlateHolds, NoneHeavier, MostWithin, FiguresMost, Recursion, NormalSums, FloorFigures, PlanFollows}
use Rattle.cutting.proofs.Lists.{range_mem, mem_range, filter_mem, mem_filter}
use Rattle.cutting.proofs.Weights.{by_weight_monotone}
use Rattle.cutting.proofs.Members.{range_solid, widened_solid}
use Rattle.cutting.proofs.Job.{figure_recursion}
use Rattle.cutting.proofs.AnyKinds.{ordered_on, none_any}
use Rattle.cutting.proofs.Bound.{copies_plate, figure_most, bound_most, demands_weight, bound_holds}
use Rattle.cutting.proofs.Table.{normal_sums, figure_floor}
use Rattle.cutting.proofs.Plan.{plan_recursion}

pub plate_holds : (J : Job) → InRange J → PlateHolds J
plate_holds J h t g i known = copies_plate J (range_solid J h) i known t g

pub normal_listed : (J : Job) → NormalSums J
unfolding normal_positions
normal_listed J d n = (
  (λ m. (let f = mem_filter (normal_side J d) (range 0 (suc (side d J.plate))) m in
      let k = mem_range 0 (suc (side d J.plate)) n f.0 in (omega arith, (normal_sums J d n).0 f.1))),
  (λ h. filter_mem (normal_side J d) (range 0 (suc (side d J.plate))) (range_mem 0 (suc (side d J.plate)) n (omega arith) (omega (arith, h.0))) ((normal_sums J d n).1 h.1)),
)

module _ (J : Job) (weight : ℕ → ℕ) where
  pub recursion : Recursion J weight
  recursion = figure_recursion J weight

  module _ (h : InRange J) where
    -- the bound is the most within the capacity
    pub bound_exact : MostWithin J weight (capacity J weight) (bound_of J weight)
    bound_exact = bound_most J weight (range_solid J h)

    -- and no tree within the demands earns more
    pub none_above : NoneAbove J (bound_of J weight)
    none_above = none_any J (bound_of J weight) (bound_holds J weight (range_solid J h))

    -- those weigh at most the capacity
    pub none_heavier : NoneHeavier J weight (capacity J weight)
    none_heavier t g k = demands_weight J weight (range_solid J h) t (ordered_on J t g k) k

    -- every figure is the most of its rectangle and share
    pub figures_most : FiguresMost J weight
    figures_most = figure_most J weight (range_solid J h)

    pub floor_figures : FloorFigures (widened J) weight
    floor_figures l w c on_length on_width = figure_floor (widened J) weight (widened_solid J (range_solid J h)) l w c on_length on_width

    pub plan_follows : PlanFollows J (by_kind weight)
    plan_follows l w c on_length on_width = plan_recursion J (by_kind weight) (by_weight_monotone _) (range_solid J h) l w c on_length on_width
