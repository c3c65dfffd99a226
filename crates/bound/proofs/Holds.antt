-- What stands behind a bound that was answered: the bound of a job in range is exact.
use Rattle.bound.proofs.Prelude.{refl, ℕ, Job, InRange, capacity, bound_of, range_solid, none_finer, within_finer, capacity_less, bound_ceiling, bound_less, bound_exact, none_above, none_heavier, plate_holds, BoundHolds}

-- the bound of a job in range holds at its capacity
pub bound_held : (J : Job) (weight : ℕ → ℕ) → InRange J → BoundHolds J weight (capacity J weight) (bound_of J weight)
bound_held J weight h = record {
  most = bound_exact J weight h;
  most_finer = within_finer J (range_solid J h) weight (capacity J weight) (bound_of J weight) (bound_exact J weight h);
  demands = none_above J weight h;
  finer = none_finer J (range_solid J h) (bound_of J weight) (none_above J weight h);
  weighs = none_heavier J weight h;
  ceiling = bound_ceiling J weight h;
  figure = refl;
  capacity_is = refl;
  held = plate_holds J h;
  full_capacity = capacity_less J weight;
  full_demand = bound_less J weight;
}
