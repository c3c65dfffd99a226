-- What a bound is, for each of the four systems: the inner records give the one of the promises.
use Rattle.planner.proofs.Prelude.{◌≡◌, refl, sym, ◌∙◌, ap₂, ℕ, max, arith, Direction, Length, Width, kind, saw, staged, Job, InRange, widened, at_full_demand, finer, capacity, ordered, members, pieces, by_kind, figure_of, SolidKinds, block, staged_bound, figure_two, two_bound, within_weight, weight_within, by_weight_monotone, paired_within, within_paired, paired_monotone, staged_monotone, staged_within, within_staged, block_figure, stages_paths, plain_guillotine, demands_weight, bound_ceiling, any_on, ordered_on, BoundHolds, TwoHolds, StagedHolds, OptimumHolds, copies_monotone, copies_within, within_copies, figure, one_weight, two_weights, remaining_copies, within_stages, bound_in, bound_of, Holds}
use Rattle.cutting.specs.Job as old
use Rattle.cutting.specs.Exact as exact
use Rattle.planner.proofs.Figures.{figure_is, Sound}
use Rattle.planner.proofs.Paths.{below_paths}

-- the trees within a share of each system
pub one_sound : (J : Job) (weight : ℕ → ℕ) → Sound J (one_weight weight J)
one_sound J weight = record {
  monotone = by_weight_monotone _;
  enter = λ t l w s u g a. weight_within (λ p. weight (kind p)) t s a;
  leave = λ t l w s u g a. within_weight (λ p. weight (kind p)) t s a;
}

pub two_sound : (J : Job) (first second : ℕ → ℕ) → Sound J (two_weights first second J)
two_sound J first second = record {
  monotone = paired_monotone _ _ (by_weight_monotone _) (by_weight_monotone _);
  enter = λ t l w s u g a. within_paired (by_kind first) (by_kind second) t s (weight_within (λ p. first (kind p)) t s.0 a.0) (weight_within (λ p. second (kind p)) t s.1 a.1);
  leave = λ t l w s u g a. (let v = paired_within (by_kind first) (by_kind second) t s a in (within_weight (λ p. first (kind p)) t s.0 v.0, within_weight (λ p. second (kind p)) t s.1 v.1));
}

pub staged_sound : (J : Job) (weight : ℕ → ℕ) (n : ℕ) → Sound J (within_stages weight n J)
staged_sound J weight n = record {
  monotone = staged_monotone (by_kind weight) (by_weight_monotone _);
  enter = λ t l w s u g a. within_staged (by_kind weight) t s.0 s.1 s.2 (rw (below_paths t s.0) a.0) (weight_within (λ p. weight (kind p)) t s.2 a.1);
  leave = λ t l w s u g a. (let v = staged_within (by_kind weight) t s.0 s.1 s.2 a in (rw⁻¹ (below_paths t s.0) v.0, within_weight (λ p. weight (kind p)) t s.2 v.1));
}

pub copies_sound : (J : Job) → InRange J → Sound J (remaining_copies J)
unfolding pieces members ordered
copies_sound J h = record {
  monotone = copies_monotone J h.kinds.0;
  enter = λ t l w s u g a. copies_within J h.kinds.0 t (saw J.kerf) (l, w) (plain_guillotine J t (l, w) g) s u a;
  leave = λ t l w s u g a. within_copies J h.kinds.0 t (saw J.kerf) (l, w) (plain_guillotine J t (l, w) g) s u a;
}

-- the bounds are the inner ones
pub bound_is : (J : Job) (weight : ℕ → ℕ) → bound_of J weight ≡ old.bound_of J weight
unfolding figure_of
bound_is J weight = figure_is (widened J) (by_kind weight) (widened J).plate.0 (widened J).plate.1 (capacity J weight)

pub two_is : (J : Job) (first second : ℕ → ℕ) → bound_in J (two_weights first second J) ≡ two_bound J first second
unfolding figure_two
two_is J first second = figure_is (widened J) (two_weights first second J).shares (widened J).plate.0 (widened J).plate.1 (capacity J first, capacity J second)

pub staged_is : (J : Job) (weight : ℕ → ℕ) (n : ℕ) → bound_in J (within_stages weight n J) ≡ staged_bound J weight n
staged_is J weight n = ap₂ max (one Length) (one Width)
  where
    one : (d : Direction) → figure (widened J) (staged (by_kind weight)) (widened J).plate.0 (widened J).plate.1 (d, n, capacity J weight) ≡ block (widened J) weight n d (widened J).plate.0 (widened J).plate.1 (capacity J weight)
    one d = figure_is (widened J) (staged (by_kind weight)) (widened J).plate.0 (widened J).plate.1 (d, n, capacity J weight) ∙ sym (block_figure (widened J) weight n d (widened J).plate.0 (widened J).plate.1 (capacity J weight))

pub optimum_is : (J : Job) → bound_in J (remaining_copies J) ≡ exact.optimum J
unfolding exact.exact_figure
optimum_is J = figure_is (widened J) (exact.by_copies J) (widened J).plate.0 (widened J).plate.1 (exact.full_state J)

module _ (J : Job) where
  pub one_held : (weight : ℕ → ℕ) → BoundHolds J weight (capacity J weight) (old.bound_of J weight) → Holds J (one_weight weight) (bound_of J weight)
  one_held weight b = record {
    most = rw (bound_is J weight) b.most;
    most_finer = λ m p t g a. rw (bound_is J weight) (b.most_finer m p t g a);
    demands = λ t g u k. rw (bound_is J weight) (b.demands t g k);
    finer = λ m p t g u k. rw (bound_is J weight) (b.finer m p t g k);
    within = λ t g u k. b.weighs t g k;
    ceiling = rw (bound_is J weight) b.ceiling;
    figure = refl;
    full_demand = rw (bound_is J weight) (rw (bound_is (at_full_demand J) weight) b.full_demand);
  }

  pub two_held : (first second : ℕ → ℕ) → SolidKinds J → TwoHolds J first second (capacity J first) (capacity J second) (two_bound J first second) → Holds J (two_weights first second) (bound_in J (two_weights first second J))
  two_held first second solid b = record {
    most = rw (two_is J first second) b.most;
    most_finer = λ m p t g a. rw (two_is J first second) (b.most_finer m p t g a);
    demands = λ t g u k. rw (two_is J first second) (b.demands t g k);
    finer = λ m p t g u k. rw (two_is J first second) (b.finer m p t g k);
    within = λ t g u k. (demands_weight J first solid t (ordered_on J t g k) k, demands_weight J second solid t (ordered_on J t g k) k);
    ceiling = rw (two_is J first second) b.ceiling;
    figure = refl;
    full_demand = rw (two_is J first second) (rw (two_is (at_full_demand J) first second) b.full_demand);
  }

  pub staged_held : (weight : ℕ → ℕ) (n : ℕ) → SolidKinds J → StagedHolds J weight n (capacity J weight) (staged_bound J weight n) → Holds J (within_stages weight n) (bound_in J (within_stages weight n J))
  staged_held weight n solid b = record {
    most = rw (staged_is J weight n) ((λ t g a. b.most.0 t (g, rw (stages_paths t) a.0) a.1), (let e = b.most.1 in (e.0, (e.1.0, (rw⁻¹ (stages_paths e.0) e.1.1, e.2), e.3))));
    most_finer = λ m p t g a. rw (staged_is J weight n) (b.most_finer m p t g (rw (stages_paths t) a.0, a.1));
    demands = λ t g u k. rw (staged_is J weight n) (b.demands t g (rw (stages_paths t) u) k);
    finer = λ m p t g u k. rw (staged_is J weight n) (b.finer m p t g (rw (stages_paths t) u) k);
    within = λ t g u k. (u, demands_weight J weight solid t (ordered_on J t g k) k);
    ceiling = rw (staged_is J weight n) b.ceiling;
    figure = refl;
    full_demand = rw (staged_is J weight n) (rw (staged_is (at_full_demand J) weight n) b.full_demand);
  }

  same_optimum : exact.optimum (at_full_demand J) ≡ exact.optimum J
  unfolding exact.exact_figure pieces members ordered
  same_optimum = refl

  pub optimum_held : InRange J → OptimumHolds J (exact.optimum J) → Holds J remaining_copies (bound_in J (remaining_copies J))
  optimum_held h b = record {
    most = rw (optimum_is J) ((λ t g k. b.most.0 t (any_on J t g) k), b.most.1);
    most_finer = λ m p t g k. rw (optimum_is J) (b.finer m p t (any_on (finer m J) t g) k);
    demands = λ t g u k. rw (optimum_is J) (b.most.0 t g k);
    finer = λ m p t g u k. rw (optimum_is J) (b.finer m p t g k);
    within = λ t g u k. k;
    ceiling = rw (optimum_is J) (omega (arith, (b.bounds (λ i. 0)).0, bound_ceiling J (λ i. 0) h));
    figure = refl;
    full_demand = rw (optimum_is J) (rw (optimum_is (at_full_demand J)) (omega (arith, same_optimum)));
  }
