-- What the call promises, from the verdicts of job and weights and from the bound of an accepted job.
use Rattle.two_bound.proofs.Prelude.{◌≡◌, refl, sym, ◌∙◌, ap, ap₂, subst, List, ℕ, ◌≤◌, arith, length, Sides, rect_of, sides_of, Job, SolidKinds, InRange, widened, capacity, at_full_demand, ordered, members, pieces, figure_two, two_bound, TwoFiguresMost, listed_weight, pieces_job, PieceArray, range_solid, widened_solid, none_finer, two_finer, capacity_less, two_recursion, two_floor, two_figures, two_most, two_holds, two_ceiling, normal_listed, first_refusal, Refusal, Choices, JobRecord, job_checks, record_of, read_of, job_of, block_job, weight_in, first_append, append_passed, passed_append, passed_both, answered, refused, read_in_range, pair_count, figure_pair, pair_state, Memory, wide_job, block_capacity, pieces_range, two_checks, two_storage_checks, answer_by, weighed_two, Capacities, TwoLeaves, weighed_verdict, BothAccepted, two_verdict, block_figure, two_block_report, two_answer, two_values, two_outcome, TwoHolds, TwoPromises, Statable, Stated, Pairable, Paired, TwoReport, Ok, Err, Answer}
use Rattle.refusal.proofs.Results.{before_refuses, before_passes, refused_answer, said_by, value_answered, refusal_answered}
use Rattle.std.specs.Result.{IsErrAnd}
use Rattle.two_bound.proofs.Weights.{Weighs, both_passed}
use Rattle.two_bound.proofs.States.{statable, stated_array}
use Rattle.two_bound.proofs.Listed.{pieces_paired}
use Rattle.two_bound.proofs.One.{one_answer, one_memory}

-- the bound of the full demands is no less: its figures are the same, and its capacities are no less
module _ (J : Job) (first second : ℕ → ℕ) where
  same_figure : (l w c c' : ℕ) → figure_two (widened (at_full_demand J)) first second l w c c' ≡ figure_two (widened J) first second l w c c'
  unfolding figure_two pieces members ordered
  same_figure l w c c' = refl

  two_full : SolidKinds J → two_bound J first second ≤ two_bound (at_full_demand J) first second
  two_full solid =
      let q = capacity (at_full_demand J) first in
      let q' = capacity (at_full_demand J) second in
      let e = (two_most J first second solid (capacity J first) (capacity J second)).1 in
      omega (
        arith,
        e.1.2,
        (two_most J first second solid q q').0 e.0 e.1.0 (omega (arith, e.1.1.0, capacity_less J first), omega (arith, e.1.1.1, capacity_less J second)),
        same_figure (widened J).plate.0 (widened J).plate.1 q q',
      )

-- the bound of a job in range holds at its capacities
two_held : (J : Job) (first second : ℕ → ℕ) → InRange J → TwoHolds J first second (capacity J first) (capacity J second) (two_bound J first second)
two_held J first second h = record {
  most = two_most J first second (range_solid J h) (capacity J first) (capacity J second);
  most_finer = two_finer J (range_solid J h) first second (capacity J first) (capacity J second) (two_bound J first second) (two_most J first second (range_solid J h) (capacity J first) (capacity J second));
  demands = two_holds J first second (range_solid J h);
  finer = none_finer J (range_solid J h) (two_bound J first second) (two_holds J first second (range_solid J h));
  ceiling = two_ceiling J first second h;
  figure = refl;
  first_is = refl;
  second_is = refl;
  full_demand = two_full J first second (range_solid J h);
}

module _ (s : List ℕ) (choices : Choices) (first second : List ℕ) where
  -- the job of an accepted block is in the scope's ranges
  in_range : BothAccepted s choices first second → InRange (block_job s choices)
  in_range a = read_in_range s choices (append_passed (job_checks s choices) (two_checks (block_job s choices) first second) a).0

  -- so every figure is the most that a tree within both shares earns
  pub figures_held : BothAccepted s choices first second → TwoFiguresMost (block_job s choices) (weight_in first) (weight_in second)
  figures_held a = two_figures (block_job s choices) (weight_in first) (weight_in second) (range_solid (block_job s choices) (in_range a))

  -- the job is refused, or its weights are
  pub job_refused : {a : Answer JobRecord} {x : Refusal} → a ≡ read_of s choices → a ≡ Err x → weighed_verdict s choices first second ≡ Err x
  job_refused e p = first_append (job_checks s choices) (two_checks (block_job s choices) first second) ∙ before_refuses _ _ (refused s choices e p)

  pub weights_refused : {a : Answer JobRecord} {j : JobRecord} {w : Answer Capacities} {x : Refusal} → a ≡ read_of s choices → a ≡ Ok j → w ≡ weighed_two (job_of j) first second → w ≡ Err x
      → weighed_verdict s choices first second ≡ Err x
  weights_refused e p f g =
      let j = answered s choices e p in
      first_append (job_checks s choices) (two_checks (block_job s choices) first second) ∙ before_passes _ _ j.0
      ∙ ap (λ j. first_refusal (two_checks (job_of j) first second)) (sym j.1) ∙ refusal_answered _ _ (sym f ∙ g)

  module _ (old : Memory) where
    -- the answer and the memory give the rest
    promised : {new : Memory} (r : Answer TwoReport) → r ≡ two_answer s choices first second old
        → TwoLeaves (weighed_verdict s choices first second) (wide_job s choices) (block_figure s choices first second) (block_capacity s choices first) (block_capacity s choices second) old new
        → TwoPromises s choices first second old new r
    promised {new} r e l = record {
      answers = e;
      outcome = ap (λ x. two_outcome x) e ∙ said_by two_values (two_verdict s choices first second old) (two_block_report s choices first second);
      memory = l;
      exact = λ b f. held b (sym e ∙ f);
      recursion = two_recursion (wide_job s choices) (weight_in first) (weight_in second);
      normal = normal_listed (wide_job s choices);
      accepted = λ a. two_held (block_job s choices) (weight_in first) (weight_in second) (in_range a);
      figures = figures_held;
      floor = λ a. two_floor (wide_job s choices) (weight_in first) (weight_in second) (widened_solid (block_job s choices) (range_solid (block_job s choices) (in_range a)));
      one = λ same none. (e ∙ one_answer first second same none s choices old, one_memory first second same none s choices old new l);
    }
      where
        held : (b : TwoReport) → two_answer s choices first second old ≡ Ok b → TwoHolds (block_job s choices) (weight_in first) (weight_in second) b.first_capacity b.second_capacity b.bound
        held b f =
            let w = value_answered _ _ f in
            let v = passed_both (weighed_verdict s choices first second) (first_refusal (two_storage_checks (wide_job s choices) (block_capacity s choices first) (block_capacity s choices second) old)) w.0 in
            rw w.1 (two_held (block_job s choices) (weight_in first) (weight_in second) (in_range v.0))

    -- a refusal before the storage checks changes nothing
    pub early : {x : Refusal} {r : Answer TwoReport} → weighed_verdict s choices first second ≡ Err x → IsErrAnd r (λ y. y ≡ x) → TwoPromises s choices first second old old r
    early {r = r} v p = promised r (refused_answer _ _ _ (before_refuses _ _ v) p) (rw v (record { lengths = refl; widths = refl; table = refl }))

    -- job and weights are accepted
    pub accepted : BothAccepted s choices first second → {new : Memory} (r : Answer TwoReport)
        → Paired (wide_job s choices) (block_figure s choices first second) (block_capacity s choices first) (block_capacity s choices second) old new r → TwoPromises s choices first second old new r
    accepted v {new} r b =
        promised r (b.answer ∙ sym (ap (λ v. answer_by v (two_block_report s choices first second)) (before_passes _ _ v))) (rw v b.memory)

-- a job and capacities that were taken from a block and two weights a kind which are accepted
pub record TwoTaken (s : List ℕ) (choices : Choices) (first second : List ℕ) (j : JobRecord) (q q' : ℕ) : Type 0 where
  pub accepted_is : BothAccepted s choices first second
  pub record_is : j ≡ record_of s choices
  pub first_is : q ≡ capacity (job_of j) (weight_in first)
  pub second_is : q' ≡ capacity (job_of j) (weight_in second)
  pub range : InRange (job_of j)
  pub weighs : Weighs (job_of j) first second

-- the job that was read is in range
pub range_read : (s : List ℕ) (choices : Choices) {a : Answer JobRecord} {j : JobRecord} → a ≡ read_of s choices → a ≡ Ok j → InRange (job_of j)
range_read s choices e p = let k = answered s choices e p in rw k.1 (read_in_range s choices k.0)

pub two_taken : (s : List ℕ) (choices : Choices) (first second : List ℕ) {a : Answer JobRecord} {j : JobRecord} {w : Answer Capacities} {m : Capacities} → a ≡ read_of s choices → a ≡ Ok j
    → w ≡ weighed_two (job_of j) first second → w ≡ Ok m → TwoTaken s choices first second j m.first m.second
two_taken s choices first second {j = j} e p f g =
    let k = answered s choices e p in
    let w = value_answered _ _ (sym f ∙ g) in
    record {
      accepted_is = passed_append (job_checks s choices) (two_checks (block_job s choices) first second) k.0 (ap (λ j. first_refusal (two_checks (job_of j) first second)) (sym k.1) ∙ w.0);
      record_is = k.1;
      first_is = ap (λ m. m.first) w.1;
      second_is = ap (λ m. m.second) w.1;
      range = range_read s choices e p;
      weighs = both_passed (job_of j) first second w.0;
    }

-- what the steps ask, and what the bound of the pieces says of the job's block
module _ (s : List ℕ) (choices : Choices) (first second : List ℕ) {j : JobRecord} {q q' : ℕ} (t : TwoTaken s choices first second j q q') where
  pub weights_there : j.count ≤ length first
  weights_there = omega (arith, t.weighs.first_all)

  few_pairs : pair_count q q' ≤ 65536
  few_pairs = omega (arith, t.weighs.pairs, ap₂ pair_count t.first_is t.second_is)

  module _ {count : ℕ} {old : List ℕ} (array : PieceArray (widened (job_of j)) (weight_in first) count old) where
    pub states_ready : Statable old count first second q q'
    states_ready = statable (widened (job_of j)) count old array (pieces_range (job_of j) (weight_in first) count old array t.range).kinds t.weighs.first_all t.weighs.second_all few_pairs

    module _ {new : List ℕ} (stated : Stated count (weight_in first) (weight_in second) q q' old new) where
      -- the array with the states
      abbrev own : ℕ → ℕ
      own = pair_state q q' (weight_in first) (weight_in second)

      numbered : PieceArray (widened (job_of j)) own count new
      numbered = stated_array (widened (job_of j)) count old array (weight_in first) (weight_in second) q q' new stated

      pub pairable : {plate : Sides} {floors : List ℕ} → plate ≡ sides_of (widened (job_of j)).plate → length floors ≡ 2042 → Pairable (pieces_job (rect_of plate) count new) q q' floors
      pairable {plate} {floors} e h =
          let b : Pairable (pieces_job (widened (job_of j)).plate count new) q q' floors =
          record { in_range = pieces_range (job_of j) own count new numbered t.range; most = omega (arith, t.weighs.few, t.first_is); pairs = few_pairs; floors_there = h } in
          subst (λ p. Pairable (pieces_job (rect_of p) count new) q q' floors) (sym e) b

      pub job_paired : {plate : Sides} {m m' : Memory} {r : Answer TwoReport} → plate ≡ sides_of (widened (job_of j)).plate
          → Paired (pieces_job (rect_of plate) count new) (figure_pair (pieces_job (rect_of plate) count new) q q' (listed_weight new)) q q' m m' r
          → Paired (wide_job s choices) (block_figure s choices first second) (block_capacity s choices first) (block_capacity s choices second) m m' r
      job_paired {plate} {m} {m'} {r} e b =
          let W = widened (job_of j) in
          let F = figure_two W (weight_in first) (weight_in second) in
          let c = pieces_paired W (weight_in first) (weight_in second) q q' count new numbered m m' r
          (subst (λ p. Paired (pieces_job (rect_of p) count new) (figure_pair (pieces_job (rect_of p) count new) q q' (listed_weight new)) q q' m m' r) e b) in
          let d : Paired W F (capacity (job_of j) (weight_in first)) q' m m' r = subst (λ q. Paired W F q q' m m' r) t.first_is c in
          let f : Paired W F (capacity (job_of j) (weight_in first)) (capacity (job_of j) (weight_in second)) m m' r = subst (λ q'. Paired W F (capacity (job_of j) (weight_in first)) q' m m' r) t.second_is d in
          subst (λ j. Paired (widened (job_of j)) (figure_two (widened (job_of j)) (weight_in first) (weight_in second)) (capacity (job_of j) (weight_in first)) (capacity (job_of j) (weight_in second)) m m' r) t.record_is f
