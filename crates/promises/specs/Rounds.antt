-- Weights found in rounds: the exact steps of formulas 12 and 13, the weights of each round, when the run stops, and what the call answers and
-- leaves. Round k is a function of the job, the lower figure and k; lent memory decides only whether a round is refused.
-- docs/SCOPE.md: Weights found; The factor from a table.
use Rattle.std.specs.Prelude.{◌≡◌, Bool, true, false, ◌||◌, not, List, [], ◌∷◌, ℕ, zero, suc, ◌+◌, ◌-◌, ◌*◌, ◌/◌, ◌^◌, ◌≤◌, ◌<◌, max, min, leb, ltb, eqb, get_or, replicate, take}
use Rattle.std.proofs.Math.Option.{none}
use Rattle.std.specs.Result.{ForOk}
use Rattle.promises.specs.Prelude.{Choices, WeightsFound}
use Rattle.promises.specs.Lists.{range, sum, only, any, entries, pick_number}
use Rattle.promises.specs.Refusals.{by_check, next, first_refusal, most_kinds, most_weight, most_capacity, most_rounds, Answer, passed, Checked}
use Rattle.promises.specs.Job.{Job, KeepsDemands, copies_of, capacity, profit}
use Rattle.promises.specs.Plan.{tree_in, IdleFree}
use Rattle.promises.specs.Systems.{one_weight, bound_of, bound_plan, NoneAbove, NoneFiner}
use Rattle.promises.specs.Block.{block_job, weight_in}
use Rattle.promises.specs.Check.{plan_verdict}
use Rattle.promises.specs.Call.{Answers, Memory, Arrays, storage_checks, nodes_check, ArraysLeft, Leaves}
use Rattle.promises.specs.Calls.{reads, Accepted, Checks}

-- the factor of a round in sixteenths: 2, halved after every third round; and the table of the factors of the eighteen rounds
abbrev pub factor : ℕ → ℕ
factor k = 32 / 2 ^ (k / 3)

abbrev pub factors : List ℕ
factors = 32 ∷ 32 ∷ 32 ∷ 16 ∷ 16 ∷ 16 ∷ 8 ∷ 8 ∷ 8 ∷ 4 ∷ 4 ∷ 4 ∷ 2 ∷ 2 ∷ 2 ∷ 1 ∷ 1 ∷ 1 ∷ []

-- d: how far copies lie from the demand
abbrev pub distance : ℕ → ℕ → ℕ
distance copies demand = (copies - demand) + (demand - copies)

-- x is the whole part of the square root of p / q
abbrev pub WholeRoot : ℕ → ℕ → ℕ → Type 0
WholeRoot p q x = (x * x * q ≤ p) × (p < (x + 1) * (x + 1) * q)

-- the greatest x up to n whose square is at most p / q
unfoldable pub root_below : ℕ → ℕ → ℕ → ℕ
root_below zero p q = 0
root_below (suc n) p q = pick_number (leb (suc n * suc n * q) p) (suc n) (root_below n p q)

-- the numerator of s over the denominator 16 · squares: s is the greater of 1 and factor · gap / squares
abbrev pub scale : ℕ → ℕ → ℕ → ℕ
scale f gap squares = max (16 * squares) (f * gap)

-- the step: the whole part of the square root of d · s, and 255 where it is above
abbrev pub weight_step : ℕ → ℕ → ℕ → ℕ → ℕ
weight_step f gap squares d = root_below most_weight (d * scale f gap squares) (16 * squares)

-- the weight after a step: added where copies are more than the demand, and else taken off, not below 0; at most 255
abbrev pub stepped : Bool → ℕ → ℕ → ℕ
stepped true weight x = min most_weight (weight + x)
stepped false weight x = weight - x

-- the rules of the steps: the factor is 2 in rounds 0 to 2 and is halved after every third round, and each entry of the table is its round's
-- factor, half of the entry three before it; a step is the whole part of the square root of d · s, and 255 where that is above; where the
-- summed squares are not 0 there is such a root
pub record StepRules : Type 0 where
  pub first : (k : ℕ) → k < 3 → factor k ≡ 32
  pub halved : (k : ℕ) → factor (k + 3) ≡ factor k / 2
  pub tabled : (k : ℕ) → k < most_rounds → get_or factors k 0 ≡ factor k
  pub table_halved : (k : ℕ) → k + 3 < most_rounds → get_or factors (k + 3) 0 ≡ get_or factors k 0 / 2
  pub whole : (f gap squares d x : ℕ) → WholeRoot (d * scale f gap squares) (16 * squares) x → weight_step f gap squares d ≡ min most_weight x
  pub exists : (f gap squares d : ℕ) → 1 ≤ squares → (x : ℕ) × WholeRoot (d * scale f gap squares) (16 * squares) x

-- the copies of kind i in the plan behind the bound
abbrev pub plan_copies : Job → (ℕ → ℕ) → ℕ → ℕ
plan_copies J weight i = copies_of i (bound_plan J weight)

-- the summed squares of all d
unfoldable pub squares : Job → (ℕ → ℕ) → ℕ
squares J copies = sum J.count (λ i. distance (copies i) (J.demand i) * distance (copies i) (J.demand i))

-- the weights of round k, from all weights 0, 0 past the job's kinds; the gap is the round's bound less the lower figure
unfoldable pub weight_at : Job → ℕ → ℕ → ℕ → ℕ
weight_at J lower zero = λ i. 0
weight_at J lower (suc k) =
    let weight = weight_at J lower k in
    λ i. only (ltb i J.count) (stepped (ltb (J.demand i) (plan_copies J weight i)) (weight i)
    (weight_step (factor k) (bound_of J weight - lower) (squares J (plan_copies J weight)) (distance (plan_copies J weight i) (J.demand i))))

-- the bound of round k
abbrev pub bound_at : Job → ℕ → ℕ → ℕ
bound_at J lower k = bound_of J (weight_at J lower k)

-- whether copies keep all demands
unfoldable pub within : Job → (ℕ → ℕ) → Bool
within J copies = not (any (λ i. ltb (J.demand i) (copies i)) (range 0 J.count))

-- whether the run stops after round k: its plan keeps all demands, it is round 17, or the next capacity passes 4,095
abbrev pub stops_after : Job → ℕ → ℕ → Bool
stops_after J lower k = within J (plan_copies J (weight_at J lower k)) || (eqb k 17 || ltb most_capacity (capacity J (weight_at J lower (suc k))))

-- all that a call lends: two lists and a table, and two arrays for the rounds' plans
abbrev pub Lent : Type 0
Lent = Memory × Arrays

-- the verdict of a round with these weights: 19, 20, 21
unfoldable pub round_verdict : Job → (ℕ → ℕ) → Lent → Checked
round_verdict J weight m = next (first_refusal (storage_checks J (one_weight weight J) m.0)) (first_refusal (nodes_check (bound_plan J weight) m.1 ∷ []))

-- whether round k is the last one begun: it is refused, or the run stops after it
unfoldable pub last_here : Job → ℕ → Lent → ℕ → Bool
last_here J lower m k = by_check (round_verdict J (weight_at J lower k) m) false (λ r. true) || stops_after J lower k

-- the first round from k on that is the last one begun, where at most n more follow
unfoldable pub last_from : Job → ℕ → Lent → ℕ → ℕ → ℕ
last_from J lower m zero k = k
last_from J lower m (suc n) k = pick_number (last_here J lower m k) k (last_from J lower m n (k + 1))

-- the last round begun: at most 18 rounds, numbered from 0
abbrev pub last_round : Job → ℕ → Lent → ℕ
last_round J lower m = last_from J lower m 17 0

-- the rounds run: a refused round is not counted
abbrev pub rounds_run : Job → ℕ → Lent → ℕ
rounds_run J lower m = by_check (round_verdict J (weight_at J lower (last_round J lower m)) m) (last_round J lower m + 1) (λ r. last_round J lower m)

-- the round that first gave the least bound of rounds 0 to n
unfoldable pub best_round : Job → ℕ → ℕ → ℕ
best_round J lower zero = 0
best_round J lower (suc n) = pick_number (ltb (bound_at J lower (suc n)) (bound_at J lower (best_round J lower n))) (suc n) (best_round J lower n)

-- an answer: the bound, the rounds run and 64 weights; its values in that order
abbrev pub found_values : WeightsFound → List ℕ
found_values a = a.bound ∷ a.rounds ∷ a.weights

-- the answer of n rounds: the least bound met, n, and the weights that first gave the bound, 0 past the job's kinds
unfoldable pub found : Job → ℕ → ℕ → WeightsFound
found J lower zero = record { bound = 0; rounds = 0; weights = replicate most_kinds 0 }
found J lower (suc n) = record { bound = bound_at J lower (best_round J lower n); rounds = suc n; weights = entries (weight_at J lower (best_round J lower n)) J.count }

-- what the first n rounds leave, each as a writing call of its own would over the last
abbrev pub RoundsLeave : Job → ℕ → ℕ → Lent → Lent → Type 0
RoundsLeave J lower zero old new = new ≡ old
RoundsLeave J lower (suc n) old new = (mid : Lent) × RoundsLeave J lower n old mid
    × (let weight = weight_at J lower n in Leaves passed J (one_weight weight J) mid.0 new.0 × ArraysLeft (round_verdict J weight mid) (bound_plan J weight) mid.1 new.1)

-- what an answer says of the rounds run: it has the bound and the weights of one of them, none of them has a lesser bound, and each earlier
-- one has a greater
pub record LeastMet (J : Job) (lower : ℕ) (a : WeightsFound) : Type 0 where
  pub round : ℕ
  pub met : round < a.rounds
  pub bound_is : a.bound ≡ bound_at J lower round
  pub weights_are : a.weights ≡ entries (weight_at J lower round) J.count
  pub least : (k : ℕ) → k < a.rounds → a.bound ≤ bound_at J lower k
  pub first : (k : ℕ) → k < round → a.bound < bound_at J lower k

-- the rules of the stop: the test of the demands is that the round's plan keeps them all; where it does not, the summed squares are not 0;
-- the last round begun is the first one that is refused or after which the run stops
pub record StopRules (J : Job) (lower : ℕ) (m : Lent) : Type 0 where
  pub kept : (weight : ℕ → ℕ) → within J (plan_copies J weight) ≡ true → KeepsDemands J (bound_plan J weight)
  pub keeps : (weight : ℕ → ℕ) → KeepsDemands J (bound_plan J weight) → within J (plan_copies J weight) ≡ true
  pub some : (weight : ℕ → ℕ) → within J (plan_copies J weight) ≡ false → 1 ≤ squares J (plan_copies J weight)
  pub last : last_here J lower m (last_round J lower m) ≡ true
  pub first : (k : ℕ) → k < last_round J lower m → last_here J lower m k ≡ false

-- what holds of each round run: its gap is a true difference, for the lower figure is at most its bound, and its plan has no idle cut
pub record RoundHolds (J : Job) (lower k : ℕ) : Type 0 where
  pub gap_is : lower + (bound_at J lower k - lower) ≡ bound_at J lower k
  pub idle_free : IdleFree (bound_plan J (weight_at J lower k))

-- Finding weights: 1 to 7, 27 and 35, 10 to 18, 36 and 26 of the lent plan, whose profit is the lower figure, then 19, 20 and 21 of round 0, which
-- refuse the call; later they end it. All rounds begun leave memory, also a last one that is refused; nothing is changed where a check before
-- them refuses. The answered weights are accepted, and give the answered bound again; no tree that keeps every demand earns more
pub record FindPromises (s : List ℕ) (choices : Choices) (plan : Arrays) (old new : Lent) (r : Answer WeightsFound) : Type 0 where
  pub answers : (let J = block_job s choices in let lower = profit J (tree_in plan.0 plan.1) in
      Answers found_values (next (next (reads none s choices) (plan_verdict J none plan.0 plan.1)) (round_verdict J (weight_at J lower 0) old)) (found J lower (rounds_run J lower old)) r)
  pub memory : (let J = block_job s choices in let lower = profit J (tree_in plan.0 plan.1) in
      by_check (next (reads none s choices) (plan_verdict J none plan.0 plan.1)) (RoundsLeave J lower (suc (last_round J lower old)) old new) (λ x. new ≡ old))
  pub judged : Checks (reads none s choices) (block_job s choices) none plan.0 plan.1
  pub least : ForOk r (LeastMet (block_job s choices) (profit (block_job s choices) (tree_in plan.0 plan.1)))
  pub again : ForOk r (λ a. let J = block_job s choices in Accepted s choices (take J.count a.weights) × (a.bound ≡ bound_of J (weight_in (take J.count a.weights))))
  pub rounds : ForOk r (λ a. a.rounds ≤ most_rounds)
  pub each : ForOk r (λ a. (k : ℕ) → k < a.rounds → RoundHolds (block_job s choices) (profit (block_job s choices) (tree_in plan.0 plan.1)) k)
  pub demands : ForOk r (λ a. NoneAbove (block_job s choices) none a.bound × NoneFiner (block_job s choices) none a.bound)
  pub steps : StepRules
  pub stop : StopRules (block_job s choices) (profit (block_job s choices) (tree_in plan.0 plan.1)) old
