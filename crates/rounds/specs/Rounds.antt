-- The weight rounds: the weights of each round, when the run stops, what the call answers, and what it leaves in lent memory. Round k is a
-- function of the job, the lower figure and k; lent memory decides only whether a round is refused.
-- docs/SCOPE.md: Weights found.
use Rattle.std.specs.Prelude.{◌≡◌, Bool, true, false, ◌||◌, List, ℕ, zero, suc, ◌+◌, ◌-◌, ◌≤◌, ◌<◌, ltb, eqb, replicate, take}
use Rattle.std.specs.Result.{ForOk}
use Rattle.cutting.specs.Limits.{most_kinds, most_capacity}
use Rattle.cutting.specs.Lists.{only}
use Rattle.cutting.specs.Tree.{IdleFree}
use Rattle.cutting.specs.Preorder.{kinds_of, operands_of}
use Rattle.cutting.specs.Job.{Job, KeepsDemands, profit, copies_of, widened, capacity, bound_of, bound_plan}
use Rattle.cutting.specs.Promises.{NoneAbove, NoneFiner}
use Rattle.refusal.specs.Refusals.{Answer, Checked, passed, Outcome, next, first_refusal, by_check, answer_by, verdict_of, outcome_by, outcome_of}
use Rattle.promises.specs.declared.Choices.{Choices}
use Rattle.job.specs.Block.{entries}
use Rattle.job.specs.Weights.{block_job, weight_in, Accepted}
use Rattle.plan.specs.Calls.{arrays_answer}
use Rattle.plan.specs.Trees.{tree_in}
use Rattle.bound.specs.Bound.{Memory, lent, Leaves, memory_checks, list_after}
use Rattle.writer.specs.Write.{nodes_verdict}
use Rattle.weight_steps.specs.Step.{most_rounds, final_round, factor, pick_number, adjusted, StepRules}
use Rattle.promises.specs.declared.WeightsFound.{WeightsFound}
pub use Rattle.promises.specs.Rounds.{found_values}
unfoldable pub use Rattle.promises.specs.Rounds.{squares, within}

-- the copies of kind i in the plan behind the bound
abbrev pub plan_copies : Job → (ℕ → ℕ) → ℕ → ℕ
plan_copies J weight i = copies_of i (bound_plan J weight)

-- the gap: the round's bound less the lower figure
abbrev pub gap : Job → ℕ → (ℕ → ℕ) → ℕ
gap J lower weight = bound_of J weight - lower

-- the weights after round k, 0 past the job's kinds
unfoldable pub next_weight : Job → ℕ → ℕ → (ℕ → ℕ) → ℕ → ℕ
next_weight J lower k weight i = only (ltb i J.count) (adjusted (factor k) (gap J lower weight) (squares J (plan_copies J weight)) (weight i) (plan_copies J weight i) (J.demand i))

-- the weights of round k, from all weights 0
unfoldable pub weight_at : Job → ℕ → ℕ → ℕ → ℕ
weight_at J lower zero = λ i. 0
weight_at J lower (suc k) = next_weight J lower k (weight_at J lower k)

-- the bound of round k
abbrev pub bound_at : Job → ℕ → ℕ → ℕ
bound_at J lower k = bound_of J (weight_at J lower k)

-- whether the run stops after round k: its plan keeps all demands, it is round 17, or the next capacity passes 4,095
abbrev pub stops_after : Job → ℕ → ℕ → Bool
stops_after J lower k = within J (plan_copies J (weight_at J lower k)) || (eqb k final_round || ltb most_capacity (capacity J (weight_at J lower (suc k))))

-- all that a call lends: two lists, a table and two arrays for the rounds' plans
pub record Lent : Type 0 where
  pub memory : Memory
  pub kinds : List ℕ
  pub operands : List ℕ

-- lent memory of two lists, a table and two plan arrays
abbrev pub lent_all : (lengths widths table kinds operands : List ℕ) → Lent
lent_all lengths widths table kinds operands = record { memory = lent lengths widths table; kinds = kinds; operands = operands }

-- the verdict of a round with these weights: 19, 20, 21
unfoldable pub round_verdict : Job → (ℕ → ℕ) → Lent → Checked
round_verdict J weight m = next (first_refusal (memory_checks (widened J) (capacity J weight) m.memory)) (nodes_verdict (bound_plan J weight) m.kinds m.operands)

-- whether a verdict is a refusal
abbrev pub refuses : Checked → Bool
refuses v = by_check v false (λ r. true)

-- whether round k is the last one begun: it is refused, or the run stops after it
unfoldable pub last_here : Job → ℕ → Lent → ℕ → Bool
last_here J lower m k = refuses (round_verdict J (weight_at J lower k) m) || stops_after J lower k

-- the first round from k on that is the last one begun, where at most n more follow
unfoldable pub last_from : Job → ℕ → Lent → ℕ → ℕ → ℕ
last_from J lower m zero k = k
last_from J lower m (suc n) k = pick_number (last_here J lower m k) k (last_from J lower m n (k + 1))

-- the last round begun: at most 18 rounds, numbered from 0
abbrev pub last_round : Job → ℕ → Lent → ℕ
last_round J lower m = last_from J lower m final_round 0

-- the rounds run up to round k, by its verdict: a refused round is not counted
abbrev pub rounds_by : Checked → ℕ → ℕ
rounds_by v k = by_check v (k + 1) (λ r. k)

-- the rounds run
abbrev pub rounds_run : Job → ℕ → Lent → ℕ
rounds_run J lower m = rounds_by (round_verdict J (weight_at J lower (last_round J lower m)) m) (last_round J lower m)

-- the round that first gave the least bound of rounds 0 to n
unfoldable pub best_round : Job → ℕ → ℕ → ℕ
best_round J lower zero = 0
best_round J lower (suc n) = pick_number (ltb (bound_at J lower (suc n)) (bound_at J lower (best_round J lower n))) (suc n) (best_round J lower n)

-- the answer of n rounds: the least bound met, n, and the weights that first gave the bound, 0 past the job's kinds
unfoldable pub found : Job → ℕ → ℕ → WeightsFound
found J lower zero = record { bound = 0; rounds = 0; weights = replicate most_kinds 0 }
found J lower (suc n) = record { bound = bound_at J lower (best_round J lower n); rounds = suc n; weights = entries (weight_at J lower (best_round J lower n)) J.count }

-- the answer of the run: refusals of round 0 refuse the call, later ones end it
abbrev pub run_answer : Job → ℕ → Lent → Answer WeightsFound
run_answer J lower m = answer_by (round_verdict J (weight_at J lower 0) m) (found J lower (rounds_run J lower m))

-- the verdict of the checks before the rounds: the job's, 1 to 7, 27 and 35, and the lent plan's, 10 to 18, 36 and 26
abbrev pub before_verdict : List ℕ → Choices → List ℕ → List ℕ → Checked
before_verdict s choices kinds operands = verdict_of (arrays_answer s choices kinds operands)

-- the lower figure: the profit of the lent plan, that of the tree that its arrays draw
abbrev pub lower_figure : List ℕ → Choices → List ℕ → List ℕ → ℕ
lower_figure s choices kinds operands = profit (block_job s choices) (tree_in kinds operands)

-- the verdict of the call: those, then 19, 20 and 21 of round 0
abbrev pub find_verdict : List ℕ → Choices → List ℕ → List ℕ → Lent → Checked
find_verdict s choices kinds operands m = next (before_verdict s choices kinds operands) (round_verdict (block_job s choices) (weight_at (block_job s choices) (lower_figure s choices kinds operands) 0) m)

-- what its rounds found
abbrev pub find_found : List ℕ → Choices → List ℕ → List ℕ → Lent → WeightsFound
find_found s choices kinds operands m =
    found (block_job s choices) (lower_figure s choices kinds operands) (rounds_run (block_job s choices) (lower_figure s choices kinds operands) m)

-- what the call answers
abbrev pub find_answer : List ℕ → Choices → List ℕ → List ℕ → Lent → Answer WeightsFound
find_answer s choices kinds operands m = answer_by (find_verdict s choices kinds operands m) (find_found s choices kinds operands m)

-- an answer's number and values: the bound, the rounds run and the weights of 64 kinds
abbrev pub found_outcome : Answer WeightsFound → Outcome
found_outcome r = outcome_of found_values r

-- the number and values that the call answers
abbrev pub find_said : List ℕ → Choices → List ℕ → List ℕ → Lent → Outcome
find_said s choices kinds operands m = outcome_by (find_verdict s choices kinds operands m) (found_values (find_found s choices kinds operands m))

-- what a round with these weights leaves in lent memory: what a writing call of its own would
pub record RoundLeaves (J : Job) (weight : ℕ → ℕ) (old new : Lent) : Type 0 where
  pub memory : Leaves passed (widened J) weight (capacity J weight) old.memory new.memory
  pub kinds : new.kinds ≡ list_after (round_verdict J weight old) (kinds_of (bound_plan J weight)) old.kinds
  pub operands : new.operands ≡ list_after (round_verdict J weight old) (operands_of (bound_plan J weight)) old.operands

-- what the first n rounds leave, each over the last
abbrev pub RoundsLeave : Job → ℕ → ℕ → Lent → Lent → Type 0
RoundsLeave J lower zero old new = new ≡ old
RoundsLeave J lower (suc n) old new = (mid : Lent) × RoundsLeave J lower n old mid × RoundLeaves J (weight_at J lower n) mid new

-- what the run leaves: what all rounds begun do, also a last one that is refused
abbrev pub RunLeaves : Job → ℕ → Lent → Lent → Type 0
RunLeaves J lower old new = RoundsLeave J lower (suc (last_round J lower old)) old new

-- what the call leaves: nothing is changed where a check before the rounds refuses
abbrev pub FindLeaves : List ℕ → Choices → List ℕ → List ℕ → Lent → Lent → Type 0
FindLeaves s choices kinds operands old new = by_check (before_verdict s choices kinds operands) (RunLeaves (block_job s choices) (lower_figure s choices kinds operands) old new) (λ r. new ≡ old)

-- what an answer says of the rounds run: it has the bound and the weights of one of them, none of them has a lesser bound, and each earlier
-- one has a greater
pub record LeastMet (J : Job) (lower : ℕ) (a : WeightsFound) : Type 0 where
  pub round : ℕ
  pub met : round < a.rounds
  pub bound_is : a.bound ≡ bound_at J lower round
  pub weights_are : a.weights ≡ entries (weight_at J lower round) J.count
  pub least : (k : ℕ) → k < a.rounds → a.bound ≤ bound_at J lower k
  pub first : (k : ℕ) → k < round → a.bound < bound_at J lower k

-- the rules of the stop: the test of the demands is that the round's plan keeps them all; where it does not, the summed squares are not 0;
-- the last round begun is the first one that is refused or after which the run stops
pub record StopRules (J : Job) (lower : ℕ) (m : Lent) : Type 0 where
  pub kept : (weight : ℕ → ℕ) → within J (plan_copies J weight) ≡ true → KeepsDemands J (bound_plan J weight)
  pub keeps : (weight : ℕ → ℕ) → KeepsDemands J (bound_plan J weight) → within J (plan_copies J weight) ≡ true
  pub some : (weight : ℕ → ℕ) → within J (plan_copies J weight) ≡ false → 1 ≤ squares J (plan_copies J weight)
  pub last : last_here J lower m (last_round J lower m) ≡ true
  pub first : (k : ℕ) → k < last_round J lower m → last_here J lower m k ≡ false

-- what holds of each round run: its gap is a true difference, for the lower figure is at most its bound, and its plan has no idle cut
pub record RoundHolds (J : Job) (lower k : ℕ) : Type 0 where
  pub gap_is : lower + gap J lower (weight_at J lower k) ≡ bound_at J lower k
  pub idle_free : IdleFree (bound_plan J (weight_at J lower k))

-- the answered weights of the job's kinds are accepted for the job, and the answered bound is theirs: the bound call answers it again
pub record BoundAgain (s : List ℕ) (choices : Choices) (a : WeightsFound) : Type 0 where
  pub accepted : Accepted s choices (take (block_job s choices).count a.weights)
  pub bound_is : a.bound ≡ bound_of (block_job s choices) (weight_in (take (block_job s choices).count a.weights))

-- what the call promises of its answer and of all that it is lent: both are the definitions', number and values too; an answered bound is
-- the least met, with the weights that first gave it, which the bound call accepts and gives the same bound; at most 18 rounds are run, each
-- with a true gap and a plan without an idle cut, and no guillotine tree on the plate that keeps every demand, cut at whole units or finer,
-- earns more than the answered bound. Steps and stop follow their rules
pub record FindPromises (s : List ℕ) (choices : Choices) (kinds operands : List ℕ) (old new : Lent) (r : Answer WeightsFound) : Type 0 where
  pub answers : r ≡ find_answer s choices kinds operands old
  pub outcome : found_outcome r ≡ find_said s choices kinds operands old
  pub memory : FindLeaves s choices kinds operands old new
  pub least : ForOk r (LeastMet (block_job s choices) (lower_figure s choices kinds operands))
  pub again : ForOk r (BoundAgain s choices)
  pub rounds : ForOk r (λ a. a.rounds ≤ most_rounds)
  pub each : ForOk r (λ a. (k : ℕ) → k < a.rounds → RoundHolds (block_job s choices) (lower_figure s choices kinds operands) k)
  pub demands : ForOk r (λ a. NoneAbove (block_job s choices) a.bound)
  pub finer : ForOk r (λ a. NoneFiner (block_job s choices) a.bound)
  pub steps : StepRules
  pub stop : StopRules (block_job s choices) (lower_figure s choices kinds operands) old
