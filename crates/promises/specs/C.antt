-- The C interface: one rule for every exported function. A call that is stopped changes nothing; any other has an answer of which the Rattle call's
-- whole promise holds, returns its number, and has its values over the old answer words.
-- docs/SCOPE.md: The C interface.
use Rattle.std.specs.Prelude.{◌≡◌, Bool, not, List, [], ◌∷◌, ℕ, ◌/◌, ◌%◌, ◌≤◌, ◌<◌, eqb, length, take}
use Rattle.std.proofs.Math.Option.{none, some}
use Rattle.promises.specs.Prelude.{Choices}
use Rattle.promises.specs.declared.Refusal.TheVariants.{RackSize}
use Rattle.promises.specs.Lists.{over}
use Rattle.promises.specs.Refusals.{by_check, next, first_refusal, Outcome, outcome_of, Checked}
use Rattle.promises.specs.Plan.{kinds_of, operands_of}
use Rattle.promises.specs.Systems.{one_weight, within_stages}
use Rattle.promises.specs.Block.{weight_in}
use Rattle.promises.specs.Call.{Memory, Arrays}
use Rattle.promises.specs.Calls.{plan_values, staged_values, bound_values, two_values, write_values, neat_values, exact_values, certificate_values, CheckPromises, BlockPromises, StagedCheckPromises, NeatPromises, BoundPromises, WritePromises, CertifyPromises, StagedPromises, TwoPromises, ExactPromises}
use Rattle.promises.specs.Rounds.{found_values, Lent, FindPromises}
use Rattle.promises.specs.Rack.{Rack, rack_verdict, rack_walked, RackChecks}
use Rattle.promises.specs.Saw.{saw_values, part_outcome, SawPromises, PartPromises}
use Rattle.promises.specs.True.{true_values, ModelPromises, TruePromises}
use Rattle.promises.specs.Orders.{plates_values, lagrangian_values, NeededPromises, LagrangianPromises}

-- the choices of a word: bit 1 is turning, bit 2 full demand, bit 4 the old block, bit 8 grain; no other bit has a meaning
abbrev pub bit : ℕ → ℕ → Bool
bit n word = eqb (word / n % 2) 1

abbrev pub choices_of : ℕ → Choices
choices_of word = record { turning = bit 1 word; full_demand = bit 2 word; old_block = bit 4 word; grain = bit 8 word }

-- the words of a call: the word of choices, the answer words before and after it, and the number returned
pub record Words : Type 0 where
  pub choices : ℕ
  pub old : List ℕ
  pub new : List ℕ
  pub number : ℕ

abbrev pub words : ℕ → (old new : List ℕ) → ℕ → Words
words choices old new number = record { choices = choices; old = old; new = new; number = number }

-- a call that needs n answer words: with fewer it returns 100, or else with a choice that has no meaning 101, and leaves answer and lent memory
-- as they were; any other has an answer with its promise, its number and its words
pub record InC {A L : Type 0} (n : ℕ) (said : A → Outcome) (w : Words) (old new : L) (Promise : Choices → A → Type 0) : Type 0 where
  pub short : length w.old < n → (w.number ≡ 100) × (w.new ≡ w.old) × (new ≡ old)
  pub unknown : n ≤ length w.old → 15 < w.choices → (w.number ≡ 101) × (w.new ≡ w.old) × (new ≡ old)
  pub answered : n ≤ length w.old → w.choices ≤ 15 → (r : A) × Promise (choices_of w.choices) r × (w.number ≡ (said r).0) × (w.new ≡ over (said r).1 w.old)

-- The exported functions; s is the job block. Where nothing is lent but the answer, `[]` stands for it.
-- planner_check_plan: 69 words
abbrev pub CheckC : Words → (s kinds operands : List ℕ) → Type 0
CheckC w s kinds operands = InC {L = List ℕ} 69 (outcome_of plan_values) w [] [] (λ c. CheckPromises s c kinds operands)

-- planner_check_plan_block: 69 words
abbrev pub BlockC : Words → (s plan : List ℕ) → Type 0
BlockC w s plan = InC {L = List ℕ} 69 (outcome_of plan_values) w [] [] (λ c. BlockPromises s c plan)

-- planner_check_plan_staged: 70 words
abbrev pub StagedCheckC : Words → (s : List ℕ) → (limit : ℕ) → (kinds operands : List ℕ) → Type 0
StagedCheckC w s limit kinds operands = InC {L = List ℕ} 70 (outcome_of staged_values) w [] [] (λ c. StagedCheckPromises s c limit kinds operands)

-- planner_neat_plan: 1 word; the output arrays are lent
abbrev pub NeatC : Words → (s kinds operands : List ℕ) → (old new : Arrays) → Type 0
NeatC w s kinds operands old new = InC 1 (outcome_of neat_values) w old new (λ c. NeatPromises s c kinds operands old new)

-- planner_bound: 4 words
abbrev pub BoundC : Words → (s ws : List ℕ) → (old new : Memory) → Type 0
BoundC w s ws old new = InC 4 (outcome_of bound_values) w old new (λ c. BoundPromises s c ws old new)

-- planner_write_plan: 5 words; lists, table and plan arrays are lent
abbrev pub WriteC : Words → (s ws : List ℕ) → (old new : Lent) → Type 0
WriteC w s ws old new = InC 5 (outcome_of write_values) w old new (λ c. WritePromises s c ws old.0 new.0 old.1 new.1)

-- planner_certify: 3 words
abbrev pub CertifyC : Words → (s ws : List ℕ) → (plan : Arrays) → (old new : Memory) → Type 0
CertifyC w s ws plan old new = InC 3 (outcome_of certificate_values) w old new (λ c. CertifyPromises none (one_weight (weight_in ws)) s c ws plan old new)

-- planner_bound_staged: 4 words
abbrev pub StagedC : Words → (s ws : List ℕ) → (limit : ℕ) → (old new : Memory) → Type 0
StagedC w s ws limit old new = InC 4 (outcome_of bound_values) w old new (λ c. StagedPromises s c ws limit old new)

-- planner_certify_staged: 3 words
abbrev pub StagedCertifyC : Words → (s ws : List ℕ) → (limit : ℕ) → (plan : Arrays) → (old new : Memory) → Type 0
StagedCertifyC w s ws limit plan old new = InC 3 (outcome_of certificate_values) w old new (λ c. CertifyPromises (some limit) (within_stages (weight_in ws) limit) s c ws plan old new)

-- planner_bound_two: 5 words
abbrev pub TwoC : Words → (s first second : List ℕ) → (old new : Memory) → Type 0
TwoC w s first second old new = InC 5 (outcome_of two_values) w old new (λ c. TwoPromises s c first second old new)

-- planner_exact: 5 words
abbrev pub ExactC : Words → (s : List ℕ) → (old new : Lent) → Type 0
ExactC w s old new = InC 5 (outcome_of exact_values) w old new (λ c. ExactPromises s c old.0 new.0 old.1 new.1)

-- planner_find_weights: 66 words
abbrev pub FindC : Words → (s : List ℕ) → (plan : Arrays) → (old new : Lent) → Type 0
FindC w s plan old new = InC 66 (outcome_of found_values) w old new (λ c. FindPromises s c plan old new)

-- planner_saw_check: 68 words
abbrev pub SawC : Words → (s : List ℕ) → (plan : Arrays) → Type 0
SawC w s plan = InC {L = List ℕ} 68 (outcome_of saw_values) w [] [] (λ c. SawPromises s c plan)

-- planner_saw_kinds: 2 words
abbrev pub SawKindsC : Words → (s : List ℕ) → (plan : Arrays) → (node : ℕ) → Type 0
SawKindsC w s plan node = InC {L = List ℕ} 2 part_outcome w [] [] (λ c. PartPromises kinds_of s c plan plan.0 node)

-- planner_saw_operands: 2 words
abbrev pub SawOperandsC : Words → (s : List ℕ) → (plan : Arrays) → (node : ℕ) → Type 0
SawOperandsC w s plan node = InC {L = List ℕ} 2 part_outcome w [] [] (λ c. PartPromises operands_of s c plan plan.1 node)

-- A rack in C is checked on slices of lengths, widths and profits: 28 too where there are not as many profits; a pass writes the profits and has no
-- value.
pub record RackSlices (s : List ℕ) (choices : Choices) (k : Rack) (old new : List ℕ) (v : Checked) : Type 0 where
  pub answers : v ≡ next (first_refusal ((not (eqb (length old) (length k.lengths)), RackSize) ∷ [])) (rack_verdict s choices k)
  pub profits : new ≡ by_check v (take (length old) (rack_walked s choices k).1) (λ x. old)
  pub checks : RackChecks s choices k (rack_verdict s choices k) (rack_walked s choices k).1

-- planner_check_rack: 1 word, for a place
abbrev pub RackC : Words → (s : List ℕ) → (k : Rack) → (old new : List ℕ) → Type 0
RackC w s k old new = InC 1 (outcome_of (λ _. [])) w old new (λ c. RackSlices s c k old new)

-- planner_check_model: 1 word, for a place
abbrev pub ModelC : Words → (s z : List ℕ) → Type 0
ModelC w s z = InC {L = List ℕ} 1 (outcome_of (λ _. [])) w [] [] (λ c. ModelPromises s c z)

-- planner_true_plan: 3 words; the output arrays are lent
abbrev pub TruePlanC : Words → (s z : List ℕ) → (plan old new : Arrays) → Type 0
TruePlanC w s z plan old new = InC 3 (outcome_of true_values) w old new (λ c. TruePromises s c z plan old new)

-- planner_plates_needed: 3 words
abbrev pub NeededC : Words → (s ws : List ℕ) → (other : ℕ) → (old new : Memory) → Type 0
NeededC w s ws other old new = InC 3 (outcome_of plates_values) w old new (λ c. NeededPromises s c ws other old new)

-- planner_bound_lagrangian: 5 words
abbrev pub LagrangianC : Words → (s ws ms : List ℕ) → (old new : Memory) → Type 0
LagrangianC w s ws ms old new = InC 5 (outcome_of lagrangian_values) w old new (λ c. LagrangianPromises s c ws ms old new)
