-- What only the inner contracts of the weight rounds cite: what the loop over nodes counts, what the end of a round asks and
-- gives, and the best answer with one round more.
use Rattle.std.specs.Prelude.{◌≡◌, Bool, true, false, ◌||◌, List, ℕ, ◌≤◌, ◌<◌, ltb, eqb, length, get_or, Option, None, Some}
use Rattle.cutting.specs.Limits.{most_nodes, most_kinds, most_capacity}
use Rattle.cutting.specs.Lists.{sum, only}
use Rattle.cutting.specs.Job.{Job, InRange, capacity, bound_of}
use Rattle.weight_steps.specs.Step.{most_rounds, final_round}
use Rattle.rounds.specs.Rounds.{plan_copies, next_weight, within}
use Rattle.promises.specs.declared.WeightsFound.{WeightsFound}

-- whether a node's kind is that of a piece, upright or turned
abbrev pub lays : ℕ → Bool
lays kind = eqb kind 1 || eqb kind 4

-- 1 for a piece of kind k, and else 0
abbrev pub piece_here : ℕ → ℕ → ℕ → ℕ
piece_here kind operand k = only (lays kind) (only (eqb operand k) 1)

-- the pieces of kind k in the first n nodes
abbrev pub pieces_in : List ℕ → List ℕ → ℕ → ℕ → ℕ
pieces_in kinds operands n k = sum n (λ j. piece_here (get_or kinds j 0) (get_or operands j 0) k)

-- what a round knows when its plan is written: the bound is that of its weights, and the pieces in the arrays are the plan's copies
pub record Made (J : Job) (lower round bound nodes : ℕ) (weight : ℕ → ℕ) (kinds operands : List ℕ) : Type 0 where
  pub in_range : InRange J
  pub round_small : round < most_rounds
  pub bound_is : bound ≡ bound_of J weight
  pub lower_most : lower ≤ bound
  pub nodes_most : (nodes ≤ most_nodes) × (nodes ≤ length kinds) × (nodes ≤ length operands)
  pub copies : (k : ℕ) → k < most_kinds → pieces_in kinds operands nodes k ≡ plan_copies J weight k

-- whether the run stops after a round with these weights
abbrev pub stops_with : Job → ℕ → ℕ → (ℕ → ℕ) → Bool
stops_with J lower round weight = within J (plan_copies J weight) || (eqb round final_round || ltb most_capacity (capacity J (next_weight J lower round weight)))

-- the weights of the next round, by whether the run stops
abbrev pub following : Bool → List ℕ → Option (List ℕ)
following true weights = None
following false weights = Some weights

-- the best answer with one round more, by whether that round's bound is the best
abbrev pub better : Bool → ℕ → List ℕ → ℕ → WeightsFound → WeightsFound
better true bound weights rounds a = record { bound = bound; rounds = rounds; weights = weights }
better false bound weights rounds a = record { bound = a.bound; rounds = rounds; weights = a.weights }
