-- The numbers of formulas 12 and 13 of Morabito and Pureza, exact: the factor of a round, and the step as the whole part of a square root.
-- docs/SCOPE.md: Weights found; The factor from a table.
use Rattle.std.specs.Prelude.{ℕ, ltb}
pub use Rattle.promises.specs.Lists.{pick_number}
pub use Rattle.promises.specs.Refusals.{most_rounds, most_weight}
pub use Rattle.promises.specs.Rounds.{factor, factors, distance, WholeRoot, scale, weight_step, stepped, StepRules}
unfoldable pub use Rattle.promises.specs.Rounds.{root_below}

-- the number of the last of them
abbrev pub final_round : ℕ
final_round = 17

-- the weight of a kind in the next round
abbrev pub adjusted : ℕ → ℕ → ℕ → ℕ → ℕ → ℕ → ℕ
adjusted f gap squares weight copies demand = stepped (ltb demand copies) weight (weight_step f gap squares (distance copies demand))
