-- What only the inner contracts of the call cite: the numbers of states in the array of pieces, and what the bound of pieces at two
-- capacities asks and leaves.
use Rattle.std.specs.Prelude.{◌≡◌, List, ℕ, ◌+◌, ◌*◌, ◌/◌, ◌≤◌, ◌<◌, length, get_or}
use Rattle.cutting.specs.Limits.{most_capacity, most_pairs, most_pieces}
use Rattle.cutting.specs.Job.{Job, capacity}
use Rattle.cutting.specs.Listed.{InTableRange, listed_weight, node_in}
use Rattle.refusal.specs.Refusals.{Answer, passed, first_refusal, answer_by}
use Rattle.job.specs.Weights.{weight_in}
use Rattle.table.specs.Two.{pair_count}
use Rattle.table.specs.States.{pair_state}
use Rattle.bound.specs.Bound.{Memory}
use Rattle.two_bound.specs.Two.{TwoLeaves, two_storage_checks, two_checks, two_report}
use Rattle.promises.specs.declared.TwoReport.{TwoReport}
use Rattle.two_bound.specs.declared.Capacities.{Capacities}

-- what two lists of weights answer: the capacities, or the first refusal
abbrev pub weighed_two : Job → List ℕ → List ℕ → Answer Capacities
weighed_two J first second = answer_by (first_refusal (two_checks J first second)) (record { first = capacity J (weight_in first); second = capacity J (weight_in second) })

-- an array of n pieces whose kinds have a weight in both lists, and capacities of not too many pairs
pub record Statable (pieces : List ℕ) (n : ℕ) (first second : List ℕ) (q q' : ℕ) : Type 0 where
  pub entries : length pieces ≡ 5 * most_pieces
  pub few : n ≤ most_pieces
  pub kinds : (j : ℕ) → j < n → (node_in pieces j / 2 < length first) × (node_in pieces j / 2 < length second)
  pub pairs : pair_count q q' ≤ most_pairs

-- the first n pieces have the numbers of their states for their weights, and all else is as it was
pub record Stated (n : ℕ) (first second : ℕ → ℕ) (q q' : ℕ) (old new : List ℕ) : Type 0 where
  pub entries : length new ≡ length old
  pub states : (j : ℕ) → j < n → listed_weight new j ≡ pair_state q q' first second (node_in old j / 2)
  pub others : (k : ℕ) → ((j : ℕ) → k ≡ 5 * j + 3 → ⊥) → get_or new k 0 ≡ get_or old k 0

-- what the bound of pieces asks: a plain job in range, capacities of not too many pairs, and room for the floors of both sides
pub record Pairable (J : Job) (q q' : ℕ) (floors : List ℕ) : Type 0 where
  pub in_range : InTableRange J
  pub most : q ≤ most_capacity
  pub pairs : pair_count q q' ≤ most_pairs
  pub floors_there : length floors ≡ 2042

-- the answer of a job with the figures F and of capacities that were accepted, and what it leaves in lent memory
pub record Paired (J : Job) (F : ℕ → ℕ → ℕ → ℕ → ℕ) (q q' : ℕ) (old new : Memory) (r : Answer TwoReport) : Type 0 where
  pub answer : r ≡ answer_by (first_refusal (two_storage_checks J q q' old)) (two_report J F q q')
  pub memory : TwoLeaves passed J F q q' old new
