-- The records of a rack: their plates' sides, their profits after a check, and what is promised of the check and the records together.
-- docs/SCOPE.md: A rack of plates.
use Rattle.std.specs.Prelude.{◌≡◌, List, [], map, ℕ, zero, suc, ◌<◌, length, get_or, set, Ok, Err}
use Rattle.std.specs.Result.{ForOk}
use Rattle.cutting.specs.Tree.{Tree}
use Rattle.cutting.specs.Pieces.{Piece}
use Rattle.cutting.specs.Job.{profit}
use Rattle.refusal.specs.Refusals.{Answer, Checked, passed, verdict_of, outcome_by}
use Rattle.promises.specs.declared.Refusal.{Refusal}
use Rattle.promises.specs.declared.Choices.{Choices}
use Rattle.job.specs.Weights.{block_job}
use Rattle.promises.specs.declared.Plate.{Plate}
use Rattle.rack.specs.Check.{plate_at, rack_answer}
use Rattle.rack.specs.Promises.{RackOf, RackChecks}

-- a record of zeros
abbrev pub blank : Plate
blank = record { length = 0; width = 0; profit = 0 }

-- a record with another profit
abbrev pub with_profit : Plate → ℕ → Plate
with_profit p n = record { length = p.length; width = p.width; profit = n }

-- the records of which the first n have the profits given
unfoldable pub paid : List Plate → List ℕ → ℕ → List Plate
paid rack profits zero = rack
paid rack profits (suc i) = set (paid rack profits i) i (with_profit (get_or (paid rack profits i) i blank) (get_or profits i 0))

-- the plates' lengths
abbrev pub lengths_of : List Plate → List ℕ
lengths_of rack = map (λ p. p.length) rack

-- the plates' widths
abbrev pub widths_of : List Plate → List ℕ
widths_of rack = map (λ p. p.width) rack

-- what the check answers for a rack of records
abbrev pub records_answer : List ℕ → Choices → List Plate → List ℕ → List ℕ → Answer (List ℕ)
records_answer s choices rack kinds operands = rack_answer s choices (lengths_of rack) (widths_of rack) kinds operands

-- the records after an answer: where the rack passes every profit is written, and else no record is changed
abbrev pub settled : List Plate → Answer (List ℕ) → List Plate
settled rack (Ok profits) = paid rack profits (length rack)
settled rack (Err r) = rack

-- the records after the check
abbrev pub rack_after : List ℕ → Choices → List Plate → List ℕ → List ℕ → List Plate
rack_after s choices rack kinds operands = settled rack (records_answer s choices rack kinds operands)

-- the promises of a check of a rack of records and of the records after it: the verdict is the definition's, its number and place too, and a
-- pass has no value; a refusal changes no record; a pass writes the profits of the plans' trees and nothing else
pub record RackPromises (s : List ℕ) (choices : Choices) (rack after : List Plate) (kinds operands : List ℕ) (v : Checked) : Type 0 where
  pub answers : v ≡ verdict_of (records_answer s choices rack kinds operands)
  pub outcome : outcome_by v [] ≡ outcome_by (verdict_of (records_answer s choices rack kinds operands)) []
  pub memory : after ≡ rack_after s choices rack kinds operands
  pub unchanged : (x : Refusal) → v ≡ Err x → after ≡ rack
  pub size : length after ≡ length rack
  pub written : ForOk (records_answer s choices rack kinds operands) (λ profits. (p : ℕ) → p < length rack → get_or after p blank ≡ with_profit (get_or rack p blank) (get_or profits p 0))
  pub trees : v ≡ passed → (tree : ℕ → Tree Piece) × RackOf (block_job s choices) (length rack) (plate_at (lengths_of rack) (widths_of rack)) tree kinds operands × ((p : ℕ) → p < length rack → (get_or after p blank).profit ≡ profit (block_job s choices) (tree p))
  pub checks : RackChecks s choices (lengths_of rack) (widths_of rack) kinds operands (records_answer s choices rack kinds operands)
