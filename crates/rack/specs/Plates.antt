-- What only the inner contracts of the rack cite: arrays of the sides of 1 to 16 plates, and the totals after a plan.
use Rattle.std.specs.Prelude.{◌≡◌, List, ℕ, ◌≤◌, length, get_or}
use Rattle.refusal.specs.Refusals.{first_refusal}
use Rattle.job.specs.Block.{each_kind}
use Rattle.rack.specs.Check.{most_plates, total_check, with_own}
use Rattle.promises.specs.Refusals.{passed, Checked}

-- a length and a width of each of at most 16 plates
abbrev pub OneEach : List ℕ → List ℕ → Type 0
OneEach lengths widths = (length lengths ≡ length widths) × (length lengths ≤ most_plates)

-- 29 decides for a plate, and where it passes, its own copies are in the totals
pub record TotalsAfter (count : ℕ) (demands : List ℕ) (plate : ℕ) (totals own after : List ℕ) (v : Checked) : Type 0 where
  pub decided : v ≡ first_refusal (each_kind (total_check (λ j. get_or demands j 0) plate totals own) 0 count)
  pub added : v ≡ passed → after ≡ with_own totals own count
