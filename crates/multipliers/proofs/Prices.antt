-- Lowering the prices in place: below the kind that a loop has reached they are lowered, and from there on as they were.
use Rattle.multipliers.proofs.Prelude.{◌≡◌, List, ℕ, ◌-◌, ◌≤◌, ◌<◌, length, get_or, multiplier_in}

-- where the loop stands before kind n
pub record Lowering (ms old new : List ℕ) (n : ℕ) : Type 0 where
  pub same : length new ≡ length old
  pub below : (i : ℕ) → i < n → get_or new i 0 ≡ get_or old i 0 - multiplier_in ms i
  pub above : (i : ℕ) → n ≤ i → get_or new i 0 ≡ get_or old i 0
