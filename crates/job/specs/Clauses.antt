-- What only the inner contracts of the job cite: a block with room for its kinds, and the checks of a header and of a pair by what is read.
use Rattle.std.specs.Prelude.{◌≡◌, Bool, true, false, List, [], ◌∷◌, ℕ, ◌+◌, ◌*◌, ◌≤◌, length}
use Rattle.refusal.specs.Refusals.{Check}
use Rattle.promises.specs.declared.Choices.{Choices}
use Rattle.job.specs.Block.{count_at, sizes_end, kind_bytes, header_checks, plateless_checks, demand_check, pair_checks}

-- a block whose sizes end at byte h and that has all the bytes of its n kinds
abbrev pub HoldsKinds : ℕ → List ℕ → ℕ → Type 0
HoldsKinds h s n = (n ≡ count_at s) × (n ≤ 64) × (h ≤ 8) × (h + 10 * n ≤ length s)

-- such a block that has their grain bytes where grain is chosen
abbrev pub HoldsGrains : Bool → ℕ → List ℕ → ℕ → Type 0
HoldsGrains grain h s n = HoldsKinds h s n × (h + kind_bytes grain * n ≤ length s)

-- a block that has all the bytes of a call's choices
abbrev pub HoldsBlock : Choices → List ℕ → Type 0
HoldsBlock choices s = HoldsGrains choices.grain (sizes_end choices.old_block) s (count_at s)

-- the checks of a header, whose plate is read or not
abbrev pub header_by : Bool → Choices → List ℕ → List Check
header_by true = header_checks
header_by false = plateless_checks

-- the checks of a pair, whose price is read or not
abbrev pub pairs_by : Bool → ℕ → List ℕ → ℕ → List Check
pairs_by true = pair_checks
pairs_by false = λ h s i. demand_check h s i ∷ []
