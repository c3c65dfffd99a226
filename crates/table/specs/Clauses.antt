-- What a fill asks and leaves, and what its steps and the reading of a filled table ask of the lists and floors that they are lent.
use Rattle.std.specs.Prelude.{◌≡◌, List, ℕ, ◌≤◌, ◌<◌, length, get_or, take, drop}
use Rattle.promises.specs.declared.Direction.{Direction}
use Rattle.promises.specs.declared.Direction.TheVariants.{Length, Width}
use Rattle.cutting.specs.Tree.{side}
use Rattle.cutting.specs.Limits.{most_capacity, most_pairs, most_limit}
use Rattle.cutting.specs.Job.{Job, normal_positions, normal_floor}
use Rattle.cutting.specs.Listed.{InTableRange, pieces_job}
use Rattle.table.specs.declared.TableSize.{TableSize}
use Rattle.table.specs.Table.{position_count, position, words_needed, Figures, Kept}
use Rattle.table.specs.Staged.{staged_words, StagedFigures}
use Rattle.table.specs.Two.{pair_count, two_words, TwoFigures}

-- a list holds the normal positions of a side
abbrev pub Listed : Job → Direction → List ℕ → Type 0
Listed J d positions = (position_count J d ≤ length positions) × ((i : ℕ) → i < position_count J d → get_or positions i 0 ≡ position J d i)

-- floors hold for each length up to the plate's side the index of the largest normal position not above it
abbrev pub Mapped : Job → Direction → List ℕ → Type 0
Mapped J d floors = (x : ℕ) → x ≤ side d J.plate → (get_or floors x 0 < position_count J d) × (position J d (get_or floors x 0) ≡ normal_floor J d x)

-- the plain job of a table's size and of the array of its pieces
abbrev pub size_job : TableSize → List ℕ → Job
size_job size pieces = pieces_job (size.length, size.width) size.count pieces

-- a list begins with the normal positions of one side of a job, so many; and the floors of that side
pub record Positions (J : Job) (d : Direction) (count : ℕ) (positions floors : List ℕ) : Type 0 where
  pub counted : count ≡ position_count J d
  pub listed : take count positions ≡ normal_positions J d
  pub mapped : side d J.plate < length floors
  pub floored : Mapped J d floors

-- what a fill asks: pieces in range, the normal positions and floors of both sides, and a table with room
pub record Fillable (size : TableSize) (pieces normal_lengths normal_widths floors table : List ℕ) : Type 0 where
  pub in_range : InTableRange (size_job size pieces)
  pub most : size.capacity ≤ most_capacity
  pub floors_there : length floors ≡ 2042
  pub lengths : Positions (size_job size pieces) Length size.rows normal_lengths floors
  pub widths : Positions (size_job size pieces) Width size.columns normal_widths (drop 1021 floors)
  pub room : words_needed (size_job size pieces) size.capacity ≤ length table

-- what a fill leaves: the figures, and later words as they were
abbrev pub FilledBy : Job → (ℕ → ℕ) → ℕ → List ℕ → List ℕ → Type 0
FilledBy J weight q old new = Figures J weight q new × Kept (words_needed J q) old new

-- what a staged fill asks besides: a limit in range, and room for all blocks
pub record StagedFillable (size : TableSize) (limit : ℕ) (pieces normal_lengths normal_widths floors table : List ℕ) : Type 0 where
  pub fillable : Fillable size pieces normal_lengths normal_widths floors table
  pub within : (1 ≤ limit) × (limit ≤ most_limit)
  pub all : staged_words (size_job size pieces) size.capacity limit ≤ length table

-- what it leaves: the figures of every block, and later words as they were
abbrev pub StagedBy : Job → (ℕ → ℕ) → ℕ → ℕ → List ℕ → List ℕ → Type 0
StagedBy J weight n q old new = StagedFigures J weight n q new × Kept (staged_words J q n) old new

-- what the fill of two weights asks besides, the second capacity beside the first: not too many pairs of shares, and room for all
pub record TwoFillable (size : TableSize) (second : ℕ) (pieces normal_lengths normal_widths floors table : List ℕ) : Type 0 where
  pub fillable : Fillable size pieces normal_lengths normal_widths floors table
  pub pairs : pair_count size.capacity second ≤ most_pairs
  pub all : two_words (size_job size pieces) size.capacity second ≤ length table

-- what it leaves: the figures F of every pair, and later words as they were
abbrev pub TwoBy : Job → (ℕ → ℕ → ℕ → ℕ → ℕ) → ℕ → ℕ → List ℕ → List ℕ → Type 0
TwoBy J F q q' old new = TwoFigures J F q q' new × Kept (two_words J q q') old new
