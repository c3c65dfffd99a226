-- Inner definitions, cited by the contracts of this crate alone: the blocks' cells, numbered through all blocks, and those that are made.
use Rattle.std.specs.Prelude.{◌≡◌, List, [], ◌∷◌, ℕ, ◌+◌, ◌-◌, ◌*◌, ◌≤◌, ◌<◌, leb, length, get_or, drop}
use Rattle.promises.specs.declared.Direction.{Direction}
use Rattle.promises.specs.declared.Direction.TheVariants.{Length, Width}
use Rattle.cutting.specs.Limits.{most_limit}
use Rattle.cutting.specs.Job.{Job}
use Rattle.table.specs.Table.{position_count}
use Rattle.table.specs.Staged.{block_number}
use Rattle.table.specs.Words.{Half}
use Rattle.table.specs.States.{block_at}
use Rattle.state_cells.specs.declared.shape.Shape.{Shape}
use Rattle.state_joins.specs.declared.cuts.Line.{Line}
use Rattle.state_cells.specs.Cells.{Level}
use Rattle.state_cells.specs.Places.{CellsLent}
use Rattle.state_fill.specs.Tables.{Counted}
use Rattle.stage_fill.specs.declared.blocks.Block.{Block}
use Rattle.stage_fill.specs.Cells.{Made}

-- a block up to the greatest limit; only one of width cuts has no stage
abbrev pub Numbered : Block → Type 0
Numbered block = (block.stage ≤ most_limit) × (block.first ≡ Length → 1 ≤ block.stage)

-- a line of cells ends at the cell of an entry, at word `at`
pub record LineTo (positions : List ℕ) (at index stride : ℕ) (line : Line) : Type 0 where
  pub index_is : line.index ≡ index
  pub at_is : line.at ≡ at
  pub base_is : line.base ≡ at - index * stride
  pub stride_is : line.stride ≡ stride
  pub half : Half positions index line.half_end

-- the number of a block's first cell, as the code counts the cells of a block
abbrev pub block_start : Shape → Block → ℕ
block_start shape block = block_number block.stage block.first * (shape.length_count * shape.columns)

-- the number of the cell of a block, the a-th normal length and the b-th normal width
abbrev pub cell_number : Job → ℕ → Direction → ℕ → ℕ → ℕ
cell_number J k d a b = block_number k d * (position_count J Length * position_count J Width) + (a * position_count J Width + b)

-- its figures
abbrev pub staged_tabled : Job → (ℕ → ℕ) → List ℕ → List ℕ → ℕ → Direction → ℕ → ℕ → ℕ → ℕ
staged_tabled J own normal_lengths normal_widths k d a b s = block_at J leb own k d (get_or normal_lengths a 0) (get_or normal_widths b 0) s

-- the cells numbered below m are made, and their figures are the same from state `flat` on
pub record Below (J : Job) (own : ℕ → ℕ) (normal_lengths normal_widths : List ℕ) (words m flat : ℕ) (xs : List ℕ) : Type 0 where
  pub most : flat ≤ words
  pub made : (k : ℕ) (d : Direction) (a b : ℕ) → a < position_count J Length → b < position_count J Width → cell_number J k d a b < m
      → Made words (cell_number J k d a b * words) (staged_tabled J own normal_lengths normal_widths k d a b) (staged_tabled J own normal_lengths normal_widths k d (a - 1) b) (staged_tabled J own normal_lengths normal_widths k d a (b - 1)) xs
  pub level : (k : ℕ) (d : Direction) (a b : ℕ) → a < position_count J Length → b < position_count J Width → cell_number J k d a b < m → Level words flat (staged_tabled J own normal_lengths normal_widths k d a b)

-- what the fill of a block is lent: one digit, the normal positions with their floors, and a table that holds this block too
pub record BlockLent (J : Job) (normal_lengths normal_widths floors : List ℕ) (shape : Shape) (block : Block) (xs : List ℕ) : Type 0 where
  pub lent : CellsLent J normal_lengths floors normal_widths (drop 1021 floors) (shape.words ∷ []) 0 shape.words xs
  pub counted : Counted J shape.words shape.length_count shape.columns shape.stride
  pub one_digit : shape.d ≡ 0
  pub numbered : Numbered block
  pub floors_there : length floors ≡ 2042
  pub room : (block_number block.stage block.first + 1) * (shape.length_count * shape.columns) * shape.words ≤ length xs

-- blocks are made: the cells numbered below m, and the words past them are as they were
pub record BlockMade (J : Job) (own : ℕ → ℕ) (normal_lengths normal_widths : List ℕ) (shape : Shape) (m flat : ℕ) (old new : List ℕ) : Type 0 where
  pub cells : Below J own normal_lengths normal_widths shape.words m flat new
  pub rest : (j : ℕ) → m * shape.words ≤ j → get_or new j 0 ≡ get_or old j 0

-- what all blocks up to a limit ask: one digit, the normal positions with their floors, and a table that holds them
pub record StagesLent (J : Job) (normal_lengths normal_widths floors : List ℕ) (shape : Shape) (limit : ℕ) (xs : List ℕ) : Type 0 where
  pub lent : CellsLent J normal_lengths floors normal_widths (drop 1021 floors) (shape.words ∷ []) 0 shape.words xs
  pub counted : Counted J shape.words shape.length_count shape.columns shape.stride
  pub one_digit : shape.d ≡ 0
  pub most : limit ≤ most_limit
  pub floors_there : length floors ≡ 2042
  pub room : (2 * limit + 1) * (shape.length_count * shape.columns) * shape.words ≤ length xs

-- all blocks are made, and the words past them are as they were
abbrev pub StagesMade : Job → (ℕ → ℕ) → List ℕ → List ℕ → Shape → ℕ → List ℕ → List ℕ → Type 0
StagesMade J own normal_lengths normal_widths shape limit old new =
    (flat : ℕ) × BlockMade J own normal_lengths normal_widths shape ((2 * limit + 1) * (shape.length_count * shape.columns)) flat old new
