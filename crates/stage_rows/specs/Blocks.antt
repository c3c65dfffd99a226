-- Inner definitions, cited by the contracts of this crate alone: what each block asks, and what its words have become. A block's rows lie one
-- after the other; no definition here speaks of figures.
use Rattle.std.specs.Prelude.{◌≡◌, List, ℕ, ◌+◌, ◌-◌, ◌*◌, ◌≤◌, ◌<◌, max, length, get_or}
use Rattle.cutting.specs.Limits.{most_wide_side, most_pieces, most_price}
use Rattle.cutting.specs.Listed.{size_in, price_in}
use Rattle.table.specs.declared.TableSize.{TableSize}
use Rattle.table.specs.Words.{Outside, Half, remainder, Axis}
use Rattle.row_fill.specs.Raised.{Pieces}
use Rattle.row_fill.specs.Rows.{Entries, Joins, WidthCuts}
use Rattle.row_fill.specs.Ready.{ceiling, Laid}

-- a wider width is worth no less
abbrev pub Rising : (ℕ → ℕ) → Type 0
Rising f = (x y : ℕ) → x ≤ y → f x ≤ f y

-- a row's words are gathered from the units: from the second on they are the greater of their unit and of the word before
pub record Gathered (normal_widths : List ℕ) (columns start : ℕ) (unit old new : List ℕ) : Type 0 where
  pub here : (b : ℕ) → 1 ≤ b → b < columns → get_or new (start + b) 0 ≡ max (get_or unit (get_or normal_widths b 0) 0) (get_or new (start + (b - 1)) 0)
  pub rest : Outside (start + 1) (start + columns) old new

-- a row of the block without a cut has become the greatest of what it was, what is offered to the units of its entries, and the cell before
pub record UncutRow (offered : ℕ → ℕ → Type 0) (normal_widths : List ℕ) (columns start : ℕ) (old new : List ℕ) : Type 0 where
  pub grown : (b : ℕ) → b < columns → get_or old (start + b) 0 ≤ get_or new (start + b) 0
  pub taken : (b v : ℕ) → b < columns → offered (get_or normal_widths b 0) v → v ≤ get_or new (start + b) 0
  pub before : (b : ℕ) → 1 ≤ b → b < columns → get_or new (start + (b - 1)) 0 ≤ get_or new (start + b) 0
  pub low : (f : ℕ → ℕ) → Rising f → ((b : ℕ) → b < columns → get_or old (start + b) 0 ≤ f (get_or normal_widths b 0)) → ((x v : ℕ) → offered x v → v ≤ f x)
      → (b : ℕ) → b < columns → get_or new (start + b) 0 ≤ f (get_or normal_widths b 0)
  pub rest : Outside start (start + columns) old new

-- what the block without a cut asks: the entries of both sides, pieces in range, and room
pub record UncutLent (size : TableSize) (pieces normal_lengths normal_widths table : List ℕ) : Type 0 where
  pub lengths : Entries normal_lengths size.rows size.length
  pub widths : Entries normal_widths size.columns size.width
  pub width_low : size.width ≤ most_wide_side
  pub counted : size.count ≤ most_pieces
  pub wide : (i : ℕ) → i < size.count → 1 ≤ (size_in pieces i).1
  pub priced : (i : ℕ) → i < size.count → price_in pieces i ≤ most_price
  pub room : size.rows * size.columns ≤ length table

-- its row a is no less than the row before, the cell before and the pieces of its length
pub record UncutCells (width : ℕ) (pieces : List ℕ) (count : ℕ) (normal_lengths normal_widths : List ℕ) (columns a : ℕ) (new : List ℕ) : Type 0 where
  pub above : (b : ℕ) → b < columns → get_or new ((a - 1) * columns + b) 0 ≤ get_or new (a * columns + b) 0
  pub before : (b : ℕ) → 1 ≤ b → b < columns → get_or new (a * columns + (b - 1)) 0 ≤ get_or new (a * columns + b) 0
  pub taken : (b v : ℕ) → b < columns → Pieces (get_or normal_lengths a 0) width pieces count (get_or normal_widths b 0) v → v ≤ get_or new (a * columns + b) 0

-- its first rows are so but for the row of length 0, and no word is above what bounds the pieces where larger sides are worth no less
pub record UncutBlock (width : ℕ) (pieces : List ℕ) (count : ℕ) (normal_lengths normal_widths : List ℕ) (rows columns : ℕ) (old new : List ℕ) : Type 0 where
  pub row : (a : ℕ) → a < rows → 1 ≤ a → UncutCells width pieces count normal_lengths normal_widths columns a new
  pub low : (F : ℕ → ℕ → ℕ) → ((l : ℕ) → Rising (F l)) → ((w : ℕ) → Rising (λ l. F l w)) → ((a x v : ℕ) → a < rows → Pieces (get_or normal_lengths a 0) width pieces count x v → v ≤ F (get_or normal_lengths a 0) x)
      → (a : ℕ) → a < rows → (b : ℕ) → b < columns → get_or new (a * columns + b) 0 ≤ F (get_or normal_lengths a 0) (get_or normal_widths b 0)
  pub rest : Outside 0 (rows * columns) old new

-- a row can take the greater of two earlier rows
pub record GreaterReady (table : List ℕ) (target first second columns : ℕ) : Type 0 where
  pub first_before : first + columns ≤ target
  pub second_before : second + columns ≤ target
  pub room : target + columns ≤ length table
  pub first_low : (j : ℕ) → j < columns → get_or table (first + j) 0 ≤ ceiling
  pub second_low : (j : ℕ) → j < columns → get_or table (second + j) 0 ≤ ceiling

-- what a length-first block asks: the entries of the lengths with their floors, a source that lies before it and holds figures, at most
-- 1,020,000,000 for each unit of their length, and room
pub record LengthsLent (normal_lengths floors : List ℕ) (rows columns source at : ℕ) (table : List ℕ) : Type 0 where
  pub axis : Axis normal_lengths floors rows
  pub first : get_or normal_lengths 0 0 ≡ 0
  pub some : 1 ≤ rows
  pub apart : source + rows * columns ≤ at
  pub room : at + rows * columns ≤ length table
  pub source_low : (a b : ℕ) → a < rows → b < columns → get_or table (source + a * columns + b) 0 ≤ get_or normal_lengths a 0 * 1020000000

-- its row a has become the greatest of the source's row, the row before and the cuts of its length whose parts make up the whole
pub record LengthRow (normal_lengths floors : List ℕ) (columns source at a : ℕ) (old new : List ℕ) : Type 0 where
  pub prior : (b : ℕ) → b < columns → get_or old (source + a * columns + b) 0 ≤ get_or new (at + a * columns + b) 0
  pub above : (b : ℕ) → 1 ≤ a → b < columns → get_or new (at + (a - 1) * columns + b) 0 ≤ get_or new (at + a * columns + b) 0
  pub half_end : ℕ
  pub half : 1 ≤ a → Half normal_lengths a half_end
  pub sums : (i j b : ℕ) → 1 ≤ i → i < half_end → b < columns → j ≡ remainder normal_lengths floors a i → j < a → i < a → get_or normal_lengths i 0 + get_or normal_lengths j 0 ≡ get_or normal_lengths a 0
      → get_or new (at + i * columns + b) 0 + get_or new (at + j * columns + b) 0 ≤ get_or new (at + a * columns + b) 0

-- its first rows have, and no word is above what bounds the source where two lengths are worth no more than one as long
pub record LengthBlock (normal_lengths floors : List ℕ) (rows columns source at : ℕ) (old new : List ℕ) : Type 0 where
  pub row : (a : ℕ) → a < rows → LengthRow normal_lengths floors columns source at a old new
  pub low : (f : ℕ → ℕ) → Joins f → (b : ℕ) → b < columns → ((a : ℕ) → a < rows → get_or old (source + a * columns + b) 0 ≤ f (get_or normal_lengths a 0))
      → (a : ℕ) → a < rows → get_or new (at + a * columns + b) 0 ≤ f (get_or normal_lengths a 0)
  pub rest : Outside at (at + rows * columns) old new

-- a row of a width-first block can be made from its source's
pub record WidenReady (normal_widths : List ℕ) (columns side source start : ℕ) (unit table : List ℕ) : Type 0 where
  pub laid : Laid normal_widths columns side start unit table
  pub apart : source + columns ≤ start
  pub source_low : (b : ℕ) → b < columns → get_or table (source + b) 0 ≤ get_or normal_widths b 0 * 1020000000

-- it has become its source's row and its width cuts
pub record WidenedRow (normal_widths : List ℕ) (columns source start : ℕ) (old new : List ℕ) : Type 0 where
  pub grown : (b : ℕ) → b < columns → get_or old (source + b) 0 ≤ get_or new (start + b) 0
  pub cuts : WidthCuts normal_widths columns start new
  pub low : (f : ℕ → ℕ) → Joins f → ((b : ℕ) → b < columns → get_or old (source + b) 0 ≤ f (get_or normal_widths b 0)) → (b : ℕ) → b < columns → get_or new (start + b) 0 ≤ f (get_or normal_widths b 0)

-- what a width-first block asks: the entries of the widths, a source that lies before it and holds figures, at most 1,020,000,000 for each
-- unit of their width, and room
pub record WidthsLent (normal_widths : List ℕ) (rows columns side source at : ℕ) (table : List ℕ) : Type 0 where
  pub entries : Entries normal_widths columns side
  pub side_low : side ≤ most_wide_side
  pub apart : source + rows * columns ≤ at
  pub room : at + rows * columns ≤ length table
  pub source_low : (a b : ℕ) → a < rows → b < columns → get_or table (source + a * columns + b) 0 ≤ get_or normal_widths b 0 * 1020000000

-- its first rows have become their source's rows and their width cuts
pub record WidthBlock (normal_widths : List ℕ) (rows columns source at : ℕ) (old new : List ℕ) : Type 0 where
  pub row : (a : ℕ) → a < rows → WidenedRow normal_widths columns (source + a * columns) (at + a * columns) old new
  pub rest : Outside at (at + rows * columns) old new
