-- What each step of a row asks: where it reads and writes, and that its sums stay small. A figure is at most 1,040,400,000,000, and no unit
-- is ever more than two figures together.
use Rattle.std.specs.Prelude.{◌≡◌, List, ℕ, ◌+◌, ◌*◌, ◌≤◌, ◌<◌, length, get_or}
use Rattle.cutting.specs.Limits.{most_wide_side, most_pieces, most_price, most_wide_figure}
use Rattle.cutting.specs.Listed.{size_in, price_in}
use Rattle.table.specs.Words.{Cuts}
use Rattle.row_fill.specs.Rows.{Entries}

-- the greatest figure
abbrev pub ceiling : ℕ
ceiling = most_wide_figure

-- no word is more than two figures together
abbrev pub Capped : List ℕ → Type 0
Capped xs = (i : ℕ) → get_or xs i 0 ≤ 2 * ceiling

-- a row's words can take the sums of two earlier rows
pub record SumsReady (table : List ℕ) (target first second columns : ℕ) : Type 0 where
  pub first_before : first + columns ≤ target
  pub second_before : second + columns ≤ target
  pub room : target + columns ≤ length table
  pub first_low : (j : ℕ) → j < columns → get_or table (first + j) 0 ≤ ceiling
  pub second_low : (j : ℕ) → j < columns → get_or table (second + j) 0 ≤ ceiling
  pub target_low : (j : ℕ) → j < columns → get_or table (target + j) 0 ≤ 2 * ceiling

-- row a can take its length cuts: no word of it or of a row before it is more than a figure
pub record LengthsReady (normal_lengths length_floors : List ℕ) (a half_end base start columns : ℕ) (table : List ℕ) : Type 0 where
  pub cuts : Cuts normal_lengths length_floors a half_end
  pub place : start ≡ base + a * columns
  pub room : start + columns ≤ length table
  pub rows_low : (i j : ℕ) → i ≤ a → j < columns → get_or table (base + i * columns + j) 0 ≤ ceiling

-- pieces can be placed on the units of a width: each has a width and a price in range
pub record PiecesReady (pieces : List ℕ) (count width : ℕ) (unit : List ℕ) : Type 0 where
  pub counted : count ≤ most_pieces
  pub wide : (i : ℕ) → i < count → 1 ≤ (size_in pieces i).1
  pub priced : (i : ℕ) → i < count → price_in pieces i ≤ most_price
  pub units : width < length unit

-- the unit x can push v together with the units from `least` to `end` less 1
pub record PushReady (x least end v : ℕ) (unit : List ℕ) : Type 0 where
  pub some : 1 ≤ least
  pub smaller : end ≤ x + 1
  pub units : x + end ≤ length unit
  pub value_low : v ≤ ceiling
  pub parts_low : (j : ℕ) → j < end → get_or unit j 0 ≤ ceiling
  pub capped : Capped unit

-- the cell of width x can push: the units up to x are final
pub record CellReady (x least side : ℕ) (unit : List ℕ) : Type 0 where
  pub some : 1 ≤ least
  pub within : x ≤ side
  pub units : side < length unit
  pub final_low : (j : ℕ) → j ≤ x → get_or unit j 0 ≤ ceiling
  pub capped : Capped unit

-- a row of a plate in range, and units for its width
pub record Laid (normal_widths : List ℕ) (columns side start : ℕ) (unit table : List ℕ) : Type 0 where
  pub entries : Entries normal_widths columns side
  pub side_low : side ≤ most_wide_side
  pub units : side < length unit
  pub room : start + columns ≤ length table
  pub capped : Capped unit

-- the units can give a row its width cuts: they hold figures, at most 1,020,000,000 for each unit of their width
pub record WidthsReady (normal_widths : List ℕ) (columns side start : ℕ) (unit table : List ℕ) : Type 0 where
  pub laid : Laid normal_widths columns side start unit table
  pub first : get_or unit 0 0 ≡ get_or table start 0
  pub units_low : (b : ℕ) → b < columns → get_or unit (get_or normal_widths b 0) 0 ≤ get_or normal_widths b 0 * 1020000000

-- a row that has its length cuts can take its pieces and its width cuts
pub record RowReady (pieces : List ℕ) (count : ℕ) (normal_widths : List ℕ) (columns width start : ℕ) (unit table : List ℕ) : Type 0 where
  pub laid : Laid normal_widths columns width start unit table
  pub lying : PiecesReady pieces count width unit
  pub words_low : (b : ℕ) → b < columns → get_or table (start + b) 0 ≤ get_or normal_widths b 0 * 1020000000
