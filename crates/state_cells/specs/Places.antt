-- Inner definitions of a cell's place in the table: the shape of the table, the lines of cells that its cuts read, the cells before it,
-- which are made, and what is lent to make it. A cell that is made holds the figures of its normal length and width, and a list that covers them.
use Rattle.std.specs.Prelude.{◌≡◌, Bool, List, ℕ, ◌+◌, ◌-◌, ◌*◌, ◌≤◌, ◌<◌, length, get_or}
use Rattle.promises.specs.declared.Direction.TheVariants.{Length, Width}
use Rattle.cutting.specs.Job.{Job}
use Rattle.cutting.specs.Listed.{InTableRange, pieces_job}
use Rattle.table.specs.declared.TableSize.{TableSize}
use Rattle.table.specs.Table.{position_count}
use Rattle.table.specs.Clauses.{Positions}
use Rattle.table.specs.Words.{Half}
use Rattle.table.specs.States.{figure_at, Covers}
use Rattle.states.specs.States.{held, note, under, Digits, Summed, cell}
use Rattle.state_joins.specs.declared.cuts.Line.{Line}
use Rattle.state_joins.specs.Joins.{Marked, Sorted}
use Rattle.state_cells.specs.declared.shape.Shape.{Shape}
use Rattle.state_cells.specs.declared.cells.Place.{Place}
use Rattle.state_cells.specs.Cells.{Level}

-- the shape of a table of that size, with so many words a cell, over states of the digits up to d
abbrev pub shape_of : TableSize → ℕ → ℕ → Shape
shape_of size d words = record { length = size.length; width = size.width; count = size.count; length_count = size.rows; columns = size.columns; d = d; words = words; stride = size.columns * words }

-- the cells of a cell's width, along the lengths
abbrev pub length_line : Shape → Place → Line
length_line shape place = record { index = place.a; half_end = place.length_half_end; at = place.at; base = place.column; stride = shape.stride; skip = 2 }

-- the cells of a cell's length, along the widths, where a cell has `step` words
abbrev pub width_line : ℕ → Place → Line
width_line step place = record { index = place.b; half_end = place.width_half_end; at = place.at; base = place.at - place.column; stride = step; skip = 1 }

-- the plain job of a plate and of the array of its pieces
abbrev pub job_in : Shape → List ℕ → Job
job_in shape pieces = pieces_job (shape.length, shape.width) shape.count pieces

-- the figure of the a-th normal length, the b-th normal width and state s
abbrev pub tabled : Job → (ℕ → ℕ → Bool) → (ℕ → ℕ) → List ℕ → List ℕ → ℕ → ℕ → ℕ → ℕ
tabled J le own normal_lengths normal_widths a b s = figure_at J le own (get_or normal_lengths a 0) (get_or normal_widths b 0) s

-- the cell is made at its states below n: its words hold its figures, its list has states only, which do not fall, nothing is noted past
-- its end, and the list covers the figures over those of the cell before it in each direction, by entries whose mark does not deny a rise
-- in that direction
pub record MadeTo (J : Job) (le : ℕ → ℕ → Bool) (own : ℕ → ℕ) (normal_lengths normal_widths : List ℕ) (words n a b : ℕ) (xs : List ℕ) : Type 0 where
  pub figures : (s : ℕ) → s < n → held xs (cell J words a b) s ≡ tabled J le own normal_lengths normal_widths a b s
  pub notes : (k : ℕ) → k < n → note xs (cell J words a b) k ≤ n
  pub ended : (j k : ℕ) → j ≤ k → k < n → note xs (cell J words a b) j ≡ 0 → note xs (cell J words a b) k ≡ 0
  pub sorted : Sorted xs (cell J words a b) n
  pub longer : Covers le n (Marked 2 xs (cell J words a b) n) (tabled J le own normal_lengths normal_widths a b) (tabled J le own normal_lengths normal_widths (a - 1) b)
  pub wider : Covers le n (Marked 1 xs (cell J words a b) n) (tabled J le own normal_lengths normal_widths a b) (tabled J le own normal_lengths normal_widths a (b - 1))

-- the number of states that a cell can differ at, where its parts and its pieces do not from state `flat` on: two states of the parts add
-- up to no more than twice that state
abbrev pub reach_of : ℕ → ℕ
reach_of flat = 2 * flat + 1

-- the list of the cell from x on has no state that is out of reach, and nothing is noted there
abbrev pub Short : ℕ → ℕ → ℕ → List ℕ → Type 0
Short words flat x xs = (k : ℕ) → k < words → (note xs x k ≤ reach_of flat) × (reach_of flat ≤ k → note xs x k ≡ 0)

-- the cell is made at all its states, and its list is short
pub record Made (J : Job) (le : ℕ → ℕ → Bool) (own : ℕ → ℕ) (normal_lengths normal_widths : List ℕ) (words flat a b : ℕ) (xs : List ℕ) : Type 0 where
  pub all : MadeTo J le own normal_lengths normal_widths words words a b xs
  pub short : Short words flat (cell J words a b) xs

-- the cells of the rows below a are made, but for the first, which no cut reads
abbrev pub Rows : Job → (ℕ → ℕ → Bool) → (ℕ → ℕ) → List ℕ → List ℕ → ℕ → ℕ → ℕ → List ℕ → Type 0
Rows J le own normal_lengths normal_widths words flat a xs = (i j : ℕ) → i < a → j < position_count J Width → 1 ≤ i + j → Made J le own normal_lengths normal_widths words flat i j xs

-- the cells of row a below cell b are made
abbrev pub Cells : Job → (ℕ → ℕ → Bool) → (ℕ → ℕ) → List ℕ → List ℕ → ℕ → ℕ → ℕ → ℕ → List ℕ → Type 0
Cells J le own normal_lengths normal_widths words flat a b xs = (j : ℕ) → j < b → Made J le own normal_lengths normal_widths words flat a j xs

-- the figures of the cells of the rows below a are the same from state `flat` on
abbrev pub LevelRows : Job → (ℕ → ℕ → Bool) → (ℕ → ℕ) → List ℕ → List ℕ → ℕ → ℕ → ℕ → Type 0
LevelRows J le own normal_lengths normal_widths words flat a = (i j : ℕ) → i < a → j < position_count J Width → Level words flat (tabled J le own normal_lengths normal_widths i j)

-- the figures of the cells of row a below cell b are the same from state `flat` on
abbrev pub LevelCells : Job → (ℕ → ℕ → Bool) → (ℕ → ℕ) → List ℕ → List ℕ → ℕ → ℕ → ℕ → ℕ → Type 0
LevelCells J le own normal_lengths normal_widths words flat a b = (j : ℕ) → j < b → Level words flat (tabled J le own normal_lengths normal_widths a j)

-- what the fill is lent: a plain job in range, the digits of the states, the normal positions with their floors, and a table that is long enough
pub record CellsLent (J : Job) (normal_lengths length_floors normal_widths width_floors blocks : List ℕ) (d words : ℕ) (table : List ℕ) : Type 0 where
  pub range : InTableRange J
  pub digits : Digits blocks d words
  pub lengths : Positions J Length (position_count J Length) normal_lengths length_floors
  pub widths : Positions J Width (position_count J Width) normal_widths width_floors
  pub room : position_count J Length * position_count J Width * words ≤ length table

-- a state that can be handed on as `flat`: every piece with a state has one below it, and where states have several digits, it is past all
-- states
pub record FlatState (J : Job) (own : ℕ → ℕ) (d words flat : ℕ) : Type 0 where
  pub most : flat ≤ words
  pub weighed : (i : ℕ) → i < J.count → own i < words → own i < flat
  pub several : 1 ≤ d → flat ≡ words

-- the place of a cell that is to be made: all cells before it are
pub record Spot (J : Job) (own : ℕ → ℕ) (normal_lengths length_floors normal_widths width_floors blocks : List ℕ) (d words stride a b length_half_end width_half_end at column flat : ℕ) (table : List ℕ) : Type 0 where
  pub lent : CellsLent J normal_lengths length_floors normal_widths width_floors blocks d words table
  pub length_in : (1 ≤ a) × (a < position_count J Length)
  pub width_in : (1 ≤ b) × (b < position_count J Width)
  pub length_half : Half normal_lengths a length_half_end
  pub width_half : Half normal_widths b width_half_end
  pub stride_is : stride ≡ position_count J Width * words
  pub at_is : at ≡ cell J words a b
  pub column_is : column ≡ b * words
  pub rows : Rows J (under blocks d) own normal_lengths normal_widths words flat a table
  pub cells : Cells J (under blocks d) own normal_lengths normal_widths words flat a b table
  pub summed : Summed blocks d words words table
  pub level_rows : LevelRows J (under blocks d) own normal_lengths normal_widths words flat a
  pub level_cells : LevelCells J (under blocks d) own normal_lengths normal_widths words flat a b
  pub flat_state : FlatState J own d words flat

-- the same place, where the cell is to be made at its states below n, and the cells before it are made at theirs
pub record SpotTo (J : Job) (own : ℕ → ℕ) (normal_lengths length_floors normal_widths width_floors blocks : List ℕ) (d words n stride a b length_half_end width_half_end at column flat : ℕ) (table : List ℕ) : Type 0 where
  pub range : InTableRange J
  pub digits : Digits blocks d n
  pub lengths : Positions J Length (position_count J Length) normal_lengths length_floors
  pub widths : Positions J Width (position_count J Width) normal_widths width_floors
  pub room : position_count J Length * position_count J Width * words ≤ length table
  pub within : n ≤ words
  pub length_in : (1 ≤ a) × (a < position_count J Length)
  pub width_in : (1 ≤ b) × (b < position_count J Width)
  pub length_half : Half normal_lengths a length_half_end
  pub width_half : Half normal_widths b width_half_end
  pub stride_is : stride ≡ position_count J Width * words
  pub at_is : at ≡ cell J words a b
  pub column_is : column ≡ b * words
  pub column_cells : (i : ℕ) → i < a → MadeTo J (under blocks d) own normal_lengths normal_widths words n i b table
  pub row_cells : (j : ℕ) → j < b → MadeTo J (under blocks d) own normal_lengths normal_widths words n a j table
  pub summed : Summed blocks d n n table
  pub flat_most : flat ≤ n
  pub level_shorter : Level n flat (tabled J (under blocks d) own normal_lengths normal_widths (a - 1) b)
  pub level_narrower : Level n flat (tabled J (under blocks d) own normal_lengths normal_widths a (b - 1))
