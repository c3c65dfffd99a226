-- Inner definitions of the table row after row: the place of a row, what is counted, and the lists taken off.
use Rattle.std.specs.Prelude.{◌≡◌, List, ℕ, ◌+◌, ◌*◌, ◌≤◌, ◌<◌, get_or}
use Rattle.promises.specs.declared.Direction.TheVariants.{Length, Width}
use Rattle.cutting.specs.Job.{Job}
use Rattle.cutting.specs.Listed.{listed_weight}
use Rattle.table.specs.Table.{position_count}
use Rattle.table.specs.Words.{Half}
use Rattle.states.specs.States.{held, note, under, Summed, cell}
use Rattle.state_cells.specs.Places.{Rows, LevelRows, CellsLent, FlatState}

-- the numbers that the code counts cells and rows by: those of normal lengths and widths, and the words of a row
pub record Counted (J : Job) (words length_count columns stride : ℕ) : Type 0 where
  pub lengths : length_count ≡ position_count J Length
  pub widths : columns ≡ position_count J Width
  pub stride_is : stride ≡ columns * words

-- of the first `count` pieces every one with a state has one below `flat`
abbrev pub PastPieces : List ℕ → ℕ → ℕ → ℕ → Type 0
PastPieces pieces count words flat = (i : ℕ) → i < count → listed_weight pieces i < words → listed_weight pieces i < flat

-- the place of a row that is to be made: all rows before it are
pub record RowSpot (J : Job) (own : ℕ → ℕ) (normal_lengths length_floors normal_widths width_floors blocks : List ℕ) (d words length_count columns stride a length_half_end at flat : ℕ) (table : List ℕ) : Type 0 where
  pub lent : CellsLent J normal_lengths length_floors normal_widths width_floors blocks d words table
  pub counted : Counted J words length_count columns stride
  pub length_in : (1 ≤ a) × (a < length_count)
  pub length_half : Half normal_lengths a length_half_end
  pub at_is : at ≡ cell J words a 0
  pub rows : Rows J (under blocks d) own normal_lengths normal_widths words flat a table
  pub summed : Summed blocks d words words table
  pub level_rows : LevelRows J (under blocks d) own normal_lengths normal_widths words flat a
  pub flat_state : FlatState J own d words flat

-- in each of s cells of so many words nothing is noted past the end of its list
abbrev pub Bare : ℕ → ℕ → List ℕ → Type 0
Bare s words xs = (i j k : ℕ) → i < s → j ≤ k → k < words → note xs (i * words) j ≡ 0 → note xs (i * words) k ≡ 0

-- the lists are off: s cells of so many words each hold their figures alone, and the rest is as it was
pub record Plain (s words : ℕ) (old new : List ℕ) : Type 0 where
  pub plain : (i c : ℕ) → i < s → c < words → get_or new (i * words + c) 0 ≡ held old (i * words) c
  pub rest : (i : ℕ) → s * words ≤ i → get_or new i 0 ≡ get_or old i 0
