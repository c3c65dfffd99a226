-- A row over the units of its width, what a row has after its length cuts and after its width cuts, and rows that hold their figures.
use Rattle.std.specs.Prelude.{◌≡◌, List, ℕ, ◌+◌, ◌-◌, ◌*◌, ◌≤◌, ◌<◌, length, get_or}
use Rattle.table.specs.Words.{Outside, remainder}

-- a rising list of entries from 0 on, none above a side
pub record Entries (normal_widths : List ℕ) (columns side : ℕ) : Type 0 where
  pub some : 1 ≤ columns
  pub listed : columns ≤ length normal_widths
  pub first : get_or normal_widths 0 0 ≡ 0
  pub rise : (i j : ℕ) → i < j → j < columns → get_or normal_widths i 0 < get_or normal_widths j 0
  pub within : (i : ℕ) → i < columns → get_or normal_widths i 0 ≤ side

-- row a has become the greatest of what it was and the cuts of its length up to the half whose parts make up the whole
pub record LengthsTaken (normal_lengths length_floors : List ℕ) (a half_end base start columns : ℕ) (old new : List ℕ) : Type 0 where
  pub grown : (b : ℕ) → b < columns → get_or old (start + b) 0 ≤ get_or new (start + b) 0
  pub sums : (i b : ℕ) → 1 ≤ i → i < half_end → b < columns → get_or normal_lengths i 0 + get_or normal_lengths (remainder normal_lengths length_floors a i) 0 ≡ get_or normal_lengths a 0
      → get_or old (base + i * columns + b) 0 + get_or old (base + remainder normal_lengths length_floors a i * columns + b) 0 ≤ get_or new (start + b) 0
  pub low : (b bound : ℕ) → b < columns → get_or old (start + b) 0 ≤ bound
      → ((i : ℕ) → 1 ≤ i → i < half_end → get_or normal_lengths i 0 + get_or normal_lengths (remainder normal_lengths length_floors a i) 0 ≡ get_or normal_lengths a 0
      → get_or old (base + i * columns + b) 0 + get_or old (base + remainder normal_lengths length_floors a i * columns + b) 0 ≤ bound)
      → get_or new (start + b) 0 ≤ bound
  pub rest : Outside start (start + columns) old new

-- a row's words stand at the units of their entries, and a unit is at most what bounds the row's words and its old word
pub record Spread (normal_widths : List ℕ) (start columns : ℕ) (table old new : List ℕ) : Type 0 where
  pub here : (b : ℕ) → b < columns → get_or new (get_or normal_widths b 0) 0 ≡ get_or table (start + b) 0
  pub low : (i bound : ℕ) → ((b : ℕ) → b < columns → get_or table (start + b) 0 ≤ bound) → get_or old i 0 ≤ bound → get_or new i 0 ≤ bound

-- two widths are worth no more than one as wide
abbrev pub Joins : (ℕ → ℕ) → Type 0
Joins f = (x y : ℕ) → f x + f y ≤ f (x + y)

-- the words of a row have taken the width cuts: a cut whose parts make up the whole is taken where its larger part rises over the cell
-- before it
pub record WidthCuts (normal_widths : List ℕ) (columns start : ℕ) (new : List ℕ) : Type 0 where
  pub before : (b : ℕ) → 1 ≤ b → b < columns → get_or new (start + (b - 1)) 0 ≤ get_or new (start + b) 0
  pub sums : (i j b : ℕ) → 1 ≤ j → j ≤ i → i < columns → b < columns → get_or normal_widths i 0 + get_or normal_widths j 0 ≡ get_or normal_widths b 0
      → get_or new (start + (i - 1)) 0 < get_or new (start + i) 0 → get_or new (start + i) 0 + get_or new (start + j) 0 ≤ get_or new (start + b) 0

-- a row has become what the units of its entries had and its width cuts
pub record Widened (normal_widths : List ℕ) (columns start : ℕ) (units old new : List ℕ) : Type 0 where
  pub grown : (b : ℕ) → b < columns → get_or units (get_or normal_widths b 0) 0 ≤ get_or new (start + b) 0
  pub cuts : WidthCuts normal_widths columns start new
  pub low : (f : ℕ → ℕ) → Joins f → ((b : ℕ) → b < columns → get_or units (get_or normal_widths b 0) 0 ≤ f (get_or normal_widths b 0))
      → (b : ℕ) → b < columns → get_or new (start + b) 0 ≤ f (get_or normal_widths b 0)
  pub rest : Outside start (start + columns) old new

-- a row has become what it had, what is offered to the units of its entries, and its width cuts
pub record WidthsTaken (offered : ℕ → ℕ → Type 0) (normal_widths : List ℕ) (columns start : ℕ) (old new : List ℕ) : Type 0 where
  pub grown : (b : ℕ) → b < columns → get_or old (start + b) 0 ≤ get_or new (start + b) 0
  pub taken : (b v : ℕ) → b < columns → offered (get_or normal_widths b 0) v → v ≤ get_or new (start + b) 0
  pub cuts : WidthCuts normal_widths columns start new
  pub low : (f : ℕ → ℕ) → Joins f → ((b : ℕ) → b < columns → get_or old (start + b) 0 ≤ f (get_or normal_widths b 0)) → ((x v : ℕ) → offered x v → v ≤ f x)
      → (b : ℕ) → b < columns → get_or new (start + b) 0 ≤ f (get_or normal_widths b 0)
  pub rest : Outside start (start + columns) old new

-- the rows below a, from word `base` on, hold the figures F of their lengths and widths
abbrev pub Rows : (ℕ → ℕ → ℕ) → List ℕ → List ℕ → ℕ → ℕ → ℕ → List ℕ → Type 0
Rows F normal_lengths normal_widths base columns a xs = (i b : ℕ) → i < a → b < columns → get_or xs (base + i * columns + b) 0 ≡ F (get_or normal_lengths i 0) (get_or normal_widths b 0)
