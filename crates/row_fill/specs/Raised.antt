-- Words that take values where those are more, and the values that a row's words take: the sums of two earlier rows, the prices of pieces,
-- and the sums that a cell pushes to the units past it.
use Rattle.std.specs.Prelude.{◌≡◌, List, ◌⊎◌, ℕ, ◌+◌, ◌-◌, ◌*◌, ◌≤◌, ◌<◌, min, get_or}
use Rattle.cutting.specs.Listed.{size_in, price_in, listed_weight}
use Rattle.table.specs.Words.{remainder}

-- each word has become the greatest of what it was and the values offered to it
pub record Raised (offered : ℕ → ℕ → Type 0) (old new : List ℕ) : Type 0 where
  pub grown : (i : ℕ) → get_or old i 0 ≤ get_or new i 0
  pub low : (i bound : ℕ) → ((v : ℕ) → offered i v → v ≤ bound) → get_or old i 0 ≤ bound → get_or new i 0 ≤ bound
  pub taken : (i v : ℕ) → offered i v → v ≤ get_or new i 0

-- v is offered to word x alone
abbrev pub Single : ℕ → ℕ → ℕ → ℕ → Type 0
Single x v i u = (i ≡ x) × (u ≡ v)

-- the words of a row from `target` on are offered the sums of those of two rows, from `first` and `second` on
pub record Sums (xs : List ℕ) (target first second columns i v : ℕ) : Type 0 where
  pub index : ℕ
  pub inside : index < columns
  pub place : i ≡ target + index
  pub value : v ≡ get_or xs (first + index) 0 + get_or xs (second + index) 0

-- a row is offered the cuts of entry a at the entries from 1 to the half's end less 1 whose parts make up the whole; the rows begin at `base`
pub record LengthCuts (xs normal_lengths length_floors : List ℕ) (a half_end base start columns i v : ℕ) : Type 0 where
  pub part : ℕ
  pub from : 1 ≤ part
  pub to : part < half_end
  pub exact : get_or normal_lengths part 0 + get_or normal_lengths (remainder normal_lengths length_floors a part) 0 ≡ get_or normal_lengths a 0
  pub sums : Sums xs start (base + part * columns) (base + remainder normal_lengths length_floors a part * columns) columns i v

-- the unit of a piece's width is offered its price, if the piece has length l, fits in width w and has no weight
pub record Alone (l w piece_length piece_width weight price i v : ℕ) : Type 0 where
  pub long : piece_length ≡ l
  pub fits : piece_width ≤ w
  pub light : weight ≡ 0
  pub place : i ≡ piece_width
  pub value : v ≡ price

-- the same for every piece below `count`
pub record Pieces (l w : ℕ) (pieces : List ℕ) (count i v : ℕ) : Type 0 where
  pub index : ℕ
  pub inside : index < count
  pub alone : Alone l w (size_in pieces index).0 (size_in pieces index).1 (listed_weight pieces index) (price_in pieces index) i v

-- the units past x are offered v together with what the units from `least` to `end` less 1 have
pub record Pushed (xs : List ℕ) (x least end v i u : ℕ) : Type 0 where
  pub index : ℕ
  pub from : least ≤ index
  pub to : index < end
  pub place : i ≡ x + index
  pub value : u ≡ v + get_or xs index 0

-- unit x is offered what the cell before has, and pushes where it has more: the other part of a cut is not wider, nor is the whole
-- wider than the side
abbrev pub CellPush : List ℕ → ℕ → ℕ → ℕ → ℕ → ℕ → ℕ → Type 0
CellPush xs x least side before i v = Single x before i v ⊎ ((before < get_or xs x 0) × Pushed xs x least (min x (side - x) + 1) (get_or xs x 0) i v)
