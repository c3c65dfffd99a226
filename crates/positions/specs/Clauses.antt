-- Normal positions as the planner finds them, from the array of the pieces, and the map from a length to the last position not above it.
use Rattle.std.specs.Prelude.{◌≡◌, Bool, false, ◌&&◌, List, map, ℕ, ◌+◌, ◌-◌, ◌*◌, ◌≤◌, ◌<◌, leb, length, get_or}
use Rattle.cutting.specs.Limits.{most_wide_side, most_pieces}
use Rattle.cutting.specs.Lists.{range, filter, over}
use Rattle.cutting.specs.Normal.{normal?, normals}

-- an array holds the n entries of a list at its front; every later entry keeps its old contents
pub record Holds (xs : List ℕ) (n : ℕ) (old new : List ℕ) : Type 0 where
  pub number : n ≡ length xs
  pub contents : new ≡ over xs old

-- an entry of a list, 0 past its end
abbrev pub entry : List ℕ → ℕ → ℕ
entry xs i = get_or xs i 0

-- field 0 of a piece in the array is its length, field 1 its width
abbrev pub field_in : List ℕ → ℕ → ℕ → ℕ
field_in pieces field i = get_or pieces (5 * i + field) 0

-- none of the first n sides is 0
abbrev pub Positive : (ℕ → ℕ) → ℕ → Type 0
Positive sides n = (i : ℕ) → i < n → 1 ≤ sides i

-- whether a piece fits: neither its side nor its other side is greater than the plate's
abbrev pub piece_fits : List ℕ → ℕ → ℕ → ℕ → ℕ → Bool
piece_fits pieces field side other i = leb (field_in pieces field i) side && leb (field_in pieces (1 - field) i) other

-- the sides of those of the first n pieces that fit
unfoldable pub fitting : List ℕ → ℕ → ℕ → ℕ → ℕ → List ℕ
fitting pieces field n side other = map (field_in pieces field) (filter (piece_fits pieces field side other) (range 0 n))

-- the normal positions up to a side of the plate, rising
abbrev pub positions_of : List ℕ → ℕ → ℕ → ℕ → ℕ → List ℕ
positions_of pieces field n side other = normals (fitting pieces field n side other) side

-- the marks below x are the tests for sums
abbrev pub Marked : List ℕ → ℕ → List Bool → Type 0
Marked zs x marks = (y : ℕ) → y < x → get_or marks y false ≡ normal? zs y

-- what the scan for x asks: marks of the sums below x of up to 128 sides, none of them 0
pub record Scannable (sides : List ℕ) (x : ℕ) (marks : List Bool) : Type 0 where
  pub kinds : length sides ≤ most_pieces
  pub most : x ≤ most_wide_side
  pub positive : Positive (entry sides) (length sides)
  pub marked : Marked sides x marks

-- what listing the positions up to a side asks: up to 128 sides, none of them 0, and room for every number up to the side
pub record Listable (sides : ℕ → ℕ) (n side room : ℕ) : Type 0 where
  pub kinds : n ≤ most_pieces
  pub most : side ≤ most_wide_side
  pub room_there : side < room
  pub positive : Positive sides n

-- the first n entries of a list begin with 0 and rise
abbrev pub Rising : List ℕ → ℕ → Type 0
Rising positions n = (get_or positions 0 0 ≡ 0) × ((i : ℕ) → i + 1 < n → get_or positions i 0 < get_or positions (i + 1) 0)

-- i is the last of the first n entries that is not above x
pub record LastUpTo (positions : List ℕ) (n x i : ℕ) : Type 0 where
  pub within : i < n
  pub not_above : get_or positions i 0 ≤ x
  pub next_above : i + 1 < n → x < get_or positions (i + 1) 0

-- a map that has, at each x below m, the last entry not above x
abbrev pub Floors : List ℕ → ℕ → ℕ → List ℕ → Type 0
Floors positions n m floors = (x : ℕ) → x < m → LastUpTo positions n x (get_or floors x 0)

-- what the map of a side asks: an entry at least, rising entries, and room for every length up to the side
pub record Mappable (positions : List ℕ) (n side room : ℕ) : Type 0 where
  pub some : 1 ≤ n
  pub listed : n ≤ length positions
  pub rising : Rising positions n
  pub most : side ≤ most_wide_side
  pub room_there : side < room
