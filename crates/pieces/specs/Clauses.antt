-- What the inner contracts of the listing cite: the entries of a piece, the array with a piece more, and an array that begins with pieces
-- of a job.
use Rattle.std.specs.Prelude.{◌≡◌, List, ℕ, ◌+◌, ◌*◌, ◌<◌, length, get_or, set}
use Rattle.cutting.specs.Sides.{sides_of}
use Rattle.cutting.specs.Pieces as way
use Rattle.cutting.specs.Job.{Job, laid}
use Rattle.cutting.specs.Listed.{size_in, price_in, listed_weight, node_in, node_number}
use Rattle.pieces.specs.declared.Piece.{Piece}

-- a piece of a job: its size as it lies, its kind's price and weight, and its node
abbrev pub entry_of : Job → (ℕ → ℕ) → way.Piece → Piece
entry_of J weight p = record { size = sides_of (laid J p); price = J.price (way.kind p); weight = weight (way.kind p); node = node_number p }

-- an upright piece's entries where it is turned
abbrev pub turned_piece : Piece → Piece
turned_piece e = record { size = record { length = e.size.width; width = e.size.length }; price = e.price; weight = e.weight; node = e.node + 1 }

-- the array with a piece at place j
abbrev pub with_piece : List ℕ → ℕ → Piece → List ℕ
with_piece pieces j e =
    set (set (set (set (set pieces (5 * j) e.size.length) (5 * j + 1) e.size.width) (5 * j + 2) e.price) (5 * j + 3) e.weight) (5 * j + 4) e.node

-- the array has a piece at place j
pub record At (pieces : List ℕ) (j : ℕ) (e : Piece) : Type 0 where
  pub long : (size_in pieces j).0 ≡ e.size.length
  pub wide : (size_in pieces j).1 ≡ e.size.width
  pub price : price_in pieces j ≡ e.price
  pub weight : listed_weight pieces j ≡ e.weight
  pub node : node_in pieces j ≡ e.node

-- the array begins with n pieces of a job
pub record Listed (J : Job) (weight : ℕ → ℕ) (ps : List way.Piece) (n : ℕ) (pieces : List ℕ) : Type 0 where
  pub number : n ≡ length ps
  pub entries : length pieces ≡ 640
  pub each : (j : ℕ) → j < n → At pieces j (entry_of J weight (get_or ps j (way.upright 0)))
