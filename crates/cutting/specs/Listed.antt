-- The pieces that may lie as the inner functions read them, by their numbers and from one array. They then are the kinds of a plain job,
-- and code that knows neither turned pieces, cancelled kinds nor kerf serves every job (proofs/Listed). Only inner contracts cite this file.
use Rattle.std.specs.Prelude.{◌≡◌, Bool, true, false, List, ℕ, ◌+◌, ◌*◌, ◌/◌, ◌%◌, ◌≤◌, ◌<◌, eqb, length, get_or}
use Rattle.cutting.specs.Limits.{most_wide_side, most_pieces, most_price}
use Rattle.cutting.specs.Tree.{Rect, Tree, waste, piece, cut, Shares}
use Rattle.cutting.specs.Pieces.{Piece, upright, turned, kind}
use Rattle.cutting.specs.Shares.{by_state}
use Rattle.cutting.specs.Choice.{sawn}
use Rattle.cutting.specs.Job.{Job, laid, turns, members, lossless_plan}

-- numbered pieces as a job cut without loss: n of them, each ordered once and not to be turned; its capacity is never read
abbrev pub plain : Rect → ℕ → (ℕ → Rect) → (ℕ → ℕ) → Job
plain r n size price = record { plate = r; kerf = 0; turning = false; full_demand = false; count = n; size = size; price = price; demand = λ i. 1; grain = λ i. false }

-- a plain job in the ranges that lists and table read, as that of a widened job in range is
pub record InTableRange (J : Job) : Type 0 where
  pub fixed : (i : ℕ) → turns J i ≡ false
  pub demands : (i : ℕ) → i < J.count → 1 ≤ J.demand i
  pub plate_length : (1 ≤ J.plate.0) × (J.plate.0 ≤ most_wide_side)
  pub plate_width : (1 ≤ J.plate.1) × (J.plate.1 ≤ most_wide_side)
  pub kinds : J.count ≤ most_pieces
  pub lengths : (i : ℕ) → i < J.count → (1 ≤ (J.size i).0) × ((J.size i).0 ≤ most_wide_side)
  pub widths : (i : ℕ) → i < J.count → (1 ≤ (J.size i).1) × ((J.size i).1 ≤ most_wide_side)
  pub prices : (i : ℕ) → i < J.count → J.price i ≤ most_price

-- the pieces that may lie are numbered in order
abbrev pub member_at : Job → ℕ → Piece
member_at J j = get_or (members J) j (upright 0)

-- numbers that stand for the pieces of a job: each has its piece's size as it lies, its price and its weight
pub record Listing (J : Job) (weight : ℕ → ℕ) (n : ℕ) (size : ℕ → Rect) (price heavy : ℕ → ℕ) : Type 0 where
  pub number : n ≡ length (members J)
  pub sizes : (j : ℕ) → j < n → size j ≡ laid J (member_at J j)
  pub prices : (j : ℕ) → j < n → price j ≡ J.price (kind (member_at J j))
  pub weights : (j : ℕ) → j < n → heavy j ≡ weight (kind (member_at J j))

-- the array has five entries a piece: length and width as it lies, price, weight and node. The size of piece j
abbrev pub size_in : List ℕ → ℕ → Rect
size_in pieces j = (get_or pieces (5 * j) 0, get_or pieces (5 * j + 1) 0)

-- the price of piece j
abbrev pub price_in : List ℕ → ℕ → ℕ
price_in pieces j = get_or pieces (5 * j + 2) 0

-- the weight of piece j
abbrev pub listed_weight : List ℕ → ℕ → ℕ
listed_weight pieces j = get_or pieces (5 * j + 3) 0

-- the number of the node of piece j
abbrev pub node_in : List ℕ → ℕ → ℕ
node_in pieces j = get_or pieces (5 * j + 4) 0

-- the number of a piece's node: twice its kind's, and 1 more where it is turned
abbrev pub node_number : Piece → ℕ
node_number (upright i) = 2 * i
node_number (turned i) = 2 * i + 1

-- the piece of a kind, by whether it lies upright
abbrev pub piece_way : Bool → ℕ → Piece
piece_way true i = upright i
piece_way false i = turned i

-- the piece of a node's number
abbrev pub numbered_piece : ℕ → Piece
numbered_piece number = piece_way (eqb (number % 2) 0) (number / 2)

-- a tree of numbered pieces with the pieces that the numbers stand for
abbrev pub laid_tree : List ℕ → Tree Piece → Tree Piece
laid_tree pieces waste = waste
laid_tree pieces (piece p) = piece (numbered_piece (node_in pieces (kind p)))
laid_tree pieces (cut d x a b) = cut d x (laid_tree pieces a) (laid_tree pieces b)

-- the plain job of an array of n pieces on a plate
abbrev pub pieces_job : Rect → ℕ → List ℕ → Job
pieces_job r n pieces = plain r n (size_in pieces) (price_in pieces)

-- the shares of an order of states, where the pieces' entries for their weights are their states
abbrev pub array_shares : (ℕ → ℕ → Bool) → List ℕ → Shares Piece ℕ
array_shares le pieces = by_state le (λ p. listed_weight pieces (kind p))

-- the plan of an array of n pieces on a plate, from a rectangle and a state downward: as a saw k wide cuts it, with the pieces that the
-- numbers stand for
abbrev pub array_plan : (ℕ → ℕ → Bool) → ℕ → Rect → ℕ → List ℕ → Rect → ℕ → Tree Piece
array_plan le k plate n pieces r s = sawn k r (laid_tree pieces (lossless_plan (pieces_job plate n pieces) (array_shares le pieces) r s))

-- an array that holds the pieces of a job with their weights
pub record PieceArray (J : Job) (weight : ℕ → ℕ) (n : ℕ) (pieces : List ℕ) : Type 0 where
  pub entries : length pieces ≡ 5 * most_pieces
  pub listing : Listing J weight n (size_in pieces) (price_in pieces) (listed_weight pieces)
  pub nodes : (j : ℕ) → j < n → node_in pieces j ≡ node_number (member_at J j)
