-- What the inner contracts of the choice's two searches cite: the lowest-numbered piece that earns a value and the node that lays it, and
-- the first pair of position and share whose two words of the table sum to it.
use Rattle.std.specs.Prelude.{Bool, true, false, ◌&&◌, List, ℕ, ◌+◌, ◌-◌, ◌*◌, ◌/◌, ◌%◌, ◌≤◌, ◌<◌, eqb, length, get_or, drop, Option, None, Some}
use Rattle.std.proofs.Math.Option as maybe
use Rattle.promises.specs.declared.Direction.TheVariants.{Length, Width}
use Rattle.promises.specs.declared.Node.{Node}
use Rattle.promises.specs.declared.Node.TheVariants.{Waste, Piece, Turned, Cut}
use Rattle.cutting.specs.Limits.{most_pieces, most_capacity, most_wide_figure}
use Rattle.cutting.specs.Lists.{range, first, pairs}
use Rattle.cutting.specs.Pieces.{fits_in}
use Rattle.cutting.specs.Sides.{rect_of}
use Rattle.cutting.specs.Listed.{size_in, price_in, listed_weight, node_in}
use Rattle.table.specs.States.{Blocks}
use Rattle.table.specs.declared.TableSize.{TableSize}
use Rattle.choice.specs.declared.Cell.{Cell}
use Rattle.choice.specs.declared.Place.{Place}
use Rattle.choice.specs.declared.CutSearch.{CutSearch}
use Rattle.choice.specs.declared.Chosen.{Chosen}

-- the node that lays a kind, upright or turned
abbrev pub node_way : Bool → ℕ → Node
node_way true i = Piece i
node_way false i = Turned i

-- the node of a number: 2i lays kind i upright, and 2i + 1 lays it turned
abbrev pub numbered_node : ℕ → Node
numbered_node number = node_way (eqb (number % 2) 0) (number / 2)

-- an order of states as its test asks it: the numbers of states that the digits up to d have together
abbrev pub Ordered : List ℕ → ℕ → Type 0
Ordered blocks d = Blocks (λ i. get_or blocks i 0) d × (d < length blocks)

-- whether piece j fits the cell, has a state within its share and the value as its price
abbrev pub piece_test : (ℕ → ℕ → Bool) → List ℕ → Cell → ℕ → ℕ → Bool
piece_test le pieces cell value j = (fits_in (size_in pieces j) (rect_of cell.sides) && le (listed_weight pieces j) cell.share) && eqb (price_in pieces j) value

-- the node of the piece that a search found
abbrev pub piece_found : List ℕ → maybe.Option ℕ → Option Node
piece_found pieces maybe.none = None
piece_found pieces (maybe.some j) = Some (numbered_node (node_in pieces j))

-- so many pieces stand in the array, each with the number of a node
pub record Numbered (count : ℕ) (pieces : List ℕ) : Type 0 where
  pub counted : count ≤ most_pieces
  pub nodes : (j : ℕ) → j < count → node_in pieces j < 128

-- whether the i-th position with share k for the first part, within the share, earns the value: the first part has row i of the table, the
-- second the row of the floor of the true remainder
abbrev pub pair_test : (ℕ → ℕ → Bool) → List ℕ → List ℕ → List ℕ → CutSearch → ℕ × ℕ → Bool
pair_test le positions floors table cut u =
    eqb (get_or table (u.0 * cut.stride + cut.base + u.1) 0 + get_or table (get_or floors (cut.side - get_or positions u.0 0) 0 * cut.stride + cut.base + (cut.share - u.1)) 0) cut.value && le u.1 cut.share

-- the first pair that earns the value: the positions from the first to the last but one rising, and for each the shares rising
unfoldable pub first_index : (ℕ → ℕ → Bool) → List ℕ → List ℕ → List ℕ → CutSearch → maybe.Option (ℕ × ℕ)
first_index le positions floors table cut = first (pair_test le positions floors table cut) (pairs (range 1 (cut.last - 1)) (range 0 (cut.share + 1)))

-- the cut that a search found: its position and the first part's share
abbrev pub cut_found : List ℕ → maybe.Option (ℕ × ℕ) → Option (ℕ × ℕ)
cut_found positions maybe.none = None
cut_found positions (maybe.some u) = Some (get_or positions u.0 0, u.1)

-- a width cut that was found, or waste
abbrev pub or_width_cut : Option (ℕ × ℕ) → Chosen
or_width_cut None = record { node = Waste; share = 0 }
or_width_cut (Some u) = record { node = Cut Width u.0; share = u.1 }

-- a length cut that was found, or what follows
abbrev pub or_length_cut : Option (ℕ × ℕ) → Chosen → Chosen
or_length_cut None r = r
or_length_cut (Some u) r = record { node = Cut Length u.0; share = u.1 }

-- the search for a length cut of a cell
abbrev pub length_search : TableSize → Cell → Place → CutSearch
length_search size cell at =
    record { side = cell.sides.length; last = at.a; stride = size.columns * (size.capacity + 1); base = at.b * (size.capacity + 1); share = cell.share; value = at.value }

-- the search for a width cut
abbrev pub width_search : TableSize → Cell → Place → CutSearch
width_search size cell at =
    record { side = cell.sides.width; last = at.b; stride = size.capacity + 1; base = at.a * (size.columns * (size.capacity + 1)); share = cell.share; value = at.value }

-- the length cut, or failing it the width cut, or waste; the floors of the widths stand from entry 1021 on
abbrev pub cut_chosen : (ℕ → ℕ → Bool) → List ℕ → List ℕ → List ℕ → List ℕ → TableSize → Cell → Place → Chosen
cut_chosen le normal_lengths normal_widths floors table size cell at = or_length_cut (cut_found normal_lengths (first_index le normal_lengths floors table (length_search size cell at)))
    (or_width_cut (cut_found normal_widths (first_index le normal_widths (drop 1021 floors) table (width_search size cell at))))

-- a row of the table, from share 0 up to that of the search: its words are there, and the sum of two of them does not wrap
abbrev pub Row : List ℕ → CutSearch → ℕ → Type 0
Row table cut i = (k : ℕ) → k ≤ cut.share → (i * cut.stride + cut.base + k < length table) × (get_or table (i * cut.stride + cut.base + k) 0 ≤ most_wide_figure)

-- what the search for a cut reads: the positions below the last are listed and not above the side, and their rows and those of the
-- remainders are there
pub record Searchable (positions floors table : List ℕ) (cut : CutSearch) : Type 0 where
  pub mapped : cut.side < length floors
  pub shares : cut.share ≤ most_capacity
  pub listed : (i : ℕ) → i < cut.last → (i < length positions) × (get_or positions i 0 ≤ cut.side)
  pub rows : (i : ℕ) → i < cut.last → Row table cut i
  pub remainders : (x : ℕ) → x ≤ cut.side → Row table cut (get_or floors x 0)
