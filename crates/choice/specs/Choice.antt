-- What the contracts of the choice cite, all of them inner ones: what the choice reads, an array of pieces and the filled table of its
-- plain job, and the choice as the code answers it.
use Rattle.std.specs.Prelude.{◌≡◌, Bool, List, ℕ, ◌+◌, ◌≤◌, length, drop}
use Rattle.promises.specs.declared.Direction.TheVariants.{Length, Width}
use Rattle.promises.specs.declared.Node.TheVariants.{Waste, Cut}
use Rattle.cutting.specs.Limits.{most_capacity}
use Rattle.cutting.specs.Pieces as laid
use Rattle.cutting.specs.Choice.{Choice, as_waste, as_piece, as_cut}
use Rattle.cutting.specs.Job.{Job, plan_choice}
use Rattle.cutting.specs.Listed.{InTableRange, listed_weight, node_in, array_shares}
use Rattle.table.specs.declared.TableSize.{TableSize}
use Rattle.table.specs.Table.{position_count, words_needed}
use Rattle.table.specs.States.{Order}
use Rattle.table.specs.Clauses.{Listed, Mapped, size_job}
use Rattle.states.specs.States.{under, Figures}
use Rattle.choice.specs.declared.Cell.{Cell}
use Rattle.choice.specs.declared.Chosen.{Chosen}
use Rattle.choice.specs.Search.{numbered_node, Numbered, Ordered}

-- a plain job in range with an order of states and its kinds' own, both lists of normal positions, the floors of both sides and the table
-- filled for the states up to q
pub record Tabled (J : Job) (le : ℕ → ℕ → Bool) (own : ℕ → ℕ) (columns q : ℕ) (normal_lengths normal_widths length_floors width_floors table : List ℕ) : Type 0 where
  pub in_range : InTableRange J
  pub order : Order le
  pub columns_are : columns ≡ position_count J Width
  pub capacity_most : q ≤ most_capacity
  pub lengths_are : Listed J Length normal_lengths
  pub widths_are : Listed J Width normal_widths
  pub lengths_floored : Mapped J Length length_floors
  pub widths_floored : Mapped J Width width_floors
  pub words_there : words_needed J q ≤ length table
  pub figures : Figures J le own (q + 1) table

-- the same of an array of pieces, with the floors in one array: those of the lengths first, those of the widths from entry 1021 on
pub record ChoiceInput (size : TableSize) (blocks : List ℕ) (d : ℕ) (pieces normal_lengths normal_widths floors table : List ℕ) : Type 0 where
  pub numbered : Numbered size.count pieces
  pub ordered : Ordered blocks d
  pub floors_there : length floors ≡ 2042
  pub tabled : Tabled (size_job size pieces) (under blocks d) (listed_weight pieces) size.columns size.capacity normal_lengths normal_widths floors (drop 1021 floors) table

-- a cell whose rectangle lies on the plate, no side 0, with a share up to the capacity, which is the last state
pub record Inside (J : Job) (size : TableSize) (cell : Cell) : Type 0 where
  pub some_length : 1 ≤ cell.sides.length
  pub on_length : cell.sides.length ≤ J.plate.0
  pub some_width : 1 ≤ cell.sides.width
  pub on_width : cell.sides.width ≤ J.plate.1
  pub in_capacity : cell.share ≤ size.capacity

-- the choice among the pieces of an array as the code answers it: the node, and of a cut the first part's share
abbrev pub chosen_of : List ℕ → Choice laid.Piece ℕ → Chosen
chosen_of pieces as_waste = record { node = Waste; share = 0 }
chosen_of pieces (as_piece p) = record { node = numbered_node (node_in pieces (laid.kind p)); share = 0 }
chosen_of pieces (as_cut d x q) = record { node = Cut d x; share = q.0 }

-- the choice at a cell
abbrev pub chosen_at : (ℕ → ℕ → Bool) → TableSize → List ℕ → Cell → Chosen
chosen_at le size pieces cell = chosen_of pieces (plan_choice (size_job size pieces) (array_shares le pieces) cell.sides.length cell.sides.width cell.share)
