-- What only the inner contracts of the writing call cite: the walk down a plan by a list of waiting cells in one array, three entries a
-- cell, the next cell last; and what a verdict makes of the answer and of the plan arrays.
use Rattle.std.specs.Prelude.{◌≡◌, Bool, false, List, [], ◌∷◌, ◌++◌, ℕ, zero, suc, ◌+◌, ◌*◌, ◌≤◌, ◌<◌, leb, length, get_or, set}
use Rattle.std.proofs.lemmas.List.Edits.{sets}
use Rattle.promises.specs.declared.Node.{Node}
use Rattle.promises.specs.declared.Node.TheVariants.{Waste, Piece, Turned, Cut}
use Rattle.cutting.specs.Tree.{Rect, side, part, Tree}
use Rattle.cutting.specs.Preorder.{preorder, kinds_of, operands_of, node_count}
use Rattle.cutting.specs.Limits.{most_capacity}
use Rattle.cutting.specs.Pieces as laid
use Rattle.cutting.specs.declared.Sides.{Sides}
use Rattle.cutting.specs.Sides.{rect_of, sides_of}
use Rattle.cutting.specs.Job.{Job, InRange, KindsAbove}
use Rattle.cutting.specs.Listed.{array_plan}
use Rattle.refusal.specs.Refusals.{Answer, Checked, answer_by, next, first_refusal}
use Rattle.table.specs.declared.TableSize.{TableSize}
use Rattle.table.specs.Clauses.{size_job}
use Rattle.states.specs.States.{under}
use Rattle.promises.specs.declared.BoundReport.{BoundReport}
use Rattle.bound.specs.Bound.{Memory, memory_checks, list_after}
use Rattle.choice.specs.declared.Cell.{Cell}
use Rattle.choice.specs.declared.Chosen.{Chosen}
use Rattle.choice.specs.Choice.{ChoiceInput, Inside, chosen_at}
use Rattle.writer.specs.declared.Sawing.{Sawing}
use Rattle.writer.specs.declared.nodes.Settled.{Settled}
use Rattle.writer.specs.declared.nodes.Step.{Step}
use Rattle.writer.specs.Write.{nodes_verdict, reported}
use Rattle.promises.specs.declared.WriteReport.{WriteReport}

-- the cell at place i: its length, width and share
abbrev pub cell_at : List ℕ → ℕ → Cell
cell_at waiting i = record { sides = record { length = get_or waiting (3 * i) 0; width = get_or waiting (3 * i + 1) 0 }; share = get_or waiting (3 * i + 2) 0 }

-- the list with a cell at place i
abbrev pub with_cell : List ℕ → ℕ → Cell → List ℕ
with_cell waiting i cell = set (set (set waiting (3 * i) cell.sides.length) (3 * i + 1) cell.sides.width) (3 * i + 2) cell.share

-- the plan from a cell downward over an order of states, as the saw cuts it: that of the plain job of the array, with the pieces that the
-- numbers stand for
abbrev pub plan_at : (ℕ → ℕ → Bool) → ℕ → TableSize → List ℕ → Cell → Tree laid.Piece
plan_at le kerf size pieces cell = array_plan le kerf (size.length, size.width) size.count pieces (rect_of cell.sides) cell.share

-- the cell of the plate with all of the capacity
abbrev pub plate_cell : TableSize → Cell
plate_cell size = record { sides = record { length = size.length; width = size.width }; share = size.capacity }

-- the plan from that cell
abbrev pub whole_plan : (ℕ → ℕ → Bool) → ℕ → TableSize → List ℕ → Tree laid.Piece
whole_plan le kerf size pieces = plan_at le kerf size pieces (plate_cell size)

-- the nodes to come: the plans of the first n waiting cells in preorder, the last cell's first
unfoldable pub nodes_left : (ℕ → ℕ → Bool) → ℕ → TableSize → List ℕ → List ℕ → ℕ → List Node
nodes_left le kerf size pieces waiting zero = []
nodes_left le kerf size pieces waiting (suc n) = preorder (plan_at le kerf size pieces (cell_at waiting n)) ++ nodes_left le kerf size pieces waiting n

-- a cut is left out: its second part would be below 1
abbrev pub left_out : ℕ → Node → Rect → Bool
left_out kerf Waste r = false
left_out kerf (Piece i) r = false
left_out kerf (Turned i) r = false
left_out kerf (Cut d x) r = leb (side d r) (x + kerf)

-- the cell of a cut's first part
abbrev pub first_of : Cell → Chosen → Node → Cell
first_of cell chosen Waste = cell
first_of cell chosen (Piece i) = cell
first_of cell chosen (Turned i) = cell
first_of cell chosen (Cut d x) = record { sides = sides_of (part d x (rect_of cell.sides)); share = chosen.share }

-- the half perimeter of a cell
abbrev pub half_of : Cell → ℕ
half_of cell = cell.sides.length + cell.sides.width

-- the cell that the plan of a cell goes on with, past the cuts that are left out, and the choice there
pub record SettledAt (le : ℕ → ℕ → Bool) (kerf : ℕ) (size : TableSize) (pieces : List ℕ) (cell : Cell) (r : Settled) : Type 0 where
  pub same : plan_at le kerf size pieces cell ≡ plan_at le kerf size pieces r.cell
  pub choice : r.chosen ≡ chosen_at le size pieces r.cell
  pub inside : Inside (size_job size pieces) size r.cell
  pub smaller : half_of r.cell ≤ half_of cell
  pub remains : left_out kerf r.chosen.node (rect_of r.cell.sides) ≡ false

-- every side of the pieces is above the kerf, which was added to it
abbrev pub Thick : ℕ → TableSize → List ℕ → Type 0
Thick kerf size pieces = KindsAbove kerf (size_job size pieces)

-- what a plan is read from: a filled table with its lists and floors, of pieces above the kerf
abbrev pub Readable : Sawing → (blocks pieces normal_lengths normal_widths floors table : List ℕ) → Type 0
Readable sawing blocks pieces normal_lengths normal_widths floors table =
    ChoiceInput sawing.size blocks sawing.d pieces normal_lengths normal_widths floors table × Thick sawing.kerf sawing.size pieces

-- the plan that is read
abbrev pub sawn_plan : Sawing → List ℕ → List ℕ → Tree laid.Piece
sawn_plan sawing blocks pieces = whole_plan (under blocks sawing.d) sawing.kerf sawing.size pieces

-- each of the first n cells lies on the plate, and its half perimeter and its place are at most the plate's half perimeter
pub record Waiting (size : TableSize) (pieces waiting : List ℕ) (n : ℕ) : Type 0 where
  pub entries : length waiting ≡ 6120
  pub inside : (i : ℕ) → i < n → Inside (size_job size pieces) size (cell_at waiting i)
  pub smaller : (i : ℕ) → i < n → (cell_at waiting i).sides.length + (cell_at waiting i).sides.width + i ≤ size.length + size.width

-- a step takes the first of the nodes to come
pub record Stepped (le : ℕ → ℕ → Bool) (kerf : ℕ) (size : TableSize) (pieces old new : List ℕ) (n : ℕ) (step : Step) : Type 0 where
  pub nodes : nodes_left le kerf size pieces old n ≡ step.node ∷ nodes_left le kerf size pieces new step.depth
  pub waits : Waiting size pieces new step.depth

-- the nodes of a tree are counted, and listed from the first entries of two lists on, as far as the lists go
pub record NodesListed (t : Tree laid.Piece) (kinds operands new_kinds new_operands : List ℕ) (n : ℕ) : Type 0 where
  pub number : n ≡ node_count t
  pub kinds_listed : new_kinds ≡ sets kinds 0 (kinds_of t)
  pub operands_listed : new_operands ≡ sets operands 0 (operands_of t)

-- the size of the table that a report is of
abbrev pub table_of : Sides → ℕ → BoundReport → TableSize
table_of plate count report = record { length = plate.length; width = plate.width; count = count; rows = report.length_count; columns = report.columns; capacity = report.capacity }

-- a job that was read, and weights and a capacity that were accepted for it
pub record Weighed (J : Job) (ws : List ℕ) (q : ℕ) : Type 0 where
  pub in_range : InRange J
  pub weights : J.count ≤ length ws
  pub most : q ≤ most_capacity

-- the verdict of the checks that an accepted job is left to: 19, 20, then 21
abbrev pub room_verdict : Job → ℕ → Memory → Tree laid.Piece → List ℕ → List ℕ → Checked
room_verdict J q m t kinds operands = next (first_refusal (memory_checks J q m)) (nodes_verdict t kinds operands)

-- what a verdict makes of the answer, and of the plan arrays: the plan over their old contents, or as they were
pub record Planned (v : Checked) (b : BoundReport) (t : Tree laid.Piece) (kinds operands new_kinds new_operands : List ℕ) (r : Answer WriteReport) : Type 0 where
  pub answer : r ≡ answer_by v (reported b (node_count t))
  pub kinds_left : new_kinds ≡ list_after v (kinds_of t) kinds
  pub operands_left : new_operands ≡ list_after v (operands_of t) operands
