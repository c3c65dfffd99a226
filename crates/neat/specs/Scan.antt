-- What the functions of the scan promise: one node over the used sizes of the trees after it, what is written of it, and what the scan is
-- given. It serves a job's own sizes and its true sizes alike.
use Rattle.std.specs.Prelude.{◌≡◌, Bool, true, false, List, [], ◌∷◌, ◌++◌, ℕ, zero, suc, ◌+◌, ◌-◌, ◌*◌, ◌≤◌, ◌<◌, min, length, get_or, set}
use Rattle.promises.specs.declared.Direction.{Direction}
use Rattle.promises.specs.declared.Node.{Node}
use Rattle.promises.specs.declared.Node.TheVariants.{Waste, Piece, Turned, Cut}
use Rattle.cutting.specs.Limits.{most_kinds, most_true_side, most_true_kerf}
use Rattle.cutting.specs.Tree.{Rect, side, Tree, cut, piece, piece_count}
use Rattle.cutting.specs.Pieces as laid
use Rattle.cutting.specs.Pieces.{◌⊑◌, lying}
use Rattle.cutting.specs.Preorder.{preorder, kind_of, operand_of, node_count}
use Rattle.cutting.specs.Neat.{joined, used, neat}
use Rattle.cutting.specs.Relaxation.{Every}
use Rattle.node.specs.Nodes.{of_piece}
use Rattle.plan.specs.Plan.{node_of, nodes_in}
use Rattle.plan.specs.Walk.{waiting, Walkable}
use Rattle.plan.specs.Trees.{trees_in}
use Rattle.neat.specs.declared.Used.{Used}
use Rattle.neat.specs.declared.Entry.{Entry}
use Rattle.neat.specs.declared.Step.{Step}
use Rattle.promises.specs.Refusals.{answer_by, Checked, Answer}
use Rattle.neat.specs.Neat.{NeatLeaves}

-- the rectangle of a used size
abbrev pub used_rect : Used → Rect
used_rect u = (u.length, u.width)

-- the used size of a rectangle
abbrev pub as_used : Rect → Used
as_used r = record { length = r.0; width = r.1 }

-- what the arrays have of a node
abbrev pub entry_of : Node → Entry
entry_of n = record { kind = kind_of n; operand = operand_of n }

-- the most used sizes that are kept: half of the nodes of a plan, and one more
abbrev pub most_kept : ℕ
most_kept = 2048

-- the two arrays of the used sizes have a place more
abbrev pub Kept : List ℕ → List ℕ → Type 0
Kept lengths widths = (length lengths ≡ 2049) × (length widths ≡ 2049)

-- what a side above the greatest true side is told as
abbrev pub most_told : ℕ
most_told = 100000001

-- a side as it is told
abbrev pub told_side : ℕ → ℕ
told_side n = min n most_told

-- a used size as it is told
abbrev pub told : Rect → Rect
told r = (told_side r.0, told_side r.1)

-- no side is told as more
abbrev pub told_sides : Rect
told_sides = (most_told, most_told)

-- a cut whose parts have the used lengths m and n, 0 where there is no piece: where it remains; waste stands for nothing
abbrev pub moved : Direction → ℕ → ℕ → ℕ → Node
moved d zero n x = Waste
moved d (suc m) zero x = Waste
moved d (suc m) (suc n) x = Cut d x

-- the used sizes with one node in front, whose piece has the size s as it lies: a used length of 0 tells that there is no piece
abbrev pub used_with : ℕ → Rect → Node → List Rect → List Rect
used_with k s Waste us = s ∷ us
used_with k s (Piece i) us = s ∷ us
used_with k s (Turned i) us = s ∷ us
used_with k s (Cut d x) [] = []
used_with k s (Cut d x) (u ∷ []) = u ∷ []
used_with k s (Cut d x) (u ∷ v ∷ us) = told (joined k d u.0 v.0 u v) ∷ us

-- what a node becomes over the used sizes after it
abbrev pub becomes : Node → List Rect → Node
becomes Waste us = Waste
becomes (Piece i) us = Piece i
becomes (Turned i) us = Turned i
becomes (Cut d x) [] = Waste
becomes (Cut d x) (u ∷ []) = Waste
becomes (Cut d x) (u ∷ v ∷ us) = moved d u.0 v.0 (side d u)

-- a piece has a number below 64
abbrev pub Numbered : Node → Type 0
Numbered n = of_piece (λ p. laid.kind p < most_kinds) (Unit {0}) n

-- the size of a node's piece as it lies, from the arrays of the kinds, and nothing for another node
abbrev pub node_size : List ℕ → List ℕ → Node → Rect
node_size lengths widths n = of_piece (λ p. lying (λ i. (get_or lengths i 0, get_or widths i 0)) p) (0, 0) n

-- used sizes that the step can read: a cut has two after it, which are told
abbrev pub Ready : Node → List Rect → Type 0
Ready Waste us = Unit {0}
Ready (Piece i) us = Unit {0}
Ready (Turned i) us = Unit {0}
Ready (Cut d x) [] = ⊥
Ready (Cut d x) (u ∷ []) = ⊥
Ready (Cut d x) (u ∷ v ∷ us) = (u ⊑ told_sides) × (v ⊑ told_sides)

-- one node over the n used sizes of two arrays: what it becomes, and the used sizes with its tree's
pub record Stepped (k : ℕ) (size : Rect) (node : Node) (lengths widths : List ℕ) (n : ℕ) (s : Step) : Type 0 where
  pub entry_is : s.entry ≡ entry_of (becomes node (waiting lengths widths n))
  pub used_are : used_rect s.used ∷ waiting lengths widths s.below ≡ used_with k size node (waiting lengths widths n)
  pub below_most : s.below ≤ n

-- the same, put on top of those that stay
pub record Advanced (k : ℕ) (size : Rect) (node : Node) (lengths widths new_lengths new_widths : List ℕ) (n : ℕ) (s : Step) : Type 0 where
  pub entry_is : s.entry ≡ entry_of (becomes node (waiting lengths widths n))
  pub used_are : waiting new_lengths new_widths (s.below + 1) ≡ used_with k size node (waiting lengths widths n)
  pub below_most : s.below ≤ n
  pub kept : Kept new_lengths new_widths

-- whether a node of a kind is written: all but waste are
abbrev pub remains : ℕ → Bool
remains zero = false
remains (suc k) = true

-- an entry stored, where a test passes
abbrev pub put_when : Bool → List ℕ → ℕ → ℕ → List ℕ
put_when true l i v = set l i v
put_when false l i v = l

-- a list of n pieces, or nothing where there is none
abbrev pub unless_none : {A : Type 0} → ℕ → List A → List A
unless_none zero l = []
unless_none (suc n) l = l

-- the neat plans of trees one after another, those of trees without a piece left out, where a cut loses the kerf and size gives the pieces'
-- sizes as they lie
unfoldable pub neat_nodes : ℕ → (laid.Piece → Rect) → List (Tree laid.Piece) → List Node
neat_nodes kerf size [] = []
neat_nodes kerf size (t ∷ ts) = unless_none (piece_count t) (preorder (neat kerf size t)) ++ neat_nodes kerf size ts

-- the pieces of a plan's kinds
unfoldable pub pieces_in : List ℕ → ℕ
pieces_in [] = 0
pieces_in (k ∷ ks) = of_piece (λ p. 1) 0 (node_of k 0) + pieces_in ks

-- the nodes of a neat plan of n pieces
abbrev pub nodes_for : ℕ → ℕ
nodes_for zero = 1
nodes_for (suc n) = 2 * suc n - 1

-- no side of a rectangle is 0 or above the greatest true side
abbrev pub Fair : Rect → Type 0
Fair r = ((1 ≤ r.0) × (r.0 ≤ most_true_side)) × ((1 ≤ r.1) × (r.1 ≤ most_true_side))

-- a tree whose pieces have numbers below 64 and such sizes
abbrev pub Known : (laid.Piece → Rect) → Tree laid.Piece → Type 0
Known size t = Every (λ p. (laid.kind p < most_kinds) × Fair (size p)) t

-- a tree whose used size is no larger than a plate
abbrev pub Within : ℕ → (laid.Piece → Rect) → Rect → Tree laid.Piece → Type 0
Within kerf size plate t = used kerf size t ⊑ plate

-- the used size of a tree, as it is told
abbrev pub told_of : ℕ → (laid.Piece → Rect) → Tree laid.Piece → Rect
told_of kerf size t = told (used kerf size t)

-- the size of a node's piece, and nothing for another node
abbrev pub size_of : (laid.Piece → Rect) → Node → Rect
size_of size n = of_piece size (0, 0) n

-- a node in front of trees: what holds of the tree that it makes, of a piece or of a cut
abbrev pub Makes : (Tree laid.Piece → Type 0) → Node → List (Tree laid.Piece) → Type 0
Makes Q Waste ts = Unit {0}
Makes Q (Piece i) ts = Q (piece (laid.upright i))
Makes Q (Turned i) ts = Q (piece (laid.turned i))
Makes Q (Cut d x) [] = ⊥
Makes Q (Cut d x) (a ∷ []) = ⊥
Makes Q (Cut d x) (a ∷ b ∷ ts) = Q (cut d x a b)

-- every node of a list does
abbrev pub AllMake : (Tree laid.Piece → Type 0) → List (ℕ × ℕ) → Type 0
AllMake Q [] = Unit {0}
AllMake Q (n ∷ ns) = Makes Q (node_of n.0 n.1) (trees_in ns) × AllMake Q ns

-- what every scan is given: a kerf and sizes that it can add, and the nodes of one tree
pub record Scannable (kerf : ℕ) (size : laid.Piece → Rect) (kinds operands : List ℕ) : Type 0 where
  pub kerfs : kerf ≤ most_true_kerf
  pub walkable : Walkable kinds operands
  pub one : length (trees_in (nodes_in kinds operands)) ≤ 1
  pub known : AllMake (Known size) (nodes_in kinds operands)

-- what a scan that writes is given besides: used sizes within a plate that is not too great, and room for as many nodes as are written
pub record Writable (kerf : ℕ) (size : laid.Piece → Rect) (plate : Rect) (kinds operands old_kinds old_operands : List ℕ) (needed : ℕ) : Type 0 where
  pub scannable : Scannable kerf size kinds operands
  pub fair : Fair plate
  pub within : AllMake (Within kerf size plate) (nodes_in kinds operands)
  pub counts : needed ≡ length (neat_nodes kerf size (trees_in (nodes_in kinds operands)))
  pub kinds_room : needed ≤ length old_kinds
  pub operands_room : needed ≤ length old_operands

-- what an answer to a job that was read says and leaves
pub record Neatened (v : Checked) (t : Tree laid.Piece) (old_kinds old_operands new_kinds new_operands : List ℕ) (r : Answer ℕ) : Type 0 where
  pub answers : r ≡ answer_by v (node_count t)
  pub memory : NeatLeaves v t old_kinds old_operands new_kinds new_operands
