-- What the functions of the walk promise: the list of rectangles that wait in two arrays, and a node of the plan's arrays.
use Rattle.std.specs.Prelude.{◌≡◌, List, [], ◌∷◌, ℕ, zero, suc, ◌+◌, ◌≤◌, ◌<◌, length, get_or}
use Rattle.promises.specs.declared.Node.{Node}
use Rattle.promises.specs.declared.Node.TheVariants.{Waste, Piece, Turned, Cut}
use Rattle.cutting.specs.Limits.{most_nodes}
use Rattle.cutting.specs.Tree.{Rect, side}
use Rattle.promises.specs.declared.JobRecord.{JobRecord}
use Rattle.node.specs.declared.Tally.{Tally}
use Rattle.node.specs.declared.NodeEntry.{NodeEntry}
use Rattle.node.specs.declared.Rules.{Rules}

-- the first n rectangles of two arrays, the last one first
unfoldable pub waiting : List ℕ → List ℕ → ℕ → List Rect
waiting lengths widths zero = []
waiting lengths widths (suc n) = (get_or lengths n 0, get_or widths n 0) ∷ waiting lengths widths n

-- the sums before any node
abbrev pub no_sums : Tally
no_sums = record { profit = 0; pieces = 0; waste = 0; trim = 0; sawdust = 0 }

-- what a job that was read says of every node
abbrev pub rules_of : JobRecord → Rules
rules_of j = record { count = j.count; turning = j.turning; kerf = j.kerf }

-- node k of a plan's arrays
abbrev pub entry_at : List ℕ → List ℕ → ℕ → NodeEntry
entry_at kinds operands k = record { at = k; kind = get_or kinds k 0; operand = get_or operands k 0 }

-- a cut's position and the kerf are together at most the side that it divides
abbrev pub CutInside : ℕ → Node → Rect → Type 0
CutInside kerf Waste r = Unit {0}
CutInside kerf (Piece i) r = Unit {0}
CutInside kerf (Turned i) r = Unit {0}
CutInside kerf (Cut d x) r = x + kerf ≤ side d r

-- the two arrays of the rectangles that wait have 4,096 places
abbrev pub Held : List ℕ → List ℕ → Type 0
Held lengths widths = (length lengths ≡ 4096) × (length widths ≡ 4096)

-- of n rectangles that wait the last one has a node, and there is a place for a part more
pub record Opens (kerf : ℕ) (node : Node) (r : Rect) (lengths widths : List ℕ) (n : ℕ) : Type 0 where
  pub some : 1 ≤ n
  pub place : n < 4096
  pub inside : CutInside kerf node r
  pub held : Held lengths widths

-- two arrays of one length, of at most 4,095 nodes
abbrev pub Walkable : List ℕ → List ℕ → Type 0
Walkable kinds operands = (length kinds ≡ length operands) × (length kinds ≤ most_nodes)
