-- Plans: a tree's nodes in preorder and the arrays that hold them, its report, idle cuts, stages at each node, the neat tree, and what a plan
-- is: the preorder of a guillotine tree that keeps every demand.
-- docs/SCOPE.md: Plans; The report; No idle cuts; Neat plans; No more than so many stages.
use Rattle.std.specs.Prelude.{◌≡◌, Bool, true, false, List, [], ◌∷◌, ◌++◌, ℕ, zero, suc, ◌+◌, ◌-◌, ◌*◌, ◌≤◌, max, ltb, eqb, length, replicate}
use Rattle.std.proofs.Math.Option.{Option, none, some}
use mathlib.Core.List.{map}
use Rattle.promises.specs.Prelude.{Direction, Length, Width, Node, Report}
use Rattle.promises.specs.declared.Node.TheVariants as node
use Rattle.promises.specs.declared.Refusal.TheVariants.{IdleCut, ManyStages}
use Rattle.promises.specs.Lists.{entries}
use Rattle.promises.specs.Refusals.{Check, most_nodes, most_kinds}
use Rattle.promises.specs.Job.{Rect, side, part, area, Piece, upright, turned, Tree, waste, piece, cut, total, piece_count, Job, laid, OnPlate, profit, copies_of, KeepsDemands, path_stages}

-- a tree's nodes in preorder: a node, its first part, its second part
unfoldable pub preorder : Tree Piece → List Node
preorder waste = node.Waste ∷ []
preorder (piece (upright i)) = node.Piece i ∷ []
preorder (piece (turned i)) = node.Turned i ∷ []
preorder (cut d x a b) = node.Cut d x ∷ (preorder a ++ preorder b)

-- a node's kind: 0 waste, 1 a piece upright, 2 a length cut, 3 a width cut, 4 a piece turned
abbrev pub kind_of : Node → ℕ
kind_of node.Waste = 0
kind_of (node.Piece i) = 1
kind_of (node.Turned i) = 4
kind_of (node.Cut Length x) = 2
kind_of (node.Cut Width x) = 3

-- a node's operand: 0 for waste, a piece's number, a cut's position
abbrev pub operand_of : Node → ℕ
operand_of node.Waste = 0
operand_of (node.Piece i) = i
operand_of (node.Turned i) = i
operand_of (node.Cut d x) = x

-- the number of a tree's nodes
unfoldable pub node_count : Tree Piece → ℕ
node_count t = length (preorder t)

-- the kinds array of a tree
unfoldable pub kinds_of : Tree Piece → List ℕ
kinds_of t = map (λ n. kind_of n) (preorder t)

-- the operands array of a tree
unfoldable pub operands_of : Tree Piece → List ℕ
operands_of t = map (λ n. operand_of n) (preorder t)

-- one of two nodes, by a test
abbrev pub pick : Bool → Node → Node → Node
pick true a b = a
pick false a b = b

-- the node of a kind from 0 to 4 and an operand
abbrev pub node_of : ℕ → ℕ → Node
node_of kind operand = pick (eqb kind 0) node.Waste (pick (eqb kind 1) (node.Piece operand) (pick (eqb kind 2) (node.Cut Length operand) (pick (eqb kind 3) (node.Cut Width operand) (node.Turned operand))))

-- the nodes of two arrays, each a kind and an operand
abbrev pub nodes_in : List ℕ → List ℕ → List (ℕ × ℕ)
nodes_in [] os = []
nodes_in (k ∷ ks) [] = []
nodes_in (k ∷ ks) (o ∷ os) = (k, o) ∷ nodes_in ks os

-- a node in front of trees: a cut takes the first two as its parts, where they are there
abbrev pub with_node : Node → List (Tree Piece) → List (Tree Piece)
with_node node.Waste ts = waste ∷ ts
with_node (node.Piece i) ts = piece (upright i) ∷ ts
with_node (node.Turned i) ts = piece (turned i) ∷ ts
with_node (node.Cut d x) [] = []
with_node (node.Cut d x) (a ∷ []) = a ∷ []
with_node (node.Cut d x) (a ∷ b ∷ ts) = cut d x a b ∷ ts

-- the trees that a list of nodes draws one after another, read from the last node to the first
unfoldable pub trees_in : List (ℕ × ℕ) → List (Tree Piece)
trees_in [] = []
trees_in (n ∷ ns) = with_node (node_of n.0 n.1) (trees_in ns)

-- the first of some trees
abbrev pub first_tree : List (Tree Piece) → Tree Piece
first_tree [] = waste
first_tree (t ∷ ts) = t

-- the tree that a plan's arrays draw: that of the plan where it passes
abbrev pub tree_in : List ℕ → List ℕ → Tree Piece
tree_in kinds operands = first_tree (trees_in (nodes_in kinds operands))

-- The areas of a tree on a rectangle, the blade k wide: a cut leaves its position and the side less it less k.
-- the side along which a cut runs
abbrev pub breadth : Direction → Rect → ℕ
breadth Length r = r.1
breadth Width r = r.0

-- a cut's second part
abbrev pub rest : ℕ → Direction → ℕ → Rect → Rect
rest k d x r = part d (side d r - x - k) r

-- the area of the waste nodes
unfoldable pub waste_area : ℕ → Rect → Tree Piece → ℕ
waste_area k r waste = area r
waste_area k r (piece p) = 0
waste_area k r (cut d x a b) = waste_area k (part d x r) a + waste_area k (rest k d x r) b

-- the area of the trim, what its pieces leave of the rectangles that they lie on
unfoldable pub trim_area : (Piece → Rect) → ℕ → Rect → Tree Piece → ℕ
trim_area size k r waste = 0
trim_area size k r (piece p) = area r - area (size p)
trim_area size k r (cut d x a b) = trim_area size k (part d x r) a + trim_area size k (rest k d x r) b

-- the area of the sawdust: at each cut k times the side along which it runs
unfoldable pub sawdust_area : ℕ → Rect → Tree Piece → ℕ
sawdust_area k r waste = 0
sawdust_area k r (piece p) = 0
sawdust_area k r (cut d x a b) = k * breadth d r + (sawdust_area k (part d x r) a + sawdust_area k (rest k d x r) b)

-- a tree's own report: profit, copies of each kind (0 for numbers past the job's), and four areas on the plate
abbrev pub tree_report : Job → Tree Piece → Report
tree_report J t = record {
  profit = profit J t;
  copies = entries (λ i. copies_of i t) J.count;
  pieces = total (λ p. area (laid J p)) t;
  waste = waste_area J.kerf J.plate t;
  trim = trim_area (laid J) J.kerf J.plate t;
  sawdust = sawdust_area J.kerf J.plate t;
}

-- the report before any node is read: zeros
abbrev pub empty_report : Report
empty_report = record { profit = 0; copies = replicate most_kinds 0; pieces = 0; waste = 0; trim = 0; sawdust = 0 }

-- no cut is idle: of the two parts of each cut one at least holds a piece
abbrev pub IdleFree : {P : Type 0} → Tree P → Type 0
IdleFree waste = Unit {0}
IdleFree (piece p) = Unit {0}
IdleFree (cut d x a b) = (1 ≤ piece_count a + piece_count b) × IdleFree a × IdleFree b

-- check 26 of a tree's nodes in preorder, its own numbered k: a cut is idle where its parts hold no piece
unfoldable pub tree_checks : ℕ → Tree Piece → List Check
tree_checks k waste = (false, IdleCut k) ∷ []
tree_checks k (piece p) = (false, IdleCut k) ∷ []
tree_checks k (cut d x a b) = (eqb (piece_count a + piece_count b) 0, IdleCut k) ∷ (tree_checks (k + 1) a ++ tree_checks (k + 1 + node_count a) b)

-- the directions of the cuts from the plate down through each node, nodes in preorder
unfoldable pub node_paths : Tree Piece → List (List Direction)
node_paths waste = [] ∷ []
node_paths (piece p) = [] ∷ []
node_paths (cut d x a b) = (d ∷ []) ∷ map (λ p. d ∷ p) (node_paths a ++ node_paths b)

-- the stages of nodes numbered from i on: one above the limit k is refused there
unfoldable pub above_checks : ℕ → ℕ → List ℕ → List Check
above_checks k i [] = []
above_checks k i (s ∷ ss) = (ltb k s, ManyStages i) ∷ above_checks k (i + 1) ss

-- check 23: a cut whose path, from the plate down through it, has more stages than the limit. A waste or piece below it has the same path
-- and comes later, so the first of all nodes is the first cut
abbrev pub path_checks : ℕ → Tree Piece → List Check
path_checks k t = above_checks k 0 (map path_stages (node_paths t))

-- the same where there may be no limit
abbrev pub stage_checks : Option ℕ → Tree Piece → List Check
stage_checks none t = []
stage_checks (some n) t = path_checks n t

-- the used size of a cut whose parts hold m and n pieces and use u and v: along the cut their sum and the blade's width k, across it the
-- greater; where a part holds no piece, the other part's
abbrev pub joined : ℕ → Direction → ℕ → ℕ → Rect → Rect → Rect
joined k d zero n u v = v
joined k d (suc m) zero u v = u
joined k Length (suc m) (suc n) u v = (u.0 + k + v.0, max u.1 v.1)
joined k Width (suc m) (suc n) u v = (max u.0 v.0, u.1 + k + v.1)

module _ {P : Type 0} where
  -- a cut whose parts a and b hold m and n pieces: it remains, or is replaced by its other part where one holds none
  abbrev pub remaining : Direction → ℕ → ℕ → ℕ → Tree P → Tree P → Tree P
  remaining d zero n x a b = b
  remaining d (suc m) zero x a b = a
  remaining d (suc m) (suc n) x a b = cut d x a b

module _ {P : Type 0} (k : ℕ) (size : P → Rect) where
  -- the used size of a tree: nothing for waste, the piece's own for a piece
  unfoldable pub used : Tree P → Rect
  used waste = (0, 0)
  used (piece p) = size p
  used (cut d x a b) = joined k d (piece_count a) (piece_count b) (used a) (used b)

  -- the neat tree: every cut that remains moves to the first part's used size
  unfoldable pub neat : Tree P → Tree P
  neat waste = waste
  neat (piece p) = piece p
  neat (cut d x a b) = remaining d (piece_count a) (piece_count b) (side d (used a)) (neat a) (neat b)

-- the neat plan of a job's tree: the kerf is lost at each cut that remains, and a piece uses its size as it lies
abbrev pub neat_of : Job → Tree Piece → Tree Piece
neat_of J t = neat J.kerf (laid J) t

-- the arrays are the preorder of a guillotine tree on the plate that keeps every demand and has at most 4,095 nodes
pub record DrawnAs (J : Job) (t : Tree Piece) (kinds operands : List ℕ) : Type 0 where
  pub on_plate : OnPlate J t
  pub demands : KeepsDemands J t
  pub nodes : node_count t ≤ most_nodes
  pub kinds_are : kinds ≡ kinds_of t
  pub operands_are : operands ≡ operands_of t

-- and no cut of that tree is idle
pub record PlanOf (J : Job) (t : Tree Piece) (kinds operands : List ℕ) : Type 0 where
  pub drawn : DrawnAs J t kinds operands
  pub idle_free : IdleFree t
