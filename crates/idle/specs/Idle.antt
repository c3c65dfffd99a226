-- Check 26: an idle cut, neither of whose parts holds a piece, over the kinds of a plan and over the nodes of a tree.
-- docs/SCOPE.md: No idle cuts.
use Rattle.std.specs.Prelude.{Bool, false, List, [], ◌∷◌, ℕ, ◌+◌, ◌-◌, ltb}
use Rattle.promises.specs.declared.Node.{Node}
use Rattle.promises.specs.declared.Node.TheVariants.{Waste, Piece, Turned, Cut}
use Rattle.promises.specs.declared.Refusal.TheVariants.{IdleCut}
use Rattle.refusal.specs.Refusals.{Check}
use Rattle.node.specs.Nodes.{node_of}
unfoldable pub use Rattle.promises.specs.Plan.{tree_checks}

-- the trees without a piece that begin at a node, from those that begin after it: waste is one more, a cut makes one tree of two, and a
-- piece ends them
abbrev pub pieceless_from : Node → ℕ → ℕ
pieceless_from Waste after = after + 1
pieceless_from (Piece i) after = 0
pieceless_from (Turned i) after = 0
pieceless_from (Cut d x) after = after - 1

-- how many of the trees that a list of kinds begins hold no piece, before the first that holds one
unfoldable pub pieceless : List ℕ → ℕ
pieceless [] = 0
pieceless (k ∷ ks) = pieceless_from (node_of k 0) (pieceless ks)

-- whether a node is an idle cut: the two trees after it, its parts, hold no piece
abbrev pub is_idle : Node → ℕ → Bool
is_idle Waste after = false
is_idle (Piece i) after = false
is_idle (Turned i) after = false
is_idle (Cut d x) after = ltb 1 after

-- check 26 of the nodes from node k on
unfoldable pub idle_checks : ℕ → List ℕ → List Check
idle_checks k [] = []
idle_checks k (n ∷ ns) = (is_idle (node_of n 0) (pieceless ns), IdleCut k) ∷ idle_checks (k + 1) ns
