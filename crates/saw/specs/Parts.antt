-- The part of a plan's arrays that belongs to a node and all below it: its entries, and where they lie.
-- docs/SCOPE.md: Saw and office.
use Rattle.std.specs.Prelude.{◌≡◌, Bool, true, false, List, [], ◌∷◌, ℕ, suc, ◌+◌, ◌-◌, ◌*◌, ◌≤◌, ◌<◌, ltb, length, take, drop, get_or, Err}
use Rattle.std.specs.Borrow.{Bor}
use Rattle.promises.specs.declared.Node.{Node}
use Rattle.promises.specs.declared.Node.TheVariants.{Waste, Piece, Turned, Cut}
use Rattle.cutting.specs.Lists.{only}
use Rattle.cutting.specs.Tree.{Tree, waste}
use Rattle.cutting.specs.Pieces as laid
use Rattle.cutting.specs.Preorder.{node_count}
use Rattle.promises.specs.declared.Refusal.{Refusal}
use Rattle.refusal.specs.Refusals.{Checked, verdict_of, Outcome, by_check}
use Rattle.promises.specs.declared.Choices.{Choices}
use Rattle.node.specs.Nodes.{node_of}
use Rattle.plan.specs.Trees.{PlanOf}
use Rattle.promises.specs.declared.Part.{Part}
use Rattle.saw.specs.Saw.{SawPasses, saw_job, saw_answer}
use Rattle.saw.specs.Prices.{AtAnyPrices}
unfoldable pub use Rattle.promises.specs.Saw.{subtrees}

-- the tree at a node
abbrev pub tree_at : Tree laid.Piece → ℕ → Tree laid.Piece
tree_at t node = get_or (subtrees t) node waste

-- the trees left to read after a node, where so many were before it
abbrev pub left_after : Node → ℕ → ℕ
left_after Waste left = left - 1
left_after (Piece i) left = left - 1
left_after (Turned i) left = left - 1
left_after (Cut d x) left = left + 1

-- the number of entries that the next `left` trees of a list of kinds have
unfoldable pub extent : List ℕ → ℕ → ℕ
extent [] left = 0
extent (k ∷ ks) left = only (ltb 0 left) (suc (extent ks (left_after (node_of k 0) left)))

-- one past the last entry of the tree at a node
abbrev pub end_of : List ℕ → ℕ → ℕ
end_of kinds node = node + extent (drop node kinds) 1

-- the part from entry a up to entry e, which is not in it
abbrev pub between : ℕ → ℕ → Part
between a e = record { first = a; past = e }

-- the part of a node, by whether it is one of an array's entries
abbrev pub part_if : Bool → List ℕ → ℕ → ℕ → Part
part_if true kinds count node = between node (end_of kinds node)
part_if false kinds count node = between count count

-- the part of a node in an array of so many entries, by the verdict on the plan: empty, at the array's end, where the plan does not
-- pass or the node is past it
abbrev pub part_by : Checked → List ℕ → ℕ → ℕ → Part
part_by v kinds count node = by_check v (part_if (ltb node count) kinds count node) (λ r. between count count)

-- the part of a node in one of a plan's arrays, for a job block
abbrev pub node_part : List ℕ → Choices → (kinds operands array : List ℕ) → ℕ → Part
node_part s choices kinds operands array node = part_by (verdict_of (saw_answer s choices kinds operands)) kinds (length array) node

-- its number and values: 0, the first entry and the number of entries
abbrev pub part_said : Part → Outcome
part_said p = (0, p.first ∷ (p.past - p.first) ∷ [])

-- a slice is a part of another, whose entries have so many bytes: its entries are those, and lie where those do
abbrev pub IsPart : ℕ → Part → Bor (List ℕ) → Bor (List ℕ) → Type 0
IsPart bytes p array r = (r.now ≡ take (p.past - p.first) (drop p.first array.now)) × (r.ref_ptr ≡ (array.ref_ptr.0, p.first * bytes + array.ref_ptr.1))

-- it is the empty part at the other's end
abbrev pub AtEnd : ℕ → Bor (List ℕ) → Bor (List ℕ) → Type 0
AtEnd bytes array r = (r.now ≡ []) × (r.ref_ptr ≡ (array.ref_ptr.0, length array.now * bytes + array.ref_ptr.1))

-- what is handed back of one of a plan's arrays, of which a tree has the entries f: the part of the node, whatever the prices; for a plan
-- that passes, the entries of the tree at the node, from the node's own entry on; and else, or for a node past the plan, the empty part
-- at the array's end
pub record HandsBack (bytes : ℕ) (f : Tree laid.Piece → List ℕ) (s : List ℕ) (choices : Choices) (kinds operands : List ℕ) (node : ℕ) (array r : Bor (List ℕ)) : Type 0 where
  pub part_is : IsPart bytes (node_part s choices kinds operands array.now node) array r
  pub blind : AtAnyPrices choices s (λ z. IsPart bytes (node_part z choices kinds operands array.now node) array r)
  pub tree : SawPasses s choices → (t : Tree laid.Piece) → PlanOf (saw_job s choices) t kinds operands → node < node_count t
      → (r.now ≡ f (tree_at t node)) × (r.ref_ptr ≡ (array.ref_ptr.0, node * bytes + array.ref_ptr.1))
  pub refused : (x : Refusal) → saw_answer s choices kinds operands ≡ Err x → AtEnd bytes array r
  pub past : length array.now ≤ node → AtEnd bytes array r
