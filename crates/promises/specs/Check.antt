-- The check of a plan: node after node in preorder by 12 to 17 and 36, then 18, 26 and 23 of the tree; and what a verdict on a plan means for trees.
-- docs/SCOPE.md: Plans; Grain; The table of refusals; No idle cuts; No more than so many stages.
use Rattle.std.specs.Prelude.{◌≡◌, Bool, true, false, not, List, [], ◌∷◌, ◌++◌, ℕ, ◌+◌, ◌-◌, ◌*◌, leb, ltb, eqb, length, get_or, set, replicate, Err}
use Rattle.std.proofs.Math.Option.{Option}
use Rattle.promises.specs.Prelude.{Node}
use Rattle.promises.specs.declared.Node.TheVariants as node
use Rattle.promises.specs.declared.Refusal.TheVariants as refusal
use Rattle.promises.specs.Refusals.{Check, by_check, next, first_refusal, outside, most_kinds, most_nodes, passed, Checked}
use Rattle.promises.specs.Job.{Rect, side, part, fits_in, Piece, upright, turned, kind, Tree, Job, laid, profit, WithinLimit}
use Rattle.promises.specs.Plan.{node_of, nodes_in, tree_in, rest, tree_report, IdleFree, tree_checks, stage_checks, DrawnAs, PlanOf}

-- what holds of the piece that a node lays, and of a node that lays none
abbrev pub of_piece {ℓ} : {A : Type ℓ} → (Piece → A) → A → Node → A
of_piece f a node.Waste = a
of_piece f a (node.Piece i) = f (upright i)
of_piece f a (node.Turned i) = f (turned i)
of_piece f a (node.Cut d x) = a

-- 12: the greatest kind of a node, 4 where pieces may be turned
abbrev pub most_kind : Bool → ℕ
most_kind false = 3
most_kind true = 4

-- 36: a turned piece of a kind that keeps its grain
abbrev pub against_grain : (ℕ → Bool) → Node → Bool
against_grain grain node.Waste = false
against_grain grain (node.Piece i) = false
against_grain grain (node.Turned i) = grain i
against_grain grain (node.Cut d x) = false

-- 14: a waste operand that is not 0, or a cut position outside 1 to the side less the kerf less 1
abbrev pub misplaced : ℕ → Rect → Node → ℕ → Bool
misplaced kerf r node.Waste operand = not (eqb operand 0)
misplaced kerf r (node.Piece i) operand = false
misplaced kerf r (node.Turned i) operand = false
misplaced kerf r (node.Cut d x) operand = outside 1 (side d r - kerf - 1) x

-- checks 12, 13, 36 and 14 to 16 of node k, on the rectangle that it fills and after the copies before it
abbrev pub node_checks : Job → List ℕ → Rect → ℕ → ℕ → ℕ → List Check
node_checks J copies r k kind' operand =
    (ltb (most_kind J.turning) kind', refusal.NodeKind k)
    ∷ (of_piece (λ p. leb J.count (kind p)) false (node_of kind' operand), refusal.PieceNumber k)
    ∷ (against_grain J.grain (node_of kind' operand), refusal.AgainstGrain k)
    ∷ (misplaced J.kerf r (node_of kind' operand) operand, refusal.Operand k)
    ∷ (of_piece (λ p. not (fits_in (laid J p) r)) false (node_of kind' operand), refusal.Misfit k)
    ∷ (of_piece (λ p. leb (J.demand (kind p)) (get_or copies (kind p) 0)) false (node_of kind' operand), refusal.Excess k)
    ∷ []

-- the parts of a rectangle that a node leaves to be filled, first part first; a cut takes the kerf from the second
abbrev pub parts : ℕ → Node → Rect → List Rect
parts kerf node.Waste r = []
parts kerf (node.Piece i) r = []
parts kerf (node.Turned i) r = []
parts kerf (node.Cut d x) r = part d x r ∷ rest kerf d x r ∷ []

-- the copies of each kind, upright and turned together, with one node more
abbrev pub copied : Node → List ℕ → List ℕ
copied n copies = of_piece (λ p. set copies (kind p) (get_or copies (kind p) 0 + 1)) copies n

-- the walk over one tree from node k on, over the nodes left, the rectangles still to be filled, the next one first, and the copies so far:
-- its verdict, 12 to 17 and 36, and the node after its last; 17 gives the node count, for all k nodes are read
unfoldable pub tree_walk : Job → ℕ → List (ℕ × ℕ) → List Rect → List ℕ → Checked × ℕ
tree_walk J k [] [] copies = (passed, k)
tree_walk J k (n ∷ ns) [] copies = (passed, k)
tree_walk J k [] (r ∷ rs) copies = (Err (refusal.NodeMissing k), k)
tree_walk J k (n ∷ ns) (r ∷ rs) copies =
    by_check (first_refusal (node_checks J copies r k n.0 n.1))
    (tree_walk J (k + 1) ns (parts J.kerf (node_of n.0 n.1) r ++ rs) (copied (node_of n.0 n.1) copies))
    (λ x. (Err x, k))

-- the walk over a plan from the plate on, its nodes numbered from k
abbrev pub walked : Job → ℕ → List (ℕ × ℕ) → Checked × ℕ
walked J k nodes = tree_walk J k nodes (J.plate ∷ []) (replicate most_kinds 0)

-- 18: nodes left over, of n, after the walks have ended before node k
abbrev pub left_check : ℕ → ℕ → Check
left_check n k = (ltb k n, refusal.NodeLeft k)

-- checks 10 and 11
abbrev pub plan_checks : List ℕ → List ℕ → List Check
plan_checks kinds operands = (not (eqb (length kinds) (length operands)), refusal.PlanLength) ∷ (outside 1 most_nodes (length kinds), refusal.NodeCount) ∷ []

-- 10 to 18 and 36 of a plan's arrays: their lengths, then the walk, then nodes left over
abbrev pub walk_verdict : Job → List ℕ → List ℕ → Checked
walk_verdict J kinds operands =
    let w = walked J 0 (nodes_in kinds operands) in
    next (first_refusal (plan_checks kinds operands)) (next w.0 (first_refusal (left_check (length kinds) w.1 ∷ [])))

-- 10 to 18 and 36, then 26 and within a limit 23, both of the tree that the arrays draw
abbrev pub plan_verdict : Job → Option ℕ → List ℕ → List ℕ → Checked
plan_verdict J limit kinds operands =
    next (walk_verdict J kinds operands) (next (first_refusal (tree_checks 0 (tree_in kinds operands))) (first_refusal (stage_checks limit (tree_in kinds operands))))

-- what a verdict on a plan's arrays means, where `Before` says that what stands before the plan's checks holds: it passes exactly for the
-- plan of a tree within the limit, which is the one that the arrays draw, and whose four areas sum to the plate's; arrays drawn as a tree are
-- refused for its first idle cut in preorder, or else for the first cut whose path passes the limit, alone; without an idle cut `old` is the
-- verdict, which leaves 26 out
pub record Judges (Before : Type 0) (J : Job) (limit : Option ℕ) (kinds operands : List ℕ) (old v : Checked) : Type 0 where
  pub passes : Before → (t : Tree Piece) → PlanOf J t kinds operands → WithinLimit limit t → v ≡ passed
  pub before : v ≡ passed → Before
  pub tree : v ≡ passed → PlanOf J (tree_in kinds operands) kinds operands × WithinLimit limit (tree_in kinds operands)
  pub only : (t : Tree Piece) → DrawnAs J t kinds operands → t ≡ tree_in kinds operands
  pub areas : v ≡ passed → (let a = tree_report J (tree_in kinds operands) in a.pieces + a.waste + a.trim + a.sawdust ≡ J.plate.0 * J.plate.1)
  pub first : Before → (t : Tree Piece) → DrawnAs J t kinds operands → v ≡ next (first_refusal (tree_checks 0 t)) (first_refusal (stage_checks limit t))
  pub old_table : ((t : Tree Piece) → DrawnAs J t kinds operands → IdleFree t) → v ≡ old

-- the arrays are those of a tree within the limit that keeps every demand and has no idle cut, and it earns n
abbrev pub Earns : Job → Option ℕ → List ℕ → List ℕ → ℕ → Type 0
Earns J limit kinds operands n = (t : Tree Piece) × PlanOf J t kinds operands × WithinLimit limit t × (profit J t ≡ n)
