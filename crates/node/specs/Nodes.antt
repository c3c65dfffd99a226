-- One node of a plan in the scope's words: the node of a kind and an operand, the checks 12 to 16 and 36 on the rectangle that it fills,
-- the parts that it leaves to be filled, and what it adds to the sums and to the copies.
-- docs/SCOPE.md: Plans; Grain; The table of refusals.
use Rattle.std.specs.Prelude.{Bool, false, not, List, [], ◌∷◌, ℕ, ◌+◌, ◌-◌, ◌*◌, leb, ltb, get_or}
use Rattle.promises.specs.declared.Direction.{Direction}
use Rattle.promises.specs.declared.Node.{Node}
use Rattle.promises.specs.declared.Node.TheVariants.{Waste, Piece, Turned, Cut}
use Rattle.cutting.specs.Tree.{Rect}
use Rattle.cutting.specs.Pieces as way
use Rattle.cutting.specs.Pieces.{fits_in}
use Rattle.cutting.specs.Areas.{area, breadth}
use Rattle.cutting.specs.Job.{Job, laid}
use Rattle.promises.specs.declared.Refusal.TheVariants.{NodeKind, PieceNumber, AgainstGrain, Operand, Misfit, Excess}
use Rattle.refusal.specs.Refusals.{Check}
use Rattle.node.specs.declared.Tally.{Tally}
pub use Rattle.promises.specs.Check.{most_kind, of_piece, against_grain, misplaced, parts, copied}
pub use Rattle.promises.specs.Plan.{pick, node_of}

-- 13: a piece number of n or more
abbrev pub unnumbered : Job → Node → Bool
unnumbered J n = of_piece (λ p. leb J.count (way.kind p)) false n

-- 15: a piece that does not fit the rectangle as it lies
abbrev pub misfit : Job → Rect → Node → Bool
misfit J r n = of_piece (λ p. not (fits_in (laid J p) r)) false n

-- 16: a piece whose kind's copies so far have reached its demand
abbrev pub excess : Job → List ℕ → Node → Bool
excess J copies n = of_piece (λ p. leb (J.demand (way.kind p)) (get_or copies (way.kind p) 0)) false n

-- checks 12, 13, 36 and 14 to 16 of node k, on the rectangle that it fills and after the copies before it
abbrev pub node_checks : Job → List ℕ → Rect → ℕ → ℕ → ℕ → List Check
node_checks J copies r k kind operand =
    (ltb (most_kind J.turning) kind, NodeKind k)
    ∷ (unnumbered J (node_of kind operand), PieceNumber k)
    ∷ (against_grain J.grain (node_of kind operand), AgainstGrain k)
    ∷ (misplaced J.kerf r (node_of kind operand) operand, Operand k)
    ∷ (misfit J r (node_of kind operand), Misfit k)
    ∷ (excess J copies (node_of kind operand), Excess k)
    ∷ []

-- the sums with a waste node more: its area
abbrev pub with_waste : Rect → Tally → Tally
with_waste r t = record { profit = t.profit; pieces = t.pieces; waste = t.waste + area r; trim = t.trim; sawdust = t.sawdust }

-- the sums with a piece of a price and a size more: its price, its area, and the rest of the rectangle as trim
abbrev pub with_piece : ℕ → Rect → Rect → Tally → Tally
with_piece price size r t = record { profit = t.profit + price; pieces = t.pieces + area size; waste = t.waste; trim = t.trim + (area r - area size); sawdust = t.sawdust }

-- the sums with a cut more: the kerf times the side along which it runs
abbrev pub with_cut : ℕ → Direction → Rect → Tally → Tally
with_cut kerf d r t = record { profit = t.profit; pieces = t.pieces; waste = t.waste; trim = t.trim; sawdust = t.sawdust + kerf * breadth d r }

-- the sums with one node more
abbrev pub tallied : Job → Node → Rect → Tally → Tally
tallied J Waste r t = with_waste r t
tallied J (Piece i) r t = with_piece (J.price i) (laid J (way.upright i)) r t
tallied J (Turned i) r t = with_piece (J.price i) (laid J (way.turned i)) r t
tallied J (Cut d x) r t = with_cut J.kerf d r t
