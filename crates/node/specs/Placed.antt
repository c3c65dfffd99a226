-- What the functions of one node promise: sums that stay within 64 bits, and the node's answer and copies.
use Rattle.std.specs.Prelude.{◌≡◌, Bool, true, false, List, ℕ, ◌+◌, ◌*◌, ◌≤◌, ◌^◌}
use Rattle.cutting.specs.Tree.{Rect}
use Rattle.promises.specs.declared.Node.{Node}
use Rattle.promises.specs.declared.Node.TheVariants.{Piece, Turned}
use Rattle.cutting.specs.Pieces.{quarter}
use Rattle.cutting.specs.Job.{Job}
use Rattle.std.specs.Result.{ForOk}
use Rattle.refusal.specs.Refusals.{Answer, answer_by, verdict_of, passed, first_refusal}
use Rattle.node.specs.declared.Tally.{Tally}
use Rattle.node.specs.Nodes.{node_of, node_checks, tallied, copied}

-- a size as a piece lies, upright or turned
abbrev pub lying_as : Bool → Rect → Rect
lying_as false r = r
lying_as true r = quarter r

-- the node that lays a piece of a kind's number, by whether it is turned
abbrev pub laying : Bool → ℕ → Node
laying false i = Piece i
laying true i = Turned i

-- the sums of n nodes: each adds less than 2 ^ 32 to any of them
pub record Sized (n : ℕ) (t : Tally) : Type 0 where
  pub profit : t.profit ≤ 2 ^ 32 * n
  pub pieces : t.pieces ≤ 2 ^ 32 * n
  pub waste : t.waste ≤ 2 ^ 32 * n
  pub trim : t.trim ≤ 2 ^ 32 * n
  pub sawdust : t.sawdust ≤ 2 ^ 32 * n

-- sums with at most one node more
abbrev pub Grows : Tally → Tally → Type 0
Grows t s = (n : ℕ) → Sized n t → Sized (n + 1) s

-- node k on a rectangle: its checks decide, and where they pass it is counted
pub record Placed (J : Job) (k kind operand : ℕ) (r : Rect) (t : Tally) (copies : List ℕ) (a : Answer Tally) (after : List ℕ) : Type 0 where
  pub answer : a ≡ answer_by (first_refusal (node_checks J copies r k kind operand)) (tallied J (node_of kind operand) r t)
  pub counts : verdict_of a ≡ passed → after ≡ copied (node_of kind operand) copies
  pub sized : ForOk a (Grows t)
