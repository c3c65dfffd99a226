-- What only the inner contracts of the exact call cite: the numbers of states that the kinds have together, the states in the array of
-- pieces, and what the figures and the plan of pieces ask and leave.
use Rattle.std.specs.Prelude.{◌≡◌, List, [], ◌∷◌, ℕ, zero, suc, ◌+◌, ◌*◌, ◌/◌, ◌≤◌, ◌<◌, length, get_or, Ok}
use Rattle.std.specs.Result.{ForOk}
use Rattle.promises.specs.declared.Direction.TheVariants.{Length, Width}
use Rattle.cutting.specs.Limits.{most_capacity, most_pieces}
use Rattle.cutting.specs.Tree.{Tree}
use Rattle.cutting.specs.Pieces.{Piece}
use Rattle.cutting.specs.Preorder.{kinds_of, operands_of, node_count}
use Rattle.cutting.specs.Job.{Job, InRange, widened, plan_of}
use Rattle.cutting.specs.Exact.{states, state_count, full_state, by_copies, exact_figure}
use Rattle.cutting.specs.Listed.{InTableRange, listed_weight, node_in}
use Rattle.refusal.specs.Refusals.{Answer, Checked, passed, answer_by, next, first_refusal}
use Rattle.table.specs.Table.{position_count}
use Rattle.storage.specs.Clauses.{BothMapped}
use Rattle.states.specs.States.{Digits}
use Rattle.promises.specs.declared.BoundReport.{BoundReport}
use Rattle.bound.specs.Bound as bound
use Rattle.writer.specs.Write.{nodes_verdict}
use Rattle.promises.specs.declared.ExactReport.{ExactReport}
use Rattle.exact.specs.Exact.{state_check, ExactLeaves}
use Rattle.promises.specs.declared.WriteReport.{WriteReport}

-- the entries of the kinds below n are the numbers of states that the kinds up to each have together
abbrev pub Multiplied : Job → ℕ → List ℕ → Type 0
Multiplied J n blocks = (i : ℕ) → i < n → get_or blocks i 0 ≡ states J.demand (suc i)

-- the states of an order that are counted: the last state, and the entries of all kinds, or refusal 30
pub record StatesCounted (J : Job) (blocks : List ℕ) (r : Answer ℕ) : Type 0 where
  pub answer : r ≡ answer_by (first_refusal (state_check J ∷ [])) (full_state J)
  pub listed : ForOk r (λ q. Multiplied J J.count blocks × (length blocks ≡ 64))

-- the state of one copy of a kind, from these entries
abbrev pub stride : List ℕ → ℕ → ℕ
stride blocks zero = 1
stride blocks (suc k) = get_or blocks k 0

-- an array of n pieces whose kinds have such an entry
pub record Statable (pieces : List ℕ) (n : ℕ) (blocks : List ℕ) : Type 0 where
  pub entries : length pieces ≡ 5 * most_pieces
  pub few : n ≤ most_pieces
  pub kinds : (j : ℕ) → j < n → node_in pieces j / 2 < length blocks

-- the first n pieces have the states of one copy of their kinds for their weights, and all else is as it was
pub record Stated (n : ℕ) (own : ℕ → ℕ) (old new : List ℕ) : Type 0 where
  pub entries : length new ≡ length old
  pub states_are : (j : ℕ) → j < n → listed_weight new j ≡ own (node_in old j / 2)
  pub others : (k : ℕ) → ((j : ℕ) → k ≡ 5 * j + 3 → ⊥) → get_or new k 0 ≡ get_or old k 0

-- what the figures of pieces ask: a plain job in range, the digits of the states up to q, and room for the floors of both sides
pub record Countable (J : Job) (blocks : List ℕ) (d q : ℕ) (floors : List ℕ) : Type 0 where
  pub in_range : InTableRange J
  pub most : q ≤ most_capacity
  pub digits : Digits blocks d (q + 1)
  pub floors_there : length floors ≡ 2042

-- what they report: the figure of the plate at the last state, that state, p and r
abbrev pub state_report : Job → (ℕ → ℕ → ℕ → ℕ) → ℕ → BoundReport
state_report J F q = record { bound = F J.plate.0 J.plate.1 q; capacity = q; length_count = position_count J Length; columns = position_count J Width }

-- the answer of a job with the figures F, what it leaves in lent memory, and where it has a report the floors of both sides
pub record Filled (J : Job) (F : ℕ → ℕ → ℕ → ℕ) (q : ℕ) (old new : bound.Memory) (floors : List ℕ) (r : Answer BoundReport) : Type 0 where
  pub answer : r ≡ answer_by (first_refusal (bound.memory_checks J q old)) (state_report J F q)
  pub memory : ExactLeaves passed J F q old new
  pub mapped : (b : BoundReport) → r ≡ Ok b → BothMapped J floors

-- a job that was read, its last state, and the numbers of states that its kinds have together
pub record Short (J : Job) (blocks : List ℕ) (q : ℕ) : Type 0 where
  pub in_range : InRange J
  pub states_are : q + 1 ≡ state_count J
  pub most : q ≤ most_capacity
  pub listed : Multiplied J J.count blocks
  pub entries : length blocks ≡ 64

-- what the writing of a plan reports, as the exact call says it: the last state plus 1 is the number of states
abbrev pub exact_of : WriteReport → ExactReport
exact_of b = record { optimum = b.bound; states = b.capacity + 1; length_count = b.length_count; columns = b.columns; nodes = b.nodes }

-- the plan from the widened plate and a state downward
abbrev pub job_plan : Job → ℕ → Tree Piece
job_plan J q = plan_of J (by_copies J) (widened J).plate.0 (widened J).plate.1 q

-- what the call reports of a job and its last state
abbrev pub job_report : Job → ℕ → ExactReport
job_report J q = record {
  optimum = exact_figure (widened J) (widened J).plate.0 (widened J).plate.1 q;
  states = q + 1;
  length_count = position_count (widened J) Length;
  columns = position_count (widened J) Width;
  nodes = node_count (job_plan J q);
}

-- the verdict of the checks that a short order is left to: 19, 20, then 21
abbrev pub room_verdict : Job → ℕ → bound.Memory → List ℕ → List ℕ → Checked
room_verdict J q m kinds operands = next (first_refusal (bound.memory_checks (widened J) q m)) (nodes_verdict (job_plan J q) kinds operands)

-- what a verdict makes of the answer, and of the plan arrays: the plan over their old contents, or as they were
pub record Drawn (v : Checked) (b : ExactReport) (t : Tree Piece) (kinds operands new_kinds new_operands : List ℕ) (r : Answer ExactReport) : Type 0 where
  pub answer : r ≡ answer_by v b
  pub kinds_left : new_kinds ≡ bound.list_after v (kinds_of t) kinds
  pub operands_left : new_operands ≡ bound.list_after v (operands_of t) operands
