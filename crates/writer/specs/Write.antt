-- The writing call: check 21, its answer with the number and values, what it leaves in the plan arrays, and what it promises of the plan
-- and of the answered bound.
-- docs/SCOPE.md: The written plan; Lent memory.
use Rattle.std.specs.Prelude.{◌≡◌, ◌||◌, List, [], ◌∷◌, ℕ, ltb, length, Ok}
use Rattle.cutting.specs.Limits.{most_nodes}
use Rattle.cutting.specs.Tree.{Tree, IdleFree}
use Rattle.cutting.specs.Pieces.{Piece}
use Rattle.cutting.specs.Preorder.{kinds_of, operands_of, node_count}
use Rattle.cutting.specs.Lists.{over}
use Rattle.cutting.specs.Job.{Job, by_kind, bound_of, bound_plan}
use Rattle.cutting.specs.Promises.{EarnsWithin, PlanFollows}
use Rattle.refusal.specs.Refusals.{Answer, Check, Checked, Outcome, next, first_refusal, answer_by, outcome_by, outcome_of}
use Rattle.promises.specs.declared.Refusal.TheVariants.{PlanLong}
use Rattle.promises.specs.declared.Choices.{Choices}
use Rattle.job.specs.Weights.{block_job, weight_in, Accepted}
use Rattle.promises.specs.declared.BoundReport.{BoundReport}
use Rattle.bound.specs.Bound.{Memory, list_after, block_capacity, block_report, bound_verdict, BoundLeaves, BoundHolds}
use Rattle.promises.specs.declared.WriteReport.{WriteReport}
pub use Rattle.promises.specs.Calls.{write_values}

-- check 21: the plan needs above 4,095 nodes, or more than an array of m or of n entries holds, with the nodes needed
abbrev pub nodes_check : Tree Piece → ℕ → ℕ → Check
nodes_check t m n = ((ltb most_nodes (node_count t) || ltb m (node_count t)) || ltb n (node_count t), PlanLong (node_count t))

-- the verdict of check 21 over the two plan arrays
abbrev pub nodes_verdict : Tree Piece → List ℕ → List ℕ → Checked
nodes_verdict t kinds operands = first_refusal (nodes_check t (length kinds) (length operands) ∷ [])

-- a bound's report with the number of the plan's nodes
abbrev pub reported : BoundReport → ℕ → WriteReport
reported b n = record { bound = b.bound; capacity = b.capacity; length_count = b.length_count; columns = b.columns; nodes = n }

-- the plan behind the bound of a job block and weights
abbrev pub block_plan : List ℕ → Choices → List ℕ → Tree Piece
block_plan s choices ws = bound_plan (block_job s choices) (weight_in ws)

-- what the writing call reports of a job block and weights: the bound, Q, p, r and the node count
abbrev pub write_report : List ℕ → Choices → List ℕ → WriteReport
write_report s choices ws = reported (block_report s choices ws) (node_count (block_plan s choices ws))

-- the verdict of the writing call: 1 to 9, 27 and 35, 19, 20, then 21
abbrev pub write_verdict : List ℕ → Choices → List ℕ → Memory → List ℕ → List ℕ → Checked
write_verdict s choices ws m kinds operands = next (bound_verdict s choices ws m) (nodes_verdict (block_plan s choices ws) kinds operands)

-- what the writing call answers
abbrev pub write_answer : List ℕ → Choices → List ℕ → Memory → List ℕ → List ℕ → Answer WriteReport
write_answer s choices ws m kinds operands = answer_by (write_verdict s choices ws m kinds operands) (write_report s choices ws)

-- an answer's number and values: the bound, Q, p, r and the node count
abbrev pub write_outcome : Answer WriteReport → Outcome
write_outcome r = outcome_of write_values r

-- those that the call answers
abbrev pub write_said : List ℕ → Choices → List ℕ → Memory → List ℕ → List ℕ → Outcome
write_said s choices ws m kinds operands = outcome_by (write_verdict s choices ws m kinds operands) (write_values (write_report s choices ws))

-- a plan array after the call: the plan over its old contents where all checks pass, and else as it was
abbrev pub array_after : List ℕ → Choices → List ℕ → Memory → List ℕ → List ℕ → List ℕ → List ℕ → List ℕ
array_after s choices ws m kinds operands xs old = list_after (write_verdict s choices ws m kinds operands) xs old

-- for every accepted job and weights, whatever storage is lent: the plan follows the order of choice, earns the bound within Q and has no
-- idle cut
abbrev pub PlanChosen : List ℕ → Choices → List ℕ → Type 0
PlanChosen s choices ws = Accepted s choices ws → PlanFollows (block_job s choices) (by_kind (weight_in ws))
    × EarnsWithin (block_job s choices) (weight_in ws) (block_capacity s choices ws) (bound_of (block_job s choices) (weight_in ws)) (block_plan s choices ws)
    × IdleFree (block_plan s choices ws)

-- a tree that was written and reported: it earns the answered bound within the answered capacity, no cut of it is idle, the arrays hold
-- its preorder over their old contents, and it has the answered number of nodes
pub record TreeWritten (J : Job) (weight : ℕ → ℕ) (t : Tree Piece) (kinds operands new_kinds new_operands : List ℕ) (b : WriteReport) : Type 0 where
  pub earns : EarnsWithin J weight b.capacity b.bound t
  pub idle_free : IdleFree t
  pub kinds_hold : new_kinds ≡ over (kinds_of t) kinds
  pub operands_hold : new_operands ≡ over (operands_of t) operands
  pub counted : b.nodes ≡ node_count t

-- an answer reports the plan behind the bound as it was written
abbrev pub PlanWritten : List ℕ → Choices → List ℕ → (kinds operands new_kinds new_operands : List ℕ) → Answer WriteReport → Type 0
PlanWritten s choices ws kinds operands new_kinds new_operands r = (b : WriteReport) → r ≡ Ok b
    → TreeWritten (block_job s choices) (weight_in ws) (block_plan s choices ws) kinds operands new_kinds new_operands b

-- an answered bound holds at the answered capacity, as the bound call's does
abbrev pub BoundWritten : List ℕ → Choices → List ℕ → Answer WriteReport → Type 0
BoundWritten s choices ws r = (b : WriteReport) → r ≡ Ok b → BoundHolds (block_job s choices) (weight_in ws) b.capacity b.bound

-- what the writing call promises of its answer and of all that it is lent: answer, lists, table and plan arrays are the definitions',
-- number and values too; the plan follows the order of choice and has no idle cut; an answer reports the plan as it was written, and its bound holds
pub record WritePromises (s : List ℕ) (choices : Choices) (ws : List ℕ) (old new : Memory) (kinds operands new_kinds new_operands : List ℕ) (r : Answer WriteReport) : Type 0 where
  pub answers : r ≡ write_answer s choices ws old kinds operands
  pub outcome : write_outcome r ≡ write_said s choices ws old kinds operands
  pub memory : BoundLeaves s choices ws old new
  pub kinds_left : new_kinds ≡ array_after s choices ws old kinds operands (kinds_of (block_plan s choices ws)) kinds
  pub operands_left : new_operands ≡ array_after s choices ws old kinds operands (operands_of (block_plan s choices ws)) operands
  pub choice : PlanChosen s choices ws
  pub plan : PlanWritten s choices ws kinds operands new_kinds new_operands r
  pub bound : BoundWritten s choices ws r
