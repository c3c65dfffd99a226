-- The neat call: check 21 over the output arrays, the answer with its number and values, what is left in the output arrays, and what the
-- call promises of the neat plan.
-- docs/SCOPE.md: Neat plans.
use Rattle.std.specs.Prelude.{◌≡◌, ◌||◌, List, [], ◌∷◌, ℕ, ◌≤◌, ltb, length}
use Rattle.cutting.specs.Lists.{over}
use Rattle.cutting.specs.Tree.{Tree}
use Rattle.cutting.specs.Pieces as laid
use Rattle.cutting.specs.Preorder.{kinds_of, operands_of, node_count}
use Rattle.cutting.specs.Shares.{stages}
use Rattle.cutting.specs.Job.{Job, profit, copies_of}
use Rattle.cutting.specs.Neat.{neat_of}
use Rattle.refusal.specs.Refusals.{Check, Outcome, next, first_refusal, by_check, outcome_by}
use Rattle.promises.specs.declared.Refusal.TheVariants.{PlanLong}
use Rattle.promises.specs.declared.Choices.{Choices}
use Rattle.job.specs.Block.{job_checks}
use Rattle.job.specs.Weights.{block_job}
use Rattle.plan.specs.Plan.{plan_answer}
use Rattle.plan.specs.Trees.{tree_in, DrawnAs, PlanOf}
use Rattle.plan.specs.Calls.{JobPasses}
pub use Rattle.promises.specs.Calls.{neat_values}
use Rattle.promises.specs.Refusals.{passed, Checked, Answer, answer_by, verdict_of, outcome_of}

-- the neat plan of a plan's arrays
abbrev pub neat_tree : Job → List ℕ → List ℕ → Tree laid.Piece
neat_tree J kinds operands = neat_of J (tree_in kinds operands)

-- check 21: the plan needs more nodes than an array of m or of n entries holds, with the nodes needed
abbrev pub output_check : Tree laid.Piece → ℕ → ℕ → Check
output_check t m n = (ltb m (node_count t) || ltb n (node_count t), PlanLong (node_count t))

-- the verdict for a job that was read: the plan check's, then 21
abbrev pub neat_checked : Job → (kinds operands old_kinds old_operands : List ℕ) → Checked
neat_checked J kinds operands old_kinds old_operands =
    next (verdict_of (plan_answer J kinds operands)) (first_refusal (output_check (neat_tree J kinds operands) (length old_kinds) (length old_operands) ∷ []))

-- the verdict of the call: the job's checks come first
abbrev pub neat_verdict : List ℕ → Choices → (kinds operands old_kinds old_operands : List ℕ) → Checked
neat_verdict s choices kinds operands old_kinds old_operands = next (first_refusal (job_checks s choices)) (neat_checked (block_job s choices) kinds operands old_kinds old_operands)

-- the neat plan of a job block and a plan's arrays
abbrev pub block_neat : List ℕ → Choices → List ℕ → List ℕ → Tree laid.Piece
block_neat s choices kinds operands = neat_tree (block_job s choices) kinds operands

-- what the call answers
abbrev pub neat_answer : List ℕ → Choices → (kinds operands old_kinds old_operands : List ℕ) → Answer ℕ
neat_answer s choices kinds operands old_kinds old_operands = answer_by (neat_verdict s choices kinds operands old_kinds old_operands) (node_count (block_neat s choices kinds operands))

-- the number and values that it answers
abbrev pub neat_said : List ℕ → Choices → (kinds operands old_kinds old_operands : List ℕ) → Outcome
neat_said s choices kinds operands old_kinds old_operands = outcome_by (neat_verdict s choices kinds operands old_kinds old_operands) (node_count (block_neat s choices kinds operands) ∷ [])

-- an output array after a check: the entries over its old contents where it passes, and else as it was
abbrev pub written_by : Checked → List ℕ → List ℕ → List ℕ
written_by v xs old = by_check v (over xs old) (λ r. old)

-- what is left in the two output arrays, kinds and operands
pub record NeatLeaves (v : Checked) (t : Tree laid.Piece) (old_kinds old_operands new_kinds new_operands : List ℕ) : Type 0 where
  pub kinds : new_kinds ≡ written_by v (kinds_of t) old_kinds
  pub operands : new_operands ≡ written_by v (operands_of t) old_operands

-- the neat plan of a tree t that a passed plan's arrays draw, and no other tree: it passes the check too, earns the same, has the same
-- copies of every kind, no more nodes and no more stages, and neatening it again, its tree or its arrays, gives the same plan
pub record NeatPlan (J : Job) (t : Tree laid.Piece) (kinds operands : List ℕ) : Type 0 where
  pub drawn : PlanOf J t kinds operands
  pub only : (u : Tree laid.Piece) → DrawnAs J u kinds operands → u ≡ t
  pub passes : PlanOf J (neat_of J t) (kinds_of (neat_of J t)) (operands_of (neat_of J t))
  pub checked : verdict_of (plan_answer J (kinds_of (neat_of J t)) (operands_of (neat_of J t))) ≡ passed
  pub earns : profit J (neat_of J t) ≡ profit J t
  pub copies : (i : ℕ) → copies_of i (neat_of J t) ≡ copies_of i t
  pub no_more_nodes : node_count (neat_of J t) ≤ node_count t
  pub no_more_stages : stages (neat_of J t) ≤ stages t
  pub again : neat_of J (neat_of J t) ≡ neat_of J t
  pub same_plan : neat_tree J (kinds_of (neat_of J t)) (operands_of (neat_of J t)) ≡ neat_of J t

-- where a job block and a plan's arrays pass their checks, what holds of the neat plan
abbrev pub NeatJudged : List ℕ → Choices → List ℕ → List ℕ → Type 0
NeatJudged s choices kinds operands = JobPasses s choices → verdict_of (plan_answer (block_job s choices) kinds operands) ≡ passed → NeatPlan (block_job s choices) (tree_in kinds operands) kinds operands

-- what the call promises of its answer and of the output arrays: answer and arrays are the definitions', number and values too; and where
-- job and plan pass their checks, what holds of the neat plan
pub record NeatPromises (s : List ℕ) (choices : Choices) (kinds operands old_kinds old_operands new_kinds new_operands : List ℕ) (r : Answer ℕ) : Type 0 where
  pub answers : r ≡ neat_answer s choices kinds operands old_kinds old_operands
  pub outcome : outcome_of neat_values r ≡ neat_said s choices kinds operands old_kinds old_operands
  pub memory : NeatLeaves (neat_verdict s choices kinds operands old_kinds old_operands) (block_neat s choices kinds operands) old_kinds old_operands new_kinds new_operands
  pub plan : NeatJudged s choices kinds operands
