-- The staged check: 22 before the plan's checks and 23 after them, its answer with number and values, and what it says of trees: a plan
-- passes exactly when it is that of a tree within the limit.
-- docs/SCOPE.md: No more than so many stages.
use Rattle.std.specs.Prelude.{◌≡◌, List, [], ◌∷◌, ℕ, ◌≤◌, Ok, Err}
use Rattle.std.specs.Result.{ForOk}
use Rattle.cutting.specs.Lists.{greatest}
use Rattle.cutting.specs.Tree.{Tree, IdleFree}
use Rattle.cutting.specs.Pieces.{Piece}
use Rattle.cutting.specs.Shares.{stages}
use Rattle.cutting.specs.Staged.{paths, path_stages}
use Rattle.cutting.specs.Job.{Job}
use Rattle.promises.specs.declared.Refusal.{Refusal}
use Rattle.refusal.specs.Refusals.{Answer, Checked, passed, Outcome, answer_by, verdict_of, by_check, next, first_refusal, refused_as, outcome_of}
use Rattle.promises.specs.declared.Choices.{Choices}
use Rattle.job.specs.Block.{job_checks}
use Rattle.job.specs.Weights.{block_job}
use Rattle.stages.specs.Stages.{limit_check, path_checks}
use Rattle.promises.specs.declared.Report.{Report}
use Rattle.promises.specs.declared.StagedReport.{StagedReport}
use Rattle.plan.specs.Plan.{proceed, walk_answer, plan_answer}
use Rattle.plan.specs.Trees.{tree_in, DrawnAs, PlanOf, Reports}
pub use Rattle.promises.specs.Calls.{staged_values}

-- check 23 of a plan's arrays, over the tree that they draw
abbrev pub stage_verdict : ℕ → List ℕ → List ℕ → Checked
stage_verdict n kinds operands = first_refusal (path_checks n (tree_in kinds operands))

-- the verdict of a plan's arrays within a limit: 10 to 18, 36 and 26, then 23
abbrev pub within_verdict : Job → ℕ → List ℕ → List ℕ → Checked
within_verdict J n kinds operands = next (verdict_of (plan_answer J kinds operands)) (stage_verdict n kinds operands)

-- a plan check's answer with the verdict of 23 after it, and with the stages
abbrev pub staged_of : Checked → ℕ → Answer Report → Answer StagedReport
staged_of v k (Ok s) = answer_by v (record { report = s; stages = k })
staged_of v k (Err r) = Err r

-- what a plan's arrays answer within a limit: the plan check's report, and the stages of the tree that they draw
abbrev pub within_answer : Job → ℕ → List ℕ → List ℕ → Answer StagedReport
within_answer J n kinds operands = staged_of (stage_verdict n kinds operands) (stages (tree_in kinds operands)) (plan_answer J kinds operands)

-- what a plan's arrays answer within a limit after other checks, by their verdict, without 26
abbrev pub without_idle : Checked → Job → ℕ → List ℕ → List ℕ → Answer StagedReport
without_idle v J n kinds operands = proceed v (staged_of (stage_verdict n kinds operands) (stages (tree_in kinds operands)) (walk_answer J kinds operands))

-- the verdict of the checks that stand before the plan's: 1 to 7, 27 and 35, then 22
abbrev pub read_verdict : List ℕ → Choices → ℕ → Checked
read_verdict s choices n = next (first_refusal (job_checks s choices)) (first_refusal (limit_check n ∷ []))

-- no check of a job block and a limit refuses them
abbrev pub LimitPasses : List ℕ → Choices → ℕ → Type 0
LimitPasses s choices n = read_verdict s choices n ≡ passed

-- the verdict of the staged check
abbrev pub staged_check_verdict : List ℕ → Choices → ℕ → List ℕ → List ℕ → Checked
staged_check_verdict s choices n kinds operands = next (read_verdict s choices n) (within_verdict (block_job s choices) n kinds operands)

-- what it answers
abbrev pub staged_check_answer : List ℕ → Choices → ℕ → List ℕ → List ℕ → Answer StagedReport
staged_check_answer s choices n kinds operands = proceed (read_verdict s choices n) (within_answer (block_job s choices) n kinds operands)

-- and what it answers without 26
abbrev pub staged_before_idle : List ℕ → Choices → ℕ → List ℕ → List ℕ → Answer StagedReport
staged_before_idle s choices n kinds operands = without_idle (read_verdict s choices n) (block_job s choices) n kinds operands

-- an answer's number and values
abbrev pub staged_check_outcome : Answer StagedReport → Outcome
staged_check_outcome a = outcome_of staged_values a

-- the number and values that the staged check answers
abbrev pub staged_check_said : List ℕ → Choices → ℕ → List ℕ → List ℕ → Outcome
staged_check_said s choices n kinds operands = by_check (read_verdict s choices n) (staged_check_outcome (within_answer (block_job s choices) n kinds operands)) refused_as

-- the arrays are the plan of a tree of at most n stages
pub record StagedPlanOf (J : Job) (n : ℕ) (t : Tree Piece) (kinds operands : List ℕ) : Type 0 where
  pub plan : PlanOf J t kinds operands
  pub within : stages t ≤ n

-- where what stands before the plan's checks holds, an answer passes exactly for the plan of a tree of at most n stages; it then reports
-- that tree and its stages, which are the most changes of direction on a path plus one. The plan of a tree of more stages is refused for the
-- first cut in preorder whose path, from the plate down through it, passes the limit, and what the plan check refuses is refused as there.
-- Where no tree that the arrays draw has an idle cut, `old` is the answer, which is that without 26
pub record ChecksStaged (Before : Type 0) (J : Job) (n : ℕ) (kinds operands : List ℕ) (old a : Answer StagedReport) : Type 0 where
  pub passes : Before → (t : Tree Piece) → StagedPlanOf J n t kinds operands → verdict_of a ≡ passed
  pub before : verdict_of a ≡ passed → Before
  pub tree : ForOk a (λ s. (t : Tree Piece) × StagedPlanOf J n t kinds operands × Reports J t s.report × (s.stages ≡ stages t))
  pub paths_most : (t : Tree Piece) → stages t ≡ greatest path_stages (paths t)
  pub past : Before → (t : Tree Piece) → PlanOf J t kinds operands → verdict_of a ≡ first_refusal (path_checks n t)
  pub refused : Before → (r : Refusal) → plan_answer J kinds operands ≡ Err r → a ≡ Err r
  pub old_table : ((t : Tree Piece) → DrawnAs J t kinds operands → IdleFree t) → a ≡ old
