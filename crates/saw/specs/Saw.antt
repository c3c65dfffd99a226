-- What the saw answers for a job block and a plan: the block read without its prices, the plan's check, and of its report the copies and
-- the areas. Each answer has a number and values too.
-- docs/SCOPE.md: Saw and office.
use Rattle.std.specs.Prelude.{◌≡◌, List, ℕ, ◌+◌, ◌*◌, Ok, Err}
use Rattle.std.specs.Result.{ForOk}
use Rattle.cutting.specs.Tree.{Tree, IdleFree}
use Rattle.cutting.specs.Pieces.{Piece}
use Rattle.cutting.specs.Job.{Job}
use Rattle.refusal.specs.Refusals.{Answer, passed, verdict_of, by_check, first_refusal, Outcome, refused_as, outcome_by, outcome_of}
use Rattle.promises.specs.declared.Choices.{Choices}
use Rattle.job.specs.Block.{read_by, job_values}
use Rattle.idle.specs.Idle.{tree_checks}
use Rattle.plan.specs.Plan.{proceed, walk_answer, plan_answer}
use Rattle.plan.specs.Trees.{DrawnAs, PlanOf, tree_report}
use Rattle.promises.specs.declared.SawReport.{SawReport}
pub use Rattle.promises.specs.Block.{demand_checks, saw_record, saw_job}
pub use Rattle.promises.specs.Saw.{without_profit, saw_values, NeverSix}
unfoldable pub use Rattle.promises.specs.Block.{saw_checks}
use Rattle.promises.specs.declared.JobRecord.{JobRecord}
use Rattle.promises.specs.declared.Report.{Report}

-- no check of the saw refuses a job block
abbrev pub SawPasses : List ℕ → Choices → Type 0
SawPasses s choices = first_refusal (saw_checks s choices) ≡ passed

-- what the saw's reading of a block answers
abbrev pub saw_read : List ℕ → Choices → Answer JobRecord
saw_read s choices = read_by (first_refusal (saw_checks s choices)) (saw_record s choices)

-- its number and values
abbrev pub saw_read_said : List ℕ → Choices → Outcome
saw_read_said s choices = outcome_by (first_refusal (saw_checks s choices)) (job_values (saw_record s choices))

-- a plan check's answer without its profit
abbrev pub saw_of : Answer Report → Answer SawReport
saw_of (Ok r) = Ok (without_profit r)
saw_of (Err x) = Err x

-- what the saw answers for a plan's arrays: the plan check's answer for its own job, without the profit
abbrev pub saw_answer : List ℕ → Choices → List ℕ → List ℕ → Answer SawReport
saw_answer s choices kinds operands = saw_of (proceed (first_refusal (saw_checks s choices)) (plan_answer (saw_job s choices) kinds operands))

-- and what it answers without 26
abbrev pub saw_before_idle : List ℕ → Choices → List ℕ → List ℕ → Answer SawReport
saw_before_idle s choices kinds operands = saw_of (proceed (first_refusal (saw_checks s choices)) (walk_answer (saw_job s choices) kinds operands))

-- the number and values of an answer
abbrev pub saw_outcome : Answer SawReport → Outcome
saw_outcome a = outcome_of saw_values a

-- the number and values that the saw answers
abbrev pub saw_said : List ℕ → Choices → List ℕ → List ℕ → Outcome
saw_said s choices kinds operands = by_check (first_refusal (saw_checks s choices)) (saw_outcome (saw_of (plan_answer (saw_job s choices) kinds operands))) refused_as

-- a report is a tree's own but for the profit, and its four areas sum to the plate's
pub record SawReports (J : Job) (t : Tree Piece) (r : SawReport) : Type 0 where
  pub own : r ≡ without_profit (tree_report J t)
  pub areas : r.pieces + r.waste + r.trim + r.sawdust ≡ J.plate.0 * J.plate.1

-- an answer passes exactly for a block that no check of the saw refuses and the plan of a tree; it then reports that tree. Arrays drawn as a
-- tree are refused for its first idle cut in preorder alone; without one, the answer is that of the checks before 26. The number is never 6
pub record SawChecks (s : List ℕ) (choices : Choices) (kinds operands : List ℕ) (a : Answer SawReport) : Type 0 where
  pub passes : SawPasses s choices → (t : Tree Piece) → PlanOf (saw_job s choices) t kinds operands → verdict_of a ≡ passed
  pub before : verdict_of a ≡ passed → SawPasses s choices
  pub tree : ForOk a (λ r. (t : Tree Piece) × PlanOf (saw_job s choices) t kinds operands × SawReports (saw_job s choices) t r)
  pub idle : SawPasses s choices → (t : Tree Piece) → DrawnAs (saw_job s choices) t kinds operands → verdict_of a ≡ first_refusal (tree_checks 0 t)
  pub old_table : ((t : Tree Piece) → DrawnAs (saw_job s choices) t kinds operands → IdleFree t) → a ≡ saw_before_idle s choices kinds operands
  pub never_six : NeverSix (verdict_of a)
