-- The public calls: a plan's arrays, or a plan block, for a job block. The job's own checks come first. Each answer has a number and
-- values too.
-- docs/SCOPE.md: Plans; The table of refusals.
use Rattle.std.specs.Prelude.{◌≡◌, List, ℕ}
use Rattle.cutting.specs.Job.{Job}
use Rattle.refusal.specs.Refusals.{Answer, Checked, passed, Outcome, by_check, first_refusal, refused_as, outcome_of}
use Rattle.promises.specs.declared.Choices.{Choices}
use Rattle.job.specs.Block.{job_checks}
use Rattle.job.specs.Weights.{block_job}
use Rattle.plan.specs.Plan.{proceed, walk_answer, plan_answer}
pub use Rattle.promises.specs.Block.{plan_count, plan_kinds, block_checks}
pub use Rattle.promises.specs.Calls.{plan_values}
unfoldable pub use Rattle.promises.specs.Block.{plan_operands}
use Rattle.promises.specs.declared.Report.{Report}

-- what a plan's arrays answer for a job block
abbrev pub arrays_answer : List ℕ → Choices → List ℕ → List ℕ → Answer Report
arrays_answer s choices kinds operands = proceed (first_refusal (job_checks s choices)) (plan_answer (block_job s choices) kinds operands)

-- and what they answer without 26
abbrev pub arrays_before_idle : List ℕ → Choices → List ℕ → List ℕ → Answer Report
arrays_before_idle s choices kinds operands = proceed (first_refusal (job_checks s choices)) (walk_answer (block_job s choices) kinds operands)

-- what a plan block answers for a job that was read
unfoldable pub plan_block_answer : Job → List ℕ → Answer Report
plan_block_answer J p = proceed (first_refusal (block_checks p)) (plan_answer J (plan_kinds p) (plan_operands p))

-- what a plan block answers for a job block
abbrev pub block_answer : List ℕ → Choices → List ℕ → Answer Report
block_answer s choices p = proceed (first_refusal (job_checks s choices)) (plan_block_answer (block_job s choices) p)

-- and what it answers without 26
abbrev pub block_before_idle : List ℕ → Choices → List ℕ → Answer Report
block_before_idle s choices p =
    proceed (first_refusal (job_checks s choices)) (proceed (first_refusal (block_checks p)) (walk_answer (block_job s choices) (plan_kinds p) (plan_operands p)))

-- no check of a job block, read by the choices of a call, refuses it
abbrev pub JobPasses : List ℕ → Choices → Type 0
JobPasses s choices = first_refusal (job_checks s choices) ≡ passed

-- and a plan block has the bytes of its nodes
abbrev pub BlockPasses : List ℕ → Type 0
BlockPasses p = first_refusal (block_checks p) ≡ passed

-- the number and values of a plan's answer
abbrev pub plan_outcome : Answer Report → Outcome
plan_outcome a = outcome_of plan_values a

-- the number and values of an answer that follows a check
abbrev pub said_after : Checked → Answer Report → Outcome
said_after v a = by_check v (plan_outcome a) refused_as

-- the number and values that the check of a plan's arrays answers for a job block
abbrev pub arrays_said : List ℕ → Choices → List ℕ → List ℕ → Outcome
arrays_said s choices kinds operands = said_after (first_refusal (job_checks s choices)) (plan_answer (block_job s choices) kinds operands)

-- the number and values that the check of a plan block answers for a job block
abbrev pub block_said : List ℕ → Choices → List ℕ → Outcome
block_said s choices p = said_after (first_refusal (job_checks s choices)) (plan_block_answer (block_job s choices) p)
