-- The weights of a job: when they are refused, the capacity, the number and values of what they answer, and which jobs and weights
-- are accepted.
-- docs/SCOPE.md: Weights and capacity; The table of refusals.
use Rattle.std.specs.Prelude.{◌≡◌, List, [], ◌∷◌, ◌++◌, ℕ}
use Rattle.cutting.specs.Job.{Job, capacity}
use Rattle.refusal.specs.Refusals.{Outcome, first_refusal, outcome_by}
use Rattle.job.specs.Block.{job_checks, record_of, job_values}
use Rattle.promises.specs.declared.Choices.{Choices}
use Rattle.job.specs.declared.Acceptance.{Acceptance}
pub use Rattle.promises.specs.Block.{weight_in, weight_checks, block_job}
use Rattle.promises.specs.Refusals.{passed, Answer, answer_by, outcome_of}

-- what the weights of a job answer: the capacity, or the first refusal
abbrev pub weights_answer : Job → List ℕ → Answer ℕ
weights_answer J ws = answer_by (first_refusal (weight_checks J ws)) (capacity J (weight_in ws))

-- an answer's number and values: the capacity
abbrev pub weights_outcome : Answer ℕ → Outcome
weights_outcome a = outcome_of (λ q. q ∷ []) a

-- the number and values that the weights of a job answer
abbrev pub weights_said : Job → List ℕ → Outcome
weights_said J ws = outcome_by (first_refusal (weight_checks J ws)) (capacity J (weight_in ws) ∷ [])

-- a job block and weights that no check before the plan's refuses
abbrev pub Accepted : List ℕ → Choices → List ℕ → Type 0
Accepted s choices ws = first_refusal (job_checks s choices ++ weight_checks (block_job s choices) ws) ≡ passed

-- what a job block and weights answer: the record and the capacity, or the first refusal
abbrev pub acceptance_of : List ℕ → Choices → List ℕ → Answer Acceptance
acceptance_of s choices ws =
    answer_by (first_refusal (job_checks s choices ++ weight_checks (block_job s choices) ws)) (record { job = record_of s choices; capacity = capacity (block_job s choices) (weight_in ws) })

-- an answer's number and values: the record's, then the capacity
abbrev pub acceptance_outcome : Answer Acceptance → Outcome
acceptance_outcome a = outcome_of (λ b. job_values b.job ++ (b.capacity ∷ [])) a

-- the number and values that a job block and weights answer
abbrev pub acceptance_said : List ℕ → Choices → List ℕ → Outcome
acceptance_said s choices ws = outcome_by (first_refusal (job_checks s choices ++ weight_checks (block_job s choices) ws)) (job_values (record_of s choices) ++ (capacity (block_job s choices) (weight_in ws) ∷ []))
