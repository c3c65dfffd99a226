-- The certificate: its checks in the table's order, what it answers, and the answer's number and values. Lists and table are left as
-- the bound call leaves them.
-- docs/SCOPE.md: The certificate.
use Rattle.std.specs.Prelude.{List, [], ◌∷◌, ℕ, ◌-◌, eqb}
use Rattle.cutting.specs.Job.{Job, profit, bound_of}
use Rattle.refusal.specs.Refusals.{Answer, Checked, Outcome, next, first_refusal, answer_by, verdict_of, outcome_by, outcome_of}
use Rattle.promises.specs.declared.Choices.{Choices}
use Rattle.job.specs.Weights.{block_job, weight_in}
use Rattle.plan.specs.Plan.{plan_answer}
use Rattle.plan.specs.Trees.{tree_in}
use Rattle.bound.specs.Bound.{Memory, memory_checks, wide_job, block_capacity, accept_verdict}
use Rattle.promises.specs.declared.Certificate.{Certificate}
use Rattle.promises.specs.Calls as calls
pub use Rattle.promises.specs.Calls.{certificate_values}

-- the verdict of the checks that stand before the storage's: 1 to 9, 27 and 35, then the plan's, 10 to 18, 36 and 26
abbrev pub plan_verdict : List ℕ → Choices → List ℕ → List ℕ → List ℕ → Checked
plan_verdict s choices ws kinds operands = next (accept_verdict s choices ws) (verdict_of (plan_answer (block_job s choices) kinds operands))

-- the verdict of all checks: then storage, 19 and 20
abbrev pub certify_verdict : List ℕ → Choices → List ℕ → List ℕ → List ℕ → Memory → Checked
certify_verdict s choices ws kinds operands m = next (plan_verdict s choices ws kinds operands) (first_refusal (memory_checks (wide_job s choices) (block_capacity s choices ws) m))

-- the profit of the tree that a plan's arrays draw
abbrev pub plan_profit : Job → List ℕ → List ℕ → ℕ
plan_profit J kinds operands = profit J (tree_in kinds operands)

-- best exactly when the profit equals the bound; otherwise the gap, bound minus profit
abbrev pub compared : ℕ → ℕ → Certificate
compared profit bound = calls.compared (eqb profit bound) (profit, bound)

-- what certify answers: the certificate of the plan's profit, or the first refusal
abbrev pub certificate_of : List ℕ → Choices → List ℕ → List ℕ → List ℕ → Memory → Answer Certificate
certificate_of s choices ws kinds operands m =
    answer_by (certify_verdict s choices ws kinds operands m) (compared (plan_profit (block_job s choices) kinds operands) (bound_of (block_job s choices) (weight_in ws)))

-- an answer's number and values
abbrev pub certificate_outcome : Answer Certificate → Outcome
certificate_outcome r = outcome_of certificate_values r

-- the values of a profit and a bound: the gap, the bound and the profit
abbrev pub compared_values : ℕ → ℕ → List ℕ
compared_values profit bound = (bound - profit) ∷ bound ∷ profit ∷ []

-- the number and values that certify answers
abbrev pub certificate_said : List ℕ → Choices → List ℕ → List ℕ → List ℕ → Memory → Outcome
certificate_said s choices ws kinds operands m =
    outcome_by (certify_verdict s choices ws kinds operands m) (compared_values (plan_profit (block_job s choices) kinds operands) (bound_of (block_job s choices) (weight_in ws)))
