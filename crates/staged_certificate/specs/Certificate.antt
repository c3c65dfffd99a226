-- The staged certificate: its checks in the table's order, its answer with number and values, and what it promises: "best" is said among
-- the guillotine trees within the limit. Lists and table are left as the staged bound call leaves them.
-- docs/SCOPE.md: No more than so many stages.
use Rattle.std.specs.Prelude.{◌≡◌, List, ℕ}
use Rattle.cutting.specs.Tree.{Tree}
use Rattle.cutting.specs.Pieces.{Piece}
use Rattle.cutting.specs.Job.{Job, profit}
use Rattle.cutting.specs.Staged.{staged_bound, NoneStagedBetter}
use Rattle.refusal.specs.Refusals.{Answer, Checked, Outcome, next, first_refusal, answer_by, outcome_by}
use Rattle.promises.specs.declared.Choices.{Choices}
use Rattle.job.specs.Weights.{block_job, weight_in}
use Rattle.staged_plan.specs.Check.{within_verdict, LimitPasses, staged_check_answer, staged_before_idle, StagedPlanOf, ChecksStaged}
use Rattle.bound.specs.Bound.{Memory, wide_job, block_capacity}
use Rattle.staged_bound.specs.Staged.{limit_verdict, staged_checks, StagedLeaves}
use Rattle.certificate.specs.Certificate.{plan_profit, compared, compared_values, certificate_outcome}
use Rattle.certificate.specs.Promises.{BestAmong, GapAmong}
use Rattle.promises.specs.declared.Certificate.{Certificate}

-- the verdict of the checks that stand before the storage's: 1 to 9, 27 and 35, 22, then the plan's within the limit, 10 to 18, 36, 26 and
-- 23
abbrev pub staged_plan_verdict : List ℕ → Choices → List ℕ → ℕ → List ℕ → List ℕ → Checked
staged_plan_verdict s choices ws n kinds operands = next (limit_verdict s choices ws n) (within_verdict (block_job s choices) n kinds operands)

-- the verdict of all checks: then storage, 19 and 20
abbrev pub certify_staged_verdict : List ℕ → Choices → List ℕ → ℕ → List ℕ → List ℕ → Memory → Checked
certify_staged_verdict s choices ws n kinds operands m =
    next (staged_plan_verdict s choices ws n kinds operands) (first_refusal (staged_checks (wide_job s choices) n (block_capacity s choices ws) m))

-- what it answers: best exactly when the plan's profit equals the staged bound; otherwise the gap
abbrev pub staged_certificate : List ℕ → Choices → List ℕ → ℕ → List ℕ → List ℕ → Memory → Answer Certificate
staged_certificate s choices ws n kinds operands m =
    answer_by (certify_staged_verdict s choices ws n kinds operands m) (compared (plan_profit (block_job s choices) kinds operands) (staged_bound (block_job s choices) (weight_in ws) n))

-- the number and values that it answers
abbrev pub staged_certificate_said : List ℕ → Choices → List ℕ → ℕ → List ℕ → List ℕ → Memory → Outcome
staged_certificate_said s choices ws n kinds operands m =
    outcome_by (certify_staged_verdict s choices ws n kinds operands m) (compared_values (plan_profit (block_job s choices) kinds operands) (staged_bound (block_job s choices) (weight_in ws) n))

-- the arrays are those of a guillotine tree on the plate of at most n stages that keeps every demand and has no idle cut, and it earns m
abbrev pub EarnsStaged : Job → ℕ → List ℕ → List ℕ → ℕ → Type 0
EarnsStaged J n kinds operands m = (t : Tree Piece) × StagedPlanOf J n t kinds operands × (profit J t ≡ m)

-- what "best" says within a limit: the plan's arrays are those of a tree of at most n stages that keeps every demand and earns the profit
-- named, which is the staged bound, and no tree of at most n stages that keeps every demand, cut at whole units or finer, earns more
abbrev pub BestStaged : Job → (ℕ → ℕ) → ℕ → List ℕ → List ℕ → Answer Certificate → Type 0
BestStaged J weight n kinds operands r = BestAmong (EarnsStaged J n kinds operands) (NoneStagedBetter J n) (staged_bound J weight n) r

-- and what a gap says, of the same plan and the same trees
abbrev pub GapStaged : Job → (ℕ → ℕ) → ℕ → List ℕ → List ℕ → Answer Certificate → Type 0
GapStaged J weight n kinds operands r = GapAmong (EarnsStaged J n kinds operands) (NoneStagedBetter J n) (staged_bound J weight n) r

-- what the staged certificate promises of its answer and of the memory that it is lent: both are the definitions', number and values too;
-- the plan is judged by its tree, as the staged check judges it; "best" and a gap say what they say of every tree within the limit
pub record CertifyStagedPromises (s : List ℕ) (choices : Choices) (ws : List ℕ) (n : ℕ) (kinds operands : List ℕ) (old new : Memory) (r : Answer Certificate) : Type 0 where
  pub answers : r ≡ staged_certificate s choices ws n kinds operands old
  pub outcome : certificate_outcome r ≡ staged_certificate_said s choices ws n kinds operands old
  pub memory : StagedLeaves (staged_plan_verdict s choices ws n kinds operands) (wide_job s choices) (weight_in ws) n (block_capacity s choices ws) old new
  pub judged : ChecksStaged (LimitPasses s choices n) (block_job s choices) n kinds operands (staged_before_idle s choices n kinds operands) (staged_check_answer s choices n kinds operands)
  pub best : BestStaged (block_job s choices) (weight_in ws) n kinds operands r
  pub gap : GapStaged (block_job s choices) (weight_in ws) n kinds operands r
