-- The call that checks a model: its verdict with its number and place, that it passes exactly where the chains of the true sizes fit the
-- model's plate, and what then holds of the trees at the true sizes.
-- docs/SCOPE.md: True sizes.
use Rattle.std.specs.Prelude.{◌≡◌, not, ◌↔◌, List, [], ◌∷◌, ℕ, T}
use Rattle.promises.specs.declared.Direction.{Direction}
use Rattle.promises.specs.declared.Direction.TheVariants.{Length, Width}
use Rattle.cutting.specs.Job.{Job}
use Rattle.cutting.specs.Promises.{NoneAbove, NoneBetter}
use Rattle.cutting.specs.Staged.{NoneStaged, NoneStagedBetter}
use Rattle.cutting.specs.Relaxation.{ChainsFitIn, ChainsFit}
use Rattle.cutting.specs.Chains.{chains_fit}
use Rattle.refusal.specs.Refusals.{Check, Checked, Outcome, passed, next, first_refusal, outcome_by}
use Rattle.promises.specs.declared.Refusal.TheVariants.{NoModel}
use Rattle.promises.specs.declared.Choices.{Choices}
use Rattle.job.specs.Weights.{block_job}
use Rattle.sizes.specs.Sizes.{true_verdict, block_true_job}

-- check 33, for a true job J and its model M: along the length, then along the width
unfoldable pub model_checks : Job → Job → List Check
model_checks J M = (not (chains_fit J M Length), NoModel 0) ∷ (not (chains_fit J M Width), NoModel 1) ∷ []

-- the verdict: the checks of the two blocks come first
abbrev pub model_verdict : List ℕ → Choices → List ℕ → Checked
model_verdict s choices z = next (true_verdict s choices z) (first_refusal (model_checks (block_true_job s choices z) (block_job s choices)))

-- its number and values: there are none where it passes
abbrev pub model_said : List ℕ → Choices → List ℕ → Outcome
model_said s choices z = outcome_by (model_verdict s choices z) []

-- M stands for J: what no tree of M within the demands exceeds, no tree of J exceeds, cut at whole units of J or finer; and so within any
-- limit on stages
pub record StandsFor (M J : Job) : Type 0 where
  pub none_better : (n : ℕ) → NoneAbove M n → NoneBetter J n
  pub none_staged : (limit n : ℕ) → NoneStaged M limit n → NoneStagedBetter J limit n

-- what the call promises: its verdict is the definition's, with its number and place; the test of a direction passes exactly where the
-- chains there fit; where the two blocks pass their checks, the call passes exactly where they fit in both; and then the model stands for
-- the true job
pub record ModelPromises (s : List ℕ) (choices : Choices) (z : List ℕ) (r : Checked) : Type 0 where
  pub answers : r ≡ model_verdict s choices z
  pub outcome : outcome_by r [] ≡ model_said s choices z
  pub directions : (d : Direction) → T (chains_fit (block_true_job s choices z) (block_job s choices) d) ↔ ChainsFitIn (block_true_job s choices z) (block_job s choices) d
  pub exactly : true_verdict s choices z ≡ passed → (r ≡ passed) ↔ ChainsFit (block_true_job s choices z) (block_job s choices)
  pub stands : r ≡ passed → StandsFor (block_job s choices) (block_true_job s choices z)
