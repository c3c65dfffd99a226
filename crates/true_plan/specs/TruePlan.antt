-- The true plan of a model's plan: check 34 over the true plate, the answer with its number and values, what is left in the output arrays,
-- and what the call promises of the plan: a tree at the true sizes, which none beats where the model stands for them and none beats the
-- model's plan.
-- docs/SCOPE.md: True sizes.
use Rattle.std.specs.Prelude.{◌≡◌, List, [], ◌∷◌, ◌++◌, ℕ, ◌≤◌, ltb, length}
use Rattle.cutting.specs.Tree.{Rect, Tree}
use Rattle.cutting.specs.Pieces as laid
use Rattle.cutting.specs.Pieces.{◌⊑◌}
use Rattle.cutting.specs.Preorder.{node_count}
use Rattle.cutting.specs.Shares.{stages}
use Rattle.cutting.specs.Job.{Job, OnPlate, KeepsDemands, profit, copies_of}
use Rattle.cutting.specs.Promises.{NoneAbove, NoneBetter}
use Rattle.cutting.specs.Staged.{NoneStaged, NoneStagedBetter}
use Rattle.cutting.specs.Neat.{used_of, neat_of}
use Rattle.cutting.specs.Relaxation.{ChainsFit}
use Rattle.refusal.specs.Refusals.{Check, Outcome, next, first_refusal, outcome_by}
use Rattle.promises.specs.declared.Refusal.TheVariants.{TrueMisfit}
use Rattle.promises.specs.declared.Choices.{Choices}
use Rattle.job.specs.Block.{job_checks}
use Rattle.job.specs.Weights.{block_job}
use Rattle.sizes.specs.Sizes.{sizes_checks, sizes_of, true_job}
use Rattle.plan.specs.Plan.{plan_answer}
use Rattle.plan.specs.Trees.{tree_in, DrawnAs, PlanOf}
use Rattle.plan.specs.Calls.{JobPasses}
use Rattle.neat.specs.Neat.{neat_tree, output_check, NeatLeaves}
pub use Rattle.promises.specs.True.{true_values}
use Rattle.promises.specs.Refusals.{passed, Checked, Answer, answer_by, verdict_of, outcome_of}
use Rattle.promises.specs.declared.TrueReport.{TrueReport}

-- check 34: the used length is more than the plate's, and then the used width
abbrev pub fit_checks : Rect → Rect → List Check
fit_checks plate used = (ltb plate.0 used.0, TrueMisfit 0) ∷ (ltb plate.1 used.1, TrueMisfit 1) ∷ []

-- the verdict for a model M that was read and its true job J: the model's plan check, then 34, then 21
abbrev pub true_checked : Job → Job → (kinds operands old_kinds old_positions : List ℕ) → Checked
true_checked M J kinds operands old_kinds old_positions =
    next (verdict_of (plan_answer M kinds operands))
    (first_refusal (fit_checks J.plate (used_of J (tree_in kinds operands)) ++ (output_check (neat_tree J kinds operands) (length old_kinds) (length old_positions) ∷ [])))

-- the true job of a job block and a sizes block
abbrev pub block_true : List ℕ → Choices → List ℕ → Job
block_true s choices z = true_job (block_job s choices) (sizes_of (block_job s choices).count z)

-- the sizes block passes its checks
abbrev pub SizesPass : List ℕ → Choices → List ℕ → Type 0
SizesPass s choices z = first_refusal (sizes_checks (block_job s choices).count z) ≡ passed

-- the verdict of the call: the checks of the job and of the sizes come first
abbrev pub true_verdict : List ℕ → Choices → (z kinds operands old_kinds old_positions : List ℕ) → Checked
true_verdict s choices z kinds operands old_kinds old_positions =
    next (first_refusal (job_checks s choices))
    (next (first_refusal (sizes_checks (block_job s choices).count z)) (true_checked (block_job s choices) (block_true s choices z) kinds operands old_kinds old_positions))

-- the true plan of the blocks and a plan's arrays
abbrev pub block_neat : List ℕ → Choices → (z kinds operands : List ℕ) → Tree laid.Piece
block_neat s choices z kinds operands = neat_tree (block_true s choices z) kinds operands

-- its used size
abbrev pub block_used : List ℕ → Choices → (z kinds operands : List ℕ) → Rect
block_used s choices z kinds operands = used_of (block_true s choices z) (tree_in kinds operands)

-- what is reported of a tree: its number of nodes, and its used size
abbrev pub report_of : ℕ → Rect → TrueReport
report_of n used = record { nodes = n; length = used.0; width = used.1 }

-- what the call answers
abbrev pub true_answer : List ℕ → Choices → (z kinds operands old_kinds old_positions : List ℕ) → Answer TrueReport
true_answer s choices z kinds operands old_kinds old_positions =
    answer_by (true_verdict s choices z kinds operands old_kinds old_positions) (report_of (node_count (block_neat s choices z kinds operands)) (block_used s choices z kinds operands))

-- the number and values that it answers
abbrev pub true_said : List ℕ → Choices → (z kinds operands old_kinds old_positions : List ℕ) → Outcome
true_said s choices z kinds operands old_kinds old_positions =
    outcome_by (true_verdict s choices z kinds operands old_kinds old_positions)
    (node_count (block_neat s choices z kinds operands) ∷ (block_used s choices z kinds operands).0 ∷ (block_used s choices z kinds operands).1 ∷ [])

-- a tree t of a job J that earns n, and none beats it: no tree of J that keeps the demands, cut at whole units or finer, earns more
pub record Best (J : Job) (t : Tree laid.Piece) (n : ℕ) : Type 0 where
  pub on_plate : OnPlate J t
  pub keeps : KeepsDemands J t
  pub earns : profit J t ≡ n
  pub none_better : NoneBetter J n

-- the same among the trees of at most so many stages
pub record StagedBest (J : Job) (t : Tree laid.Piece) (limit n : ℕ) : Type 0 where
  pub on_plate : OnPlate J t
  pub keeps : KeepsDemands J t
  pub staged : stages t ≤ limit
  pub earns : profit J t ≡ n
  pub none_better : NoneStagedBetter J limit n

-- the true plan of a tree t that a passed plan's arrays draw for the model M, and no other tree, by the sizes of its true job J: where its
-- used size is within the plate, a guillotine tree on it that loses the true kerf at each cut, each cut at the used size of its first part;
-- it keeps the demands, earns the same, has the same copies of every kind, no more nodes and no more stages. Where besides the model
-- stands for the true sizes and none of its trees earns more than the plan, no tree at the true sizes earns more than the true plan
pub record TruePlan (M J : Job) (t : Tree laid.Piece) (kinds operands : List ℕ) : Type 0 where
  pub drawn : PlanOf M t kinds operands
  pub only : (u : Tree laid.Piece) → DrawnAs M u kinds operands → u ≡ t
  pub on_plate : used_of J t ⊑ J.plate → OnPlate J (neat_of J t)
  pub used : used_of J (neat_of J t) ≡ used_of J t
  pub keeps : KeepsDemands J (neat_of J t)
  pub earns : profit J (neat_of J t) ≡ profit M t
  pub copies : (i : ℕ) → copies_of i (neat_of J t) ≡ copies_of i t
  pub no_more_nodes : node_count (neat_of J t) ≤ node_count t
  pub no_more_stages : stages (neat_of J t) ≤ stages t
  pub best : ChainsFit J M → used_of J t ⊑ J.plate → (n : ℕ) → profit M t ≡ n → NoneAbove M n → Best J (neat_of J t) n
  pub staged_best : ChainsFit J M → used_of J t ⊑ J.plate → (limit n : ℕ) → stages t ≤ limit → profit M t ≡ n → NoneStaged M limit n → StagedBest J (neat_of J t) limit n

-- where a job block, a sizes block and a plan's arrays pass their checks, what holds of the true plan
abbrev pub TrueJudged : List ℕ → Choices → (z kinds operands : List ℕ) → Type 0
TrueJudged s choices z kinds operands =
    JobPasses s choices → SizesPass s choices z → verdict_of (plan_answer (block_job s choices) kinds operands) ≡ passed
    → TruePlan (block_job s choices) (block_true s choices z) (tree_in kinds operands) kinds operands

-- what the call promises of its answer and of the output arrays: answer and arrays are the definitions', number and values too; where it
-- passes, the used size is within the plate; and where the blocks and the plan pass their checks, what holds of the true plan
pub record TruePromises (s : List ℕ) (choices : Choices) (z kinds operands old_kinds old_positions new_kinds new_positions : List ℕ) (r : Answer TrueReport) : Type 0 where
  pub answers : r ≡ true_answer s choices z kinds operands old_kinds old_positions
  pub outcome : outcome_of true_values r ≡ true_said s choices z kinds operands old_kinds old_positions
  pub memory : NeatLeaves (true_verdict s choices z kinds operands old_kinds old_positions) (block_neat s choices z kinds operands) old_kinds old_positions new_kinds new_positions
  pub fits : true_verdict s choices z kinds operands old_kinds old_positions ≡ passed → block_used s choices z kinds operands ⊑ (block_true s choices z).plate
  pub plan : TrueJudged s choices z kinds operands
