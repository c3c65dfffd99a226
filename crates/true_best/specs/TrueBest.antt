-- The statement that a shop may quote, from the answers of three calls alone: the check of the model passes, the model's plan is best there,
-- and the true plan is written. Then it earns what the plan earns, and no guillotine plan at the true sizes, cut anywhere, earns more.
-- Each answer stands beside the promises of the call that gave it.
-- docs/SCOPE.md: True sizes.
use Rattle.std.specs.Prelude.{◌≡◌, List, ℕ, Ok}
use Rattle.cutting.specs.Lists.{over}
use Rattle.cutting.specs.Tree.{Tree}
use Rattle.cutting.specs.Pieces.{Piece}
use Rattle.cutting.specs.Preorder.{kinds_of, operands_of, node_count}
use Rattle.cutting.specs.Job.{Job}
use Rattle.cutting.specs.Neat.{used_of}
use Rattle.promises.specs.Refusals.{passed, Checked, Answer}
use Rattle.promises.specs.declared.Choices.{Choices}
use Rattle.promises.specs.declared.Report.{Report}
use Rattle.promises.specs.declared.TrueReport.{TrueReport}
use Rattle.job.specs.Weights.{block_job}
use Rattle.plan.specs.Trees.{ChecksPlan}
use Rattle.plan.specs.Calls.{JobPasses, arrays_before_idle}
use Rattle.bound.specs.Bound.{Memory}
use Rattle.promises.specs.declared.TwoReport.{TwoReport}
use Rattle.two_bound.specs.Two.{TwoPromises}
use Rattle.promises.specs.declared.ExactReport.{ExactReport}
use Rattle.exact.specs.Exact.{ExactPromises}
use Rattle.promises.specs.declared.Certificate.{Certificate}
use Rattle.promises.specs.declared.Certificate.TheVariants as certificate
use Rattle.certificate.specs.Promises.{CertifyPromises}
use Rattle.staged_certificate.specs.Certificate.{CertifyStagedPromises}
use Rattle.model.specs.Model.{ModelPromises}
use Rattle.true_plan.specs.TruePlan.{block_true, block_neat, Best, StagedBest, TruePromises}

-- the check of a model answers that it passes
abbrev pub ModelPasses : List ℕ → Choices → List ℕ → Type 0
ModelPasses s choices z = (r : Checked) × ModelPromises s choices z r × (r ≡ passed)

-- certify answers that a plan is best with profit n, under some weights
pub record CertifiedBest (s : List ℕ) (choices : Choices) (kinds operands : List ℕ) (n : ℕ) : Type 0 where
  pub weights : List ℕ
  pub old : Memory
  pub new : Memory
  pub answer : Answer Certificate
  pub promised : CertifyPromises s choices weights kinds operands old new answer
  pub best : answer ≡ Ok (certificate.Best n)

-- and so the staged certificate within a limit
pub record CertifiedStaged (s : List ℕ) (choices : Choices) (limit : ℕ) (kinds operands : List ℕ) (n : ℕ) : Type 0 where
  pub weights : List ℕ
  pub old : Memory
  pub new : Memory
  pub answer : Answer Certificate
  pub promised : CertifyStagedPromises s choices weights limit kinds operands old new answer
  pub best : answer ≡ Ok (certificate.Best n)

-- the check of a plan answers that it passes with profit n
pub record PlanEarns (s : List ℕ) (choices : Choices) (kinds operands : List ℕ) (n : ℕ) : Type 0 where
  pub answer : Answer Report
  pub promised : ChecksPlan (JobPasses s choices) (block_job s choices) kinds operands (arrays_before_idle s choices kinds operands) answer
  pub report : Report
  pub answered : answer ≡ Ok report
  pub earns : report.profit ≡ n

-- the exact call answers the optimum n
pub record OptimumIs (s : List ℕ) (choices : Choices) (n : ℕ) : Type 0 where
  pub old : Memory
  pub new : Memory
  pub old_kinds : List ℕ
  pub old_operands : List ℕ
  pub new_kinds : List ℕ
  pub new_operands : List ℕ
  pub answer : Answer ExactReport
  pub promised : ExactPromises s choices old new old_kinds old_operands new_kinds new_operands answer
  pub report : ExactReport
  pub answered : answer ≡ Ok report
  pub optimum : report.optimum ≡ n

-- the call of two weights answers the bound n, under some weights
pub record TwoBoundIs (s : List ℕ) (choices : Choices) (n : ℕ) : Type 0 where
  pub first : List ℕ
  pub second : List ℕ
  pub old : Memory
  pub new : Memory
  pub answer : Answer TwoReport
  pub promised : TwoPromises s choices first second old new answer
  pub report : TwoReport
  pub answered : answer ≡ Ok report
  pub bound : report.bound ≡ n

-- the true plan's call answers that it was written, with the number of its nodes and its used size
pub record TrueWritten (s : List ℕ) (choices : Choices) (z kinds operands old_kinds old_positions new_kinds new_positions : List ℕ) (b : TrueReport) : Type 0 where
  pub answer : Answer TrueReport
  pub promised : TruePromises s choices z kinds operands old_kinds old_positions new_kinds new_positions answer
  pub written : answer ≡ Ok b

-- what the output arrays hold: the preorder of a tree t over their old contents, with the nodes reported and the used size reported in the job J
pub record Holds (J : Job) (t : Tree Piece) (old_kinds old_positions new_kinds new_positions : List ℕ) (b : TrueReport) : Type 0 where
  pub kinds_hold : new_kinds ≡ over (kinds_of t) old_kinds
  pub positions_hold : new_positions ≡ over (operands_of t) old_positions
  pub counted : b.nodes ≡ node_count t
  pub long : b.length ≡ (used_of J t).0
  pub wide : b.width ≡ (used_of J t).1

-- what the three answers prove, whatever was written: the output arrays hold a guillotine tree on the true plate that keeps every demand
-- and earns n, and no guillotine tree at the true sizes that keeps every demand, cut at whole true units or finer, earns more. That the
-- model's plan is best comes from the certificate; or it earns the optimum, or the bound of two weights; or, among the trees of at most so
-- many stages, from the staged certificate
pub record TrueBest (s : List ℕ) (choices : Choices) (z kinds operands : List ℕ) : Type 0 where
  pub written : {ok op nk np : List ℕ} {b : TrueReport} → TrueWritten s choices z kinds operands ok op nk np b
      → Holds (block_true s choices z) (block_neat s choices z kinds operands) ok op nk np b
  pub certified : {ok op nk np : List ℕ} {b : TrueReport} {n : ℕ} → ModelPasses s choices z → CertifiedBest s choices kinds operands n → TrueWritten s choices z kinds operands ok op nk np b
      → Best (block_true s choices z) (block_neat s choices z kinds operands) n
  pub optimal : {ok op nk np : List ℕ} {b : TrueReport} {n : ℕ} → ModelPasses s choices z → PlanEarns s choices kinds operands n → OptimumIs s choices n → TrueWritten s choices z kinds operands ok op nk np b
      → Best (block_true s choices z) (block_neat s choices z kinds operands) n
  pub two_weights : {ok op nk np : List ℕ} {b : TrueReport} {n : ℕ} → ModelPasses s choices z → PlanEarns s choices kinds operands n → TwoBoundIs s choices n → TrueWritten s choices z kinds operands ok op nk np b
      → Best (block_true s choices z) (block_neat s choices z kinds operands) n
  pub staged : {ok op nk np : List ℕ} {b : TrueReport} {limit n : ℕ} → ModelPasses s choices z → CertifiedStaged s choices limit kinds operands n → TrueWritten s choices z kinds operands ok op nk np b
      → StagedBest (block_true s choices z) (block_neat s choices z kinds operands) limit n
