-- What the bound printer decides: where the job ends in the input, whether a plan keeps every demand, and what is said of the written plan.
use Rattle.std.specs.Prelude.{◌≡◌, Bool, true, List, ℕ, ◌+◌, ◌*◌, ◌≤◌, min, length, take, Ok, Err}
use Rattle.cutting.specs.Tree.{Tree}
use Rattle.cutting.specs.Pieces.{Piece}
use Rattle.cutting.specs.Limits.{most_nodes}
use Rattle.cutting.specs.Preorder.{kinds_of, operands_of, node_count}
use Rattle.cutting.specs.Job.{Job, KeepsDemands, profit}
use Rattle.cutting.specs.Promises.{NoneBetter}
use Rattle.promises.specs.declared.Refusal.{Refusal}
use Rattle.promises.specs.declared.Choices.{Choices}
use Rattle.job.specs.Block.{count_at}
use Rattle.job.specs.Weights.{block_job}
use Rattle.plan.specs.Trees.{PlanOf}
use Rattle.bound.specs.Bound.{Memory}
use Rattle.writer.specs.Write.{block_plan, write_answer}
use Rattle.printer.specs.declared.Judged.{Judged}
use Rattle.promises.specs.Refusals.{Answer}

-- the job, an old block, is the first 6 + 10n bytes, or all if fewer are there; the rest are weights
abbrev pub job_end : List ℕ → ℕ
job_end s = min (length s) (6 + 10 * count_at s)

-- where the job passes, the answer is true exactly for the plan of a tree that keeps every demand, without an idle cut; a true answer is
-- about such a tree
pub record DemandsKept (JobPassed : Type 0) (J : Job) (ks os : List ℕ) (r : Bool) : Type 0 where
  pub passed : r ≡ true → JobPassed
  pub tree : r ≡ true → (t : Tree Piece) × PlanOf J t ks os
  pub complete : JobPassed → (t : Tree Piece) → PlanOf J t ks os → r ≡ true

-- what is said of a written tree, whose preorder the first entries of the arrays are: the profit is its own; it is called best exactly if it
-- keeps every demand, and then no tree that keeps every demand earns more
pub record SaysOf (J : Job) (t : Tree Piece) (kinds operands : List ℕ) (p : Judged) : Type 0 where
  pub nodes : (p.report.nodes ≡ node_count t) × (node_count t ≤ most_nodes)
  pub kinds_are : take p.report.nodes kinds ≡ kinds_of t
  pub operands_are : take p.report.nodes operands ≡ operands_of t
  pub profit_is : p.profit ≡ profit J t
  pub kept : p.best ≡ true → KeepsDemands J t
  pub keeps : KeepsDemands J t → p.best ≡ true
  pub none_better : p.best ≡ true → NoneBetter J p.profit

-- what is said of a job block and weights: of the plan behind the bound, as it was written, or the writing call's refusal
pub record JudgesPlan (s : List ℕ) (choices : Choices) (ws : List ℕ) (m : Memory) (kinds operands new_kinds new_operands : List ℕ) (r : Answer Judged) : Type 0 where
  pub written : (p : Judged) → r ≡ Ok p → (write_answer s choices ws m kinds operands ≡ Ok p.report) × SaysOf (block_job s choices) (block_plan s choices ws) new_kinds new_operands p
  pub refused : (x : Refusal) → r ≡ Err x → write_answer s choices ws m kinds operands ≡ Err x
