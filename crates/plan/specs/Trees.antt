-- The tree that a plan's arrays draw, and what a passed plan is: the preorder of a guillotine tree, which the report describes.
-- docs/SCOPE.md: Plans; The report.
use Rattle.std.specs.Prelude.{◌≡◌, List, ℕ, ◌+◌, ◌*◌}
use Rattle.std.specs.Result.{ForOk}
use Rattle.cutting.specs.Tree.{Tree, IdleFree}
use Rattle.cutting.specs.Pieces.{Piece}
use Rattle.cutting.specs.Job.{Job, profit, copies_of, pieces_area_of, waste_area_of, trim_area_of, sawdust_area_of}
use Rattle.refusal.specs.Refusals.{Answer, passed, verdict_of, first_refusal}
use Rattle.job.specs.Block.{entries}
use Rattle.idle.specs.Idle.{tree_checks}
use Rattle.promises.specs.declared.Report.{Report}
pub use Rattle.promises.specs.Plan.{with_node, first_tree, tree_in, DrawnAs, PlanOf}
unfoldable pub use Rattle.promises.specs.Plan.{trees_in}

-- a tree's own profit, copies of each kind (0 for numbers past the job's), and areas on the plate
abbrev pub tree_report : Job → Tree Piece → Report
tree_report J t = record {
  profit = profit J t;
  copies = entries (λ i. copies_of i t) J.count;
  pieces = pieces_area_of J t;
  waste = waste_area_of J J.plate.0 J.plate.1 t;
  trim = trim_area_of J J.plate.0 J.plate.1 t;
  sawdust = sawdust_area_of J J.plate.0 J.plate.1 t;
}

-- a report is a tree's own, and its four areas sum to the plate's
pub record Reports (J : Job) (t : Tree Piece) (r : Report) : Type 0 where
  pub own : r ≡ tree_report J t
  pub areas : r.pieces + r.waste + r.trim + r.sawdust ≡ J.plate.0 * J.plate.1

-- where what stands before the plan's checks holds, an answer passes exactly for the plan of a tree; it then reports that tree. Arrays drawn as
-- a tree are refused for its first idle cut in preorder alone; without one, `old` is the answer, which is that of the checks before 26
pub record ChecksPlan (Before : Type 0) (J : Job) (kinds operands : List ℕ) (old a : Answer Report) : Type 0 where
  pub passes : Before → (t : Tree Piece) → PlanOf J t kinds operands → verdict_of a ≡ passed
  pub before : verdict_of a ≡ passed → Before
  pub tree : ForOk a (λ r. (t : Tree Piece) × PlanOf J t kinds operands × Reports J t r)
  pub idle : Before → (t : Tree Piece) → DrawnAs J t kinds operands → verdict_of a ≡ first_refusal (tree_checks 0 t)
  pub old_table : ((t : Tree Piece) → DrawnAs J t kinds operands → IdleFree t) → a ≡ old
