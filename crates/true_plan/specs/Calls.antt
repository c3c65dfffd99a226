-- What the functions of the call promise: the true sizes as the scan has them, and an answer for a model and sizes that were read.
use Rattle.std.specs.Prelude.{◌≡◌, List, ℕ, get_or}
use Rattle.cutting.specs.Tree.{Rect, Tree}
use Rattle.cutting.specs.Pieces as laid
use Rattle.cutting.specs.Pieces.{lying}
use Rattle.cutting.specs.Preorder.{node_count}
use Rattle.cutting.specs.Job.{Job}
use Rattle.cutting.specs.Neat.{used_of, neat_of}
use Rattle.sizes.specs.declared.TrueSizes.{TrueSizes}
use Rattle.neat.specs.Neat.{NeatLeaves}
use Rattle.true_plan.specs.TruePlan.{report_of}
use Rattle.promises.specs.Refusals.{Checked, Answer, answer_by}
use Rattle.promises.specs.declared.TrueReport.{TrueReport}

-- the true size of a piece as it lies
abbrev pub true_laid : TrueSizes → laid.Piece → Rect
true_laid z p = lying (λ i. (get_or z.lengths i 0, get_or z.widths i 0)) p

-- the true plate
abbrev pub true_plate : TrueSizes → Rect
true_plate z = (z.length, z.width)

-- what an answer to a model and sizes that were read says and leaves, for a tree t by the sizes of its true job J
pub record TruePlanned (v : Checked) (J : Job) (t : Tree laid.Piece) (old_kinds old_positions new_kinds new_positions : List ℕ) (r : Answer TrueReport) : Type 0 where
  pub answers : r ≡ answer_by v (report_of (node_count (neat_of J t)) (used_of J t))
  pub memory : NeatLeaves v (neat_of J t) old_kinds old_positions new_kinds new_positions
