-- `planner::node_kinds` meets its contract: what the inner call promises gives the instance.
use Rattle.planner.proofs.Prelude.{kind_of, listed_length}
use Rattle.promises.specs.Plan.{kinds_of}
use Rattle.planner.proofs.Saws.{part_new}
use Rattle.planner.proofs.node_kinds.Goals as goal

pub returns : goal.returns
unfolding kinds_of
returns c = let a = c.args in part_new 1 kinds_of a.block.now a.choices (a.kinds.now, a.operands.now) a.node a.kinds _ (listed_length (λ n. kind_of n)) (λ t q. q.drawn.kinds_are) c.node_kinds.ensures.part
