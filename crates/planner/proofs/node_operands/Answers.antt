-- `planner::node_operands` meets its contract: what the inner call promises gives the instance.
use Rattle.planner.proofs.Prelude.{operand_of, listed_length}
use Rattle.promises.specs.Plan.{operands_of}
use Rattle.planner.proofs.Saws.{part_new}
use Rattle.planner.proofs.node_operands.Goals as goal

pub returns : goal.returns
unfolding operands_of
returns c = let a = c.args in part_new 2 operands_of a.block.now a.choices (a.kinds.now, a.operands.now) a.node a.operands _ (listed_length (λ n. operand_of n)) (λ t q. q.drawn.operands_are) c.node_operands.ensures.part
