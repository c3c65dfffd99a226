-- `planner_c::sawing::planner_saw_operands` meets its contract: the part of the operands.
use Rattle.planner_c.proofs.Prelude.{choices_of}
use Rattle.planner_c.proofs.Rule.{mapped}
use Rattle.planner_c.proofs.Parts.{operands_told}
use Rattle.planner_c.proofs.sawing.planner_saw_operands.Goals as goal

pub returns : goal.returns
returns c = let a = c.args in
    mapped (λ p e. operands_told a.block.now (choices_of a.choices) (a.kinds.now, a.operands.now) a.node p e) c.put_node_part.ensures
