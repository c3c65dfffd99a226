-- `planner_c::sawing::planner_saw_kinds` meets its contract: the part of the kinds.
use Rattle.planner_c.proofs.Prelude.{choices_of}
use Rattle.planner_c.proofs.Rule.{mapped}
use Rattle.planner_c.proofs.Parts.{kinds_told}
use Rattle.planner_c.proofs.sawing.planner_saw_kinds.Goals as goal

pub returns : goal.returns
returns c = let a = c.args in
    mapped (λ p e. kinds_told a.block.now (choices_of a.choices) (a.kinds.now, a.operands.now) a.node p e) c.put_node_part.ensures
