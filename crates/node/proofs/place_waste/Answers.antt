-- `node::place_waste` meets its contract: a wrong operand is refused, and the area is counted.
use Rattle.node.proofs.Prelude.{◌∙◌, rect_of}
use Rattle.node.proofs.Placed.{refused, waste_verdict, waste_placed}
use Rattle.node.proofs.place_waste.Goals as goal

pub returns-in_err-refuse_if : goal.returns-in_err-refuse_if
returns-in_err-refuse_if c = let a = c.args in
    λ J copies. refused J a.at (rect_of a.room) a.t copies 0 a.operand _ (waste_verdict J a.at (rect_of a.room) a.t copies a.operand c.refuse_if.ensures ∙ c.in_err-refuse_if.was) c.from_residual.ensures.1

pub returns : goal.returns
returns c = let a = c.args in
    λ J copies. waste_placed J a.at (rect_of a.room) a.t copies a.operand c.refuse_if.ensures c.in_ok-refuse_if.was c.add_waste.ensures.0 c.add_waste.ensures.1
