-- `node::place_cut` meets its contract: the position is checked, and the sawdust is counted.
use Rattle.node.proofs.Prelude.{◌∙◌, ap, rect_of, Operand, refuse_when}
use Rattle.node.proofs.Placed.{refused, cut_verdict, cut_placed}
use Rattle.node.proofs.place_cut.Goals as goal

pub returns-in_err-refuse_if : goal.returns-in_err-refuse_if
returns-in_err-refuse_if c = let a = c.args in
    let e = c.refuse_if.ensures ∙ ap (λ b. refuse_when b (Operand a.at)) c.outside_cut.ensures in
    λ J copies kind operand b h n. refused J a.at (rect_of a.room) a.t copies kind operand _ (cut_verdict J a.at (rect_of a.room) a.t copies kind operand h a.d a.x a.kerf n b e ∙ c.in_err-refuse_if.was) c.from_residual.ensures.1

pub returns : goal.returns
returns c = let a = c.args in
    let e = c.refuse_if.ensures ∙ ap (λ b. refuse_when b (Operand a.at)) c.outside_cut.ensures in
    λ J copies kind operand b h n. cut_placed J a.at (rect_of a.room) a.t copies kind operand h a.d a.x a.kerf n b e c.in_ok-refuse_if.was c.add_cut.ensures.0 c.add_cut.ensures.1
