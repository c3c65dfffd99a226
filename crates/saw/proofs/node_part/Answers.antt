-- `saw::node_part` meets its contract at a node of a plan that passes.
use Rattle.saw.proofs.Prelude.{sym, ◌∙◌, ap, arith, saw_answer, verdict_of}
use Rattle.saw.proofs.Parts.{part_at, same_length}
use Rattle.saw.proofs.node_part.Goals as goal

pub tree_end-requires : goal.tree_end-requires
tree_end-requires c = let a = c.args in
    omega (arith, c.requires (same_length a.block.now a.choices a.kinds.now a.operands.now c.saw_check.ensures.trees c.in-Ok.is))

pub returns : goal.returns
returns c = let a = c.args in
    let saw = c.saw_check.ensures in
    let e = c.requires (same_length a.block.now a.choices a.kinds.now a.operands.now saw.trees c.in-Ok.is) in
    let v = ap verdict_of (sym saw.answers ∙ c.in-Ok.is) in
    (part_at (verdict_of (saw_answer a.block.now a.choices a.kinds.now a.operands.now)) a.kinds.now a.count a.node v c.if-count-node.false c.tree_end.ensures.0, c.tree_end.ensures.1, omega (arith, e, c.tree_end.ensures.2))
