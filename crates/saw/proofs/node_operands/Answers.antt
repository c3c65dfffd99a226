-- `saw::node_operands` meets its contract: the part lies where `node_part` says.
use Rattle.saw.proofs.Prelude.{◌+◌, ◌*◌, arith, operand_of, operands_of}
use Rattle.saw.proofs.Parts.{part_lies, handed}
use Rattle.saw.proofs.node_operands.Goals as goal

pub returns : goal.returns
unfolding operands_of
returns c = let a = c.args in
    let p = c.node_part-part in
    record { part = handed a.block.now a.choices a.kinds.now a.operands.now a.node 2 a.operands _ (λ n. operand_of n) (λ t p. p.drawn.operands_are) (part_lies 2 a.operands p.result _ (p.result.first * 2 + a.operands.ref_ptr.1) p.ensures.0 (omega arith)) }
