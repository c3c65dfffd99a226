-- `saw::node_kinds` meets its contract: the part lies where `node_part` says.
use Rattle.saw.proofs.Prelude.{◌+◌, arith, kind_of, kinds_of}
use Rattle.saw.proofs.Parts.{part_lies, handed}
use Rattle.saw.proofs.node_kinds.Goals as goal

pub returns : goal.returns
unfolding kinds_of
returns c = let a = c.args in
    let p = c.node_part-part in
    record { part = handed a.block.now a.choices a.kinds.now a.operands.now a.node 1 a.kinds _ (λ n. kind_of n) (λ t p. p.drawn.kinds_are) (part_lies 1 a.kinds p.result _ (p.result.first + a.kinds.ref_ptr.1) p.ensures.0 (omega arith)) }
