-- `states::sums::add_steps` meets its contract.
use Rattle.states.proofs.Prelude.{arith, length-set}
use Rattle.states.proofs.Carries.{stepped_more, small_more}
use Rattle.states.proofs.sums.add_steps.Goals as goal

pub loop-s-preserved : goal.loop-s-preserved
loop-s-preserved c = let given = c.requires in
    let inv = c.loop-s.invariant in
    (omega (arith, inv.0), omega arith, simp length-set inv.2, small_more _ _ c.loop-s.table given.0 inv.0 (omega (arith, inv.2, given.2)) inv.3, stepped_more _ _ _ _ given.0 inv.0 (omega (arith, inv.2, given.2)) inv.4)
