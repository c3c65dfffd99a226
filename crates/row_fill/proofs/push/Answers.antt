-- `row_fill::push` meets its contract. The loop's invariant: what the units passed give is pushed, and the units up to x are as they were.
use Rattle.row_fill.proofs.Prelude.{arith, ◌+◌, length-set}
use Rattle.row_fill.proofs.Raising.{raised_lifted, push_next, push_end}
use Rattle.row_fill.proofs.push.Goals as goal

pub loop-j-preserved : goal.loop-j-preserved
loop-j-preserved c = let l = c.loop-j in (
  omega arith,
  omega arith,
  simp length-set l.invariant.2,
  push_next l.invariant.3 c.requires.some l.invariant.0 (omega arith) (raised_lifted (c.args.x + l.j) c.args.v _ _ l.unit (omega (arith, l.invariant.2)) c.greater_lifted.ensures),
)

pub returns : goal.returns
returns c = push_end c.loop-j.invariant.3 (omega arith) (λ h. omega arith)
