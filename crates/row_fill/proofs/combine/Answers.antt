-- `row_fill::combine` meets its contract. The loop's invariant: the words passed have taken their sums, every other word is as it was.
use Rattle.row_fill.proofs.Prelude.{arith, ◌+◌, length-set}
use Rattle.row_fill.proofs.Raising.{raised_max, sums_next}
use Rattle.row_fill.proofs.combine.Goals as goal

pub loop-j-preserved : goal.loop-j-preserved
loop-j-preserved c = let l = c.loop-j in
    (omega arith, simp length-set l.invariant.1, sums_next l.invariant.2 (omega arith) (omega arith) (raised_max (c.args.target + l.j) _ _ l.table (omega (arith, l.invariant.1)) c.greater.ensures))
