-- `neat::count_pieces` meets its contract: before node k - 1 is read, the pieces are those of the nodes from k on.
use Rattle.neat.proofs.Prelude.{arith}
use Rattle.neat.proofs.Scan.{none_counted, one_more}
use Rattle.neat.proofs.count_pieces.Goals as goal

pub loop-k-init : goal.loop-k-init
loop-k-init c = none_counted c.args.kinds.now

pub loop-k-preserved : goal.loop-k-preserved
loop-k-preserved c = one_more c.loop-k.invariant (omega (arith, c.loop-k-test)) c.decode-node.ensures c.piece_one-pieces.ensures
