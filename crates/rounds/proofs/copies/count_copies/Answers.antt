-- `rounds::copies::count_copies` meets its contract.
use Rattle.std.proofs.Common.{rules}
use Rattle.rounds.proofs.Prelude.{◌∙◌, ap, ℕ, ◌+◌, arith, get_or, length-replicate, get_or-replicate, sum_none, sum_more, piece_here}
use Rattle.rounds.proofs.Count.{pieces_most}
use Rattle.rounds.proofs.copies.count_copies.Goals as goal

pub loop-i-init : goal.loop-i-init
loop-i-init c = (search rules, length-replicate {A = ℕ} 64 0, λ k h. get_or-replicate 64 k 0 0 h ∙ sum_none (λ j. piece_here (get_or c.args.kinds.now j 0) (get_or c.args.operands.now j 0) k))

pub count_node-requires : goal.count_node-requires
count_node-requires c = (c.loop-i.invariant.1, λ k h. omega (arith, c.loop-i.invariant.2 k h, pieces_most c.args.kinds.now c.args.operands.now c.loop-i.i k))

pub loop-i-preserved : goal.loop-i-preserved
loop-i-preserved c = (search rules, c.count_node.ensures.0, λ k h. c.count_node.ensures.1 k h ∙ ap (λ n. n + piece_here (get_or c.args.kinds.now c.loop-i.i 0) (get_or c.args.operands.now c.loop-i.i 0) k) (c.loop-i.invariant.2 k h) ∙ sum_more (λ j. piece_here (get_or c.args.kinds.now j 0) (get_or c.args.operands.now j 0) k) c.loop-i.i)
