-- `rounds::next_round` meets its contract.
use Rattle.rounds.proofs.Ends.{gap_most, turned_kept, turned_on, turned_full}
use Rattle.rounds.proofs.next_round.Goals as goal

pub returns-then-keep_demands : goal.returns-then-keep_demands
returns-then-keep_demands c = let a = c.args in
    turned_kept a.job a.lower a.round a.bound a.nodes a.weights.now a.kinds.now a.operands.now c.count_copies-copies.result c.requires c.count_copies-copies.ensures c.keep_demands.ensures c.if-keep_demands.true

pub next_weights-next-requires : goal.next_weights-next-requires
next_weights-next-requires c = let a = c.args in
    (c.requires.in_range.kinds.1, c.requires.round_small, gap_most a.job a.lower a.round a.bound a.nodes a.weights.now a.kinds.now a.operands.now c.count_copies-copies.result c.requires c.count_copies-copies.ensures)

pub returns-in-Ok : goal.returns-in-Ok
returns-in-Ok c = let a = c.args in
    turned_on a.job a.lower a.round a.bound a.nodes a.weights.now a.kinds.now a.operands.now c.count_copies-copies.result c.requires c.count_copies-copies.ensures c.keep_demands.ensures c.if-keep_demands.false c.if-round-eq17.false c.next_weights-next.ensures c.check_weights.ensures.answers c.in-Ok.is

pub returns-in-Err : goal.returns-in-Err
returns-in-Err c = let a = c.args in
    turned_full a.job a.lower a.round a.bound a.nodes a.weights.now a.kinds.now a.operands.now c.count_copies-copies.result c.requires c.count_copies-copies.ensures c.keep_demands.ensures c.if-keep_demands.false c.if-round-eq17.false c.next_weights-next.ensures c.check_weights.ensures.answers c.in-Err.is
