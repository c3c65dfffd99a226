-- `two_bound::put_states` meets its contract. The loop's invariant: the pieces passed have their states.
use Rattle.two_bound.proofs.Prelude.{◌∙◌, ◌/◌, ◌+◌, ◌*◌, arith, get_or, weight_in}
use Rattle.two_bound.proofs.States.{state_same, stated_more}
use Rattle.two_bound.proofs.put_states.Goals as goal

pub loop-i-preserved : goal.loop-i-preserved
loop-i-preserved c = let e = c.args in
    let i = c.loop-i.i in
    let so = c.loop-i.invariant.1 in (
      omega arith,
      stated_more (weight_in e.first.now) (weight_in e.second.now) e.most.first e.most.second e.pieces.now i c.state_of.result so (omega (arith, so.entries, c.requires.entries, c.requires.few))
          (c.state_of.ensures ∙ state_same (weight_in e.first.now) (weight_in e.second.now) e.most.first e.most.second (get_or c.loop-i.pieces (5 * i + 4) 0 / 2)),
    )
