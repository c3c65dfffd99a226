-- `state_joins::joins::join_list` meets its contract.
use Rattle.state_joins.proofs.Prelude.{arith, refl, ◌∙◌, topped_then}
use Rattle.state_joins.proofs.Joining.{with_number}
use Rattle.state_joins.proofs.joins.join_list.Goals as goal

pub loop-state-preserved : goal.loop-state-preserved
loop-state-preserved c = let given = c.requires in
    let loop = c.loop-state in
    let state = given.1.states loop.state-index (omega arith) in
    (c.take-high.auto.table ∙ loop.invariant.0, with_number _ _ _ c.args.states.now _ _ _ _ _ _ _ _ _ given.0.ready.before state refl (omega (arith, c.figure.ensures.0)) loop.invariant.1 c.take-high.ensures.0, topped_then _ _ _ _ _ _ _ _ loop.invariant.2 c.take-high.ensures.1)
