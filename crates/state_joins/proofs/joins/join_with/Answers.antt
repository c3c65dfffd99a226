-- `state_joins::joins::join_with` meets its contract.
use Rattle.state_joins.proofs.Prelude.{arith, ◌∙◌, topped_then}
use Rattle.state_joins.proofs.Joining.{entry_state, with_listed}
use Rattle.state_joins.proofs.joins.join_with.Goals as goal

pub loop-k-preserved : goal.loop-k-preserved
loop-k-preserved c = let given = c.requires in
    let loop = c.loop-k in
    let state = entry_state given.ready loop.invariant.2.grown.rest loop.k _ (omega arith) c.in-Some.ensures.0 in
    (omega arith, c.take-high.auto.table ∙ loop.invariant.1, with_listed _ _ _ _ _ _ _ _ _ _ _ _ given.ready.before (omega arith) state c.in-Some.ensures.0 (omega (arith, c.figure.ensures.0)) loop.invariant.2 c.take-high.ensures.0, topped_then _ _ _ _ _ _ _ _ loop.invariant.3 c.take-high.ensures.1)
