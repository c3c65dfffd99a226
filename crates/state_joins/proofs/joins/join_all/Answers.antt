-- `state_joins::joins::join_all` meets its contract.
use Rattle.state_joins.proofs.Prelude.{arith, ◌∙◌, topped_then}
use Rattle.state_joins.proofs.Joining.{entry_state, join_listed}
use Rattle.state_joins.proofs.joins.join_all.Goals as goal

pub loop-k-preserved : goal.loop-k-preserved
loop-k-preserved c = let given = c.requires in
    let loop = c.loop-k in
    let state = entry_state given.1 loop.invariant.2.grown.rest loop.k _ (omega arith) c.in-Some.ensures.0 in
    (omega arith, c.join_with-high.auto.table ∙ loop.invariant.1, join_listed _ _ _ _ _ _ _ _ _ _ _ given.1.before given.2.before (omega arith) state c.in-Some.ensures.0 c.figure-v.ensures.0 loop.invariant.2 c.join_with-high.ensures.0, topped_then _ _ _ _ _ _ _ _ loop.invariant.3 c.join_with-high.ensures.1)
