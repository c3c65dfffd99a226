-- `chains::passes` meets its contract.
use Rattle.std.proofs.Common.{rules}
use Rattle.chains.proofs.Table.{repeated_start, repeated_more, repeated_steps, settled_more}
use Rattle.chains.proofs.passes.Goals as goal

pub loop-c-init : goal.loop-c-init
loop-c-init c = (search rules, repeated_start _ _ _ _ _)

pub pass-requires : goal.pass-requires
pass-requires c = repeated_steps _ _ _ _ _ _ _ c.requires c.loop-c.invariant.1

pub returns-then-pass : goal.returns-then-pass
returns-then-pass c = let turn = c.loop-c in
    let passed = c.pass.ensures in
    settled_more _ _ _ _ _ turn.c _ _ _ turn.invariant.0 turn.invariant.1 passed.0 (passed.1 c.if-pass.true)

pub loop-c-preserved : goal.loop-c-preserved
loop-c-preserved c = let turn = c.loop-c in
    (search rules, repeated_more _ _ _ _ _ _ _ _ turn.invariant.1 c.pass.ensures.0)
