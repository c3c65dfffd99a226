-- `stages::along` meets its contract: each turn of the loop passes one node that keeps the direction.
use Rattle.stages.proofs.Prelude.{refl, passed_least}
use Rattle.refusal.proofs.Results.{handed}
use Rattle.stages.proofs.Steps.{passes, along_ends, along_lacks, along_refused, along_changes}
use Rattle.stages.proofs.along.Goals as goal

pub returns-in_err-refuse_if : goal.returns-in_err-refuse_if
returns-in_err-refuse_if c = along_refused _ c.loop-s.invariant c.cut_kind-own.ensures c.loop-s-test.true _ c.if-s-kinds.true refl c.if-kind-own.true c.refuse_if.ensures c.in_err-refuse_if.was (handed _ c.from_residual.ensures.1)

pub returns-then-kind-own : goal.returns-then-kind-own
returns-then-kind-own c = along_changes _ c.loop-s.invariant c.cut_kind-own.ensures c.loop-s-test.true _ c.if-s-kinds.true refl c.if-kind-own.true (passed_least _ _ _ c.refuse_if.ensures c.in_ok-refuse_if.was)

pub loop-s-preserved : goal.loop-s-preserved
loop-s-preserved c = rw c.pass-s.ensures (passes c.loop-s.invariant c.loop-s-test.true _ c.if-s-kinds.true refl c.if-kind-own.false c.requires.3)

pub returns-else-s-kinds : goal.returns-else-s-kinds
returns-else-s-kinds c = along_lacks _ c.loop-s.invariant c.cut_kind-own.ensures c.loop-s-test.true c.if-s-kinds.false

pub returns-after-loop-s : goal.returns-after-loop-s
returns-after-loop-s c = along_ends _ c.loop-s.invariant c.cut_kind-own.ensures c.loop-s-test.false
