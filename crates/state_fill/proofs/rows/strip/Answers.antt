-- `state_fill::rows::strip` meets its contract.
use Rattle.state_fill.proofs.Prelude.{arith}
use Rattle.state_fill.proofs.Filling.{strip_stop}
use Rattle.state_fill.proofs.rows.strip.Goals as goal

pub returns-then-not-flagged : goal.returns-then-not-flagged
returns-then-not-flagged c = strip_stop _ _ _ _ _ (omega arith) c.requires.1 (c.flagged.ensures.1 c.if-not-flagged.true) c.loop-k.invariant.2
