-- `states::raise::run` meets its contract.
use Rattle.states.proofs.Prelude.{arith}
use Rattle.states.proofs.Lifting.{word_stop}
use Rattle.states.proofs.raise.run.Goals as goal

pub returns-then-v-figure : goal.returns-then-v-figure
returns-then-v-figure c = word_stop _ _ _ _ _ _ _ c.requires.1 (omega arith) (omega (arith, c.figure.ensures.0)) c.loop-j.invariant.2
