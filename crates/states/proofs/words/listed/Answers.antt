-- `states::words::listed` meets its contract: a word is below 2^64.
use Rattle.states.proofs.Prelude.{arith, note_in}
use Rattle.states.proofs.words.listed.Goals as goal

pub returns-then-w-lt-FLAG : goal.returns-then-w-lt-FLAG
unfolding note_in
returns-then-w-lt-FLAG c = omega arith

pub returns : goal.returns
unfolding note_in
returns c = (omega arith, omega arith)
