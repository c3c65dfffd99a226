-- `states::words::flagged` meets its contract.
use Rattle.states.proofs.Prelude.{arith, note_in}
use Rattle.std.proofs.lemmas.Bool.{leb-true, leb-false}
use Rattle.states.proofs.words.flagged.Goals as goal

pub returns : goal.returns
unfolding note_in
returns c = (λ e. (let l = leb-true 2199023255552 c.args.w e in omega arith), λ e. (let l = leb-false 2199023255552 c.args.w e in omega arith))
