-- `states::words::mark` meets its contract.
use Rattle.states.proofs.Prelude.{refl, mark_in}
use Rattle.states.proofs.words.mark.Goals as goal

pub returns : goal.returns
unfolding mark_in
returns c = refl
