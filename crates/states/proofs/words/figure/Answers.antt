-- `states::words::figure` meets its contract.
use Rattle.states.proofs.Prelude.{arith, refl, figure_in}
use Rattle.states.proofs.words.figure.Goals as goal

pub returns : goal.returns
unfolding figure_in
returns c = (refl, omega arith)
