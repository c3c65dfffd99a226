-- `states::sums::first_row` meets its contract.
use Rattle.states.proofs.Carries.{first_row_of}
use Rattle.states.proofs.sums.first_row.Goals as goal

pub returns : goal.returns
returns c = let given = c.requires in
    let summed = c.put_sums.ensures in
    first_row_of given.1 c.set_run.ensures summed.0 summed.1
