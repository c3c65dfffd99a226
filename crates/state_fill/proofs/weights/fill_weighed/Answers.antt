-- `state_fill::weights::fill_weighed` meets its contract: one digit, whose states are the shares.
use Rattle.state_fill.proofs.Prelude.{listed_weight, size_job, figures_one}
use Rattle.state_fill.proofs.weights.fill_weighed.Goals as goal

pub returns : goal.returns
returns c = let start = c.args in
    let filled = c.fill_states in
    figures_one (size_job start.size start.pieces.now) (listed_weight start.pieces.now) start.table.now filled.new.table start.size.capacity filled.ensures
