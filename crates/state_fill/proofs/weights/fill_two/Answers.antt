-- `state_fill::weights::fill_two` meets its contract: two digits, whose states are the pairs of shares.
use Rattle.state_fill.proofs.Prelude.{arith, listed_weight, size_job, two_digit, figures_two}
use Rattle.state_fill.proofs.weights.fill_two.Goals as goal

pub fill_states-requires : goal.fill_states-requires
fill_states-requires c = let given = c.requires in
    (given.fillable, two_digit _ _ given.pairs, omega (arith, given.all))

pub returns : goal.returns
returns c = let start = c.args in
    let filled = c.fill_states in
    figures_two (size_job start.size start.pieces.now) start.size.capacity start.second (listed_weight start.pieces.now) start.table.now filled.new.table filled.ensures
