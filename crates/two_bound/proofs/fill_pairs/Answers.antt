-- `two_bound::fill_pairs` meets its contract: both fills leave the figures of the pairs.
use Rattle.two_bound.proofs.Prelude.{sym, subst, listed_weight, figure_pair, size_job, TwoBy, figures_pairs}
use Rattle.two_bound.proofs.fill_pairs.Goals as goal

pub returns-then-second-eq0 : goal.returns-then-second-eq0
returns-then-second-eq0 c = let e = c.args in
    let filled = c.fill_table in
    let J = size_job e.size e.pieces.now in
    subst (λ s. TwoBy J (figure_pair J e.size.capacity s (listed_weight e.pieces.now)) e.size.capacity s e.table.now filled.new.table) (sym c.if-second-eq0.true)
    (figures_pairs J (listed_weight e.pieces.now) e.size.capacity e.table.now filled.new.table filled.ensures)
