-- Kerf 0 in the new block is read as the old block, in the words of the promises.
use Rattle.planner.proofs.Prelude.{List, ℕ, Choices, kerf_none_read, order_checks, saw_checks, KerfNoneRead}

pub alike_new : (s : List ℕ) (choices : Choices) → KerfNoneRead s choices
unfolding order_checks saw_checks
alike_new s choices z old kerf = (let a = kerf_none_read s choices z old kerf in record { checks = a.checks; plateless = a.plateless; unpriced = a.unpriced; record_is = a.record_is })
