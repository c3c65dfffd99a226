-- `job::read_record` meets its contract: the record without prices, then the prices.
use Rattle.job.proofs.Prelude.{record_of}
use Rattle.job.proofs.read_record.Goals as goal

pub returns : goal.returns
unfolding record_of
returns c = simp (c.read_prices.ensures, c.read_unpriced.ensures, c.read_u16-n.ensures, c.sizes_end-h.ensures.0)
