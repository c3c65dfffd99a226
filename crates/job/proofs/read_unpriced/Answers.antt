-- `job::read_unpriced` meets its contract.
use Rattle.job.proofs.Prelude.{record_of}
use Rattle.job.proofs.Entries.{entries_none}
use Rattle.job.proofs.read_unpriced.Goals as goal

pub returns : goal.returns
unfolding record_of
returns c = simp (entries_none (λ i. 0), c.read_grains-grains.ensures, c.read_fields-demands.ensures, c.read_fields-widths.ensures, c.read_fields-lengths.ensures, c.read_kerf-kerf.ensures, c.read_u16-n.ensures, c.read_u16-width.ensures, c.read_u16-length.ensures, c.sizes_end-h.ensures.0)
