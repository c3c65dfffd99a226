-- `sizes::read_block` meets its contract.
use Rattle.sizes.proofs.Prelude.{sizes_of}
use Rattle.sizes.proofs.read_block.Goals as goal

pub returns : goal.returns
unfolding sizes_of
returns c = simp (c.read_u32_fields-widths.ensures, c.read_u32_fields-lengths.ensures, c.read_u32-kerf.ensures, c.read_u32-width.ensures, c.read_u32-length.ensures)
