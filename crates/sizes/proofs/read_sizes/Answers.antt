-- `sizes::read_sizes` meets its contract.
use Rattle.sizes.proofs.Prelude.{sym, ◌∙◌, arith}
use Rattle.sizes.proofs.Read.{sizes_bytes}
use Rattle.sizes.proofs.read_sizes.Goals as goal

pub read_block-requires : goal.read_block-requires
read_block-requires c = (omega (arith, sizes_bytes c.args.n c.args.block.now (sym c.check_sizes.ensures ∙ c.in_ok-check_sizes.was)), c.requires)
