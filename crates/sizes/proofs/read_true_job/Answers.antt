-- `sizes::read_true_job` meets its contract: the job block is read first.
use Rattle.sizes.proofs.Prelude.{arith}
use Rattle.sizes.proofs.Read.{counted, sizes_stop, both_pass}
use Rattle.sizes.proofs.read_true_job.Goals as goal

pub read_sizes-requires : goal.read_sizes-requires
read_sizes-requires c = omega (arith, counted c.args.block.now c.args.choices c.args.sizes.now c.read_job.ensures.answers c.in_ok-model.was)

pub returns-in_err-sizes : goal.returns-in_err-sizes
returns-in_err-sizes c = sizes_stop c.args.block.now c.args.choices c.args.sizes.now c.read_job.ensures.answers c.in_ok-model.was c.read_sizes.ensures c.in_err-sizes.was c.from_residual-in_err-sizes.ensures.1

pub returns : goal.returns
returns c = both_pass c.args.block.now c.args.choices c.args.sizes.now c.read_job.ensures.answers c.in_ok-model.was c.read_sizes.ensures c.in_ok-sizes.was
