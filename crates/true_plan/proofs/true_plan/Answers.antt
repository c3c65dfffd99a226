-- `true_plan::true_plan` meets its contract: the job is read first, then its true sizes; the rest is the true plan of the arrays.
use Rattle.true_plan.proofs.Prelude.{refl}
use Rattle.true_plan.proofs.Plans.{job_stops, sizes_stop, count_most, in_ranges, goes_on}
use Rattle.true_plan.proofs.true_plan.Goals as goal

pub returns-in_err-job : goal.returns-in_err-job
returns-in_err-job c = let a = c.args in job_stops a.block.now a.choices a.sizes.now a.kinds.now a.operands.now a.true_kinds.now a.positions.now a.true_kinds.now a.positions.now _ c.read_job.ensures.answers c.in_err-job.was c.from_residual.ensures.1 refl refl

pub read_sizes-requires : goal.read_sizes-requires
read_sizes-requires c = let a = c.args in count_most a.block.now a.choices a.sizes.now a.kinds.now a.operands.now a.true_kinds.now a.positions.now a.true_kinds.now a.positions.now c.read_job.ensures.answers c.in_ok-job.was

pub returns-in_err-true_sizes : goal.returns-in_err-true_sizes
returns-in_err-true_sizes c = let a = c.args in sizes_stop a.block.now a.choices a.sizes.now a.kinds.now a.operands.now a.true_kinds.now a.positions.now a.true_kinds.now a.positions.now c.read_job.ensures.answers c.in_ok-job.was c.read_sizes.ensures _ c.in_err-true_sizes.was c.from_residual-in_err-true_sizes.ensures.1 refl refl

pub true_nodes-requires : goal.true_nodes-requires
true_nodes-requires c = let a = c.args in in_ranges a.block.now a.choices a.sizes.now a.kinds.now a.operands.now a.true_kinds.now a.positions.now a.true_kinds.now a.positions.now c.read_job.ensures.answers c.in_ok-job.was c.read_sizes.ensures c.in_ok-true_sizes.was

pub returns : goal.returns
returns c = let a = c.args in goes_on a.block.now a.choices a.sizes.now a.kinds.now a.operands.now a.true_kinds.now a.positions.now _ _ c.read_job.ensures.answers c.in_ok-job.was c.read_sizes.ensures c.in_ok-true_sizes.was c.true_nodes.ensures
