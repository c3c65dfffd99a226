-- `multipliers::lagrangian_of_record` meets its contract: the bound of the lowered record, and what the multipliers come to.
use Rattle.multipliers.proofs.Prelude.{arith, job_of}
use Rattle.multipliers.proofs.Calls.{lowered_ready, answered_low}
use Rattle.multipliers.proofs.lagrangian_of_record.Goals as goal

pub bound_of_record-requires : goal.bound_of_record-requires
bound_of_record-requires c = lowered_ready (job_of c.args.job) c.args.q c.args.weights.now c.args.multipliers.now c.requires.0 c.lowered-low.ensures

pub overflow_add-result : goal.overflow_add-result
overflow_add-result c = let low = answered_low (job_of c.args.job) c.args.q c.args.weights.now c.args.multipliers.now c.lowered-low.ensures c.requires.0 c.bound_of_record.ensures c.in_ok-b.was in
    omega (arith, low, c.worth-more.ensures.1)
