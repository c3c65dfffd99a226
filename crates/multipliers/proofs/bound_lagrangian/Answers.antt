-- `multipliers::bound_lagrangian` meets its contract: job, weights and multipliers are accepted, and the bound of the record is the job's.
use Rattle.multipliers.proofs.Prelude.{taken, lent}
use Rattle.multipliers.proofs.Calls.{job_refused, multipliers_refused, multipliable, prices_there, accepted}
use Rattle.multipliers.proofs.bound_lagrangian.Goals as goal

pub returns-in_err-job : goal.returns-in_err-job
returns-in_err-job c = let e = c.args in
    let m = lent e.lengths.now e.widths.now e.table.now in
    job_refused e.block.now e.choices e.weights.now e.multipliers.now m c.accept.ensures.answers c.in_err-job.was c.from_residual.ensures.1

pub returns-in_err-check_multipliers : goal.returns-in_err-check_multipliers
returns-in_err-check_multipliers c = let e = c.args in
    let m = lent e.lengths.now e.widths.now e.table.now in
    let t = taken e.block.now e.choices e.weights.now c.accept.ensures.answers c.in_ok-job.was in
    multipliers_refused e.block.now e.choices e.weights.now e.multipliers.now m t c.check_multipliers.ensures c.in_err-check_multipliers.was c.from_residual-in_err-check_multipliers.ensures.1

pub lagrangian_of_record-requires : goal.lagrangian_of_record-requires
lagrangian_of_record-requires c = let e = c.args in
    let m = lent e.lengths.now e.widths.now e.table.now in
    let t = taken e.block.now e.choices e.weights.now c.accept.ensures.answers c.in_ok-job.was in
    let k = c.check_multipliers.ensures in
    (multipliable e.block.now e.choices e.weights.now e.multipliers.now m t k c.in_ok-check_multipliers.was, prices_there e.block.now e.choices e.weights.now e.multipliers.now m t k)

pub returns : goal.returns
returns c = let e = c.args in
    let t = taken e.block.now e.choices e.weights.now c.accept.ensures.answers c.in_ok-job.was in
    accepted e.block.now e.choices e.weights.now e.multipliers.now _ t c.check_multipliers.ensures c.in_ok-check_multipliers.was _ c.lagrangian_of_record.ensures
