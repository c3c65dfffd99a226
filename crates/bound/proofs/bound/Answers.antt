-- `bound::bound` meets its contract: job and weights are accepted, and the bound of the record is the job's.
use Rattle.bound.proofs.Prelude.{taken}
use Rattle.bound.proofs.Calls.{record_ready, block_bounded, early, accepted}
use Rattle.bound.proofs.bound.Goals as goal

pub returns-in_err-job : goal.returns-in_err-job
returns-in_err-job c = let e = c.args in
    early e.block.now e.choices e.weights.now _ c.accept.ensures.answers c.in_err-job.was c.from_residual.ensures.1

pub bound_of_record-requires : goal.bound_of_record-requires
bound_of_record-requires c = let e = c.args in
    record_ready e.block.now e.choices e.weights.now (taken e.block.now e.choices e.weights.now c.accept.ensures.answers c.in_ok-job.was)

pub returns : goal.returns
returns c = let e = c.args in
    let t = taken e.block.now e.choices e.weights.now c.accept.ensures.answers c.in_ok-job.was in
    accepted e.block.now e.choices e.weights.now _ t.accepted _ (block_bounded e.block.now e.choices e.weights.now t c.bound_of_record.ensures.1)
