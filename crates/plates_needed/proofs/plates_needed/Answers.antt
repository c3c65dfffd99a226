-- `plates_needed::plates_needed` meets its contract: job and weights are accepted, and the plates of the record are the job's.
use Rattle.job.proofs.Taken.{taken}
use Rattle.bound.specs.Bound.{lent}
use Rattle.plates_needed.proofs.Calls.{early, countable, prices_there, accepted}
use Rattle.plates_needed.proofs.plates_needed.Goals as goal

pub returns-in_err-job : goal.returns-in_err-job
returns-in_err-job c = let e = c.args in
    early e.block.now e.choices e.weights.now e.other (lent e.lengths.now e.widths.now e.table.now) c.accept.ensures.answers c.in_err-job.was c.from_residual.ensures.1

pub plates_of_record-requires : goal.plates_of_record-requires
plates_of_record-requires c = let e = c.args in
    let m = lent e.lengths.now e.widths.now e.table.now in
    let t = taken e.block.now e.choices e.weights.now c.accept.ensures.answers c.in_ok-job.was in
    (countable e.block.now e.choices e.weights.now e.other m t, prices_there e.block.now e.choices e.weights.now e.other m t)

pub returns : goal.returns
returns c = let e = c.args in
    let t = taken e.block.now e.choices e.weights.now c.accept.ensures.answers c.in_ok-job.was in
    accepted e.block.now e.choices e.weights.now e.other _ t _ c.plates_of_record.ensures
