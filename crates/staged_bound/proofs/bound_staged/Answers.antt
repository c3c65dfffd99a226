-- `staged_bound::bound_staged` meets its contract: the pieces of an accepted job are listed, and their staged bound is the job's.
use Rattle.staged_bound.proofs.Prelude.{refl, taken, lent, range_taken, weights_there}
use Rattle.staged_bound.proofs.Calls.{limited, limit_passed, stageable, job_staged, early, limit_refused, accepted}
use Rattle.staged_bound.proofs.bound_staged.Goals as goal

pub returns-in_err-job : goal.returns-in_err-job
returns-in_err-job c = let e = c.args in
    early e.block.now e.choices e.weights.now e.limit (lent e.lengths.now e.widths.now e.table.now) c.accept.ensures.answers c.in_err-job.was c.from_residual.ensures.1

pub returns-in_err-refuse_if : goal.returns-in_err-refuse_if
returns-in_err-refuse_if c = let e = c.args in
    let t = taken e.block.now e.choices e.weights.now c.accept.ensures.answers c.in_ok-job.was in
    limit_refused e.block.now e.choices e.weights.now e.limit (lent e.lengths.now e.widths.now e.table.now) t.accepted (limited e.limit c.limit_outside.ensures c.refuse_if.ensures)
    c.in_err-refuse_if.was c.from_residual-in_err-refuse_if.ensures.1

pub list_pieces-count-requires : goal.list_pieces-count-requires
list_pieces-count-requires c = let e = c.args in
    let t = taken e.block.now e.choices e.weights.now c.accept.ensures.answers c.in_ok-job.was in
    (range_taken e.block.now e.choices e.weights.now t, weights_there e.block.now e.choices e.weights.now t, refl)

pub plate_of-requires : goal.plate_of-requires
plate_of-requires c = let e = c.args in range_taken e.block.now e.choices e.weights.now (taken e.block.now e.choices e.weights.now c.accept.ensures.answers c.in_ok-job.was)

pub bound_of_pieces-requires : goal.bound_of_pieces-requires
bound_of_pieces-requires c = let e = c.args in
    let t = taken e.block.now e.choices e.weights.now c.accept.ensures.answers c.in_ok-job.was in
    (stageable e.block.now e.choices e.weights.now t e.limit (limit_passed e.limit c.limit_outside.ensures c.refuse_if.ensures c.in_ok-refuse_if.was) c.plate_of.ensures c.list_pieces-count.ensures, refl)

pub returns : goal.returns
returns c = let e = c.args in
    let t = taken e.block.now e.choices e.weights.now c.accept.ensures.answers c.in_ok-job.was in
    accepted e.block.now e.choices e.weights.now e.limit _ t.accepted (limited e.limit c.limit_outside.ensures c.refuse_if.ensures) c.in_ok-refuse_if.was _
    (job_staged e.block.now e.choices e.weights.now t e.limit c.plate_of.ensures c.list_pieces-count.ensures c.bound_of_pieces.ensures)
