-- `staged_certificate::certify_staged` meets its contract: job and weights are accepted, then the limit and the plan are checked, then the
-- staged bound is found.
use Rattle.staged_certificate.proofs.Prelude.{refl, taken, limited, limit_passed, limit_inside, range_taken, weights_there, stageable, job_staged}
use Rattle.staged_certificate.proofs.Calls.{unaccepted, limit_refused, plan_refused, storage_refused, certified, profit_most}
use Rattle.staged_certificate.proofs.certify_staged.Goals as goal

pub returns-in_err-job : goal.returns-in_err-job
returns-in_err-job c = let e = c.args in
    unaccepted e.block.now e.choices e.weights.now e.limit e.kinds.now e.operands.now _ c.accept.ensures.answers c.in_err-job.was c.from_residual.ensures.1

pub returns-in_err-refuse_if : goal.returns-in_err-refuse_if
returns-in_err-refuse_if c = let e = c.args in
    let t = taken e.block.now e.choices e.weights.now c.accept.ensures.answers c.in_ok-job.was in
    limit_refused e.block.now e.choices e.weights.now e.limit e.kinds.now e.operands.now _ t (limited e.limit c.limit_outside.ensures c.refuse_if.ensures) c.in_err-refuse_if.was c.from_residual-in_err-refuse_if.ensures.1

pub check_within-requires : goal.check_within-requires
check_within-requires c = let e = c.args in
    let l = limit_inside e.limit (limit_passed e.limit c.limit_outside.ensures c.refuse_if.ensures c.in_ok-refuse_if.was) in
    (range_taken e.block.now e.choices e.weights.now (taken e.block.now e.choices e.weights.now c.accept.ensures.answers c.in_ok-job.was), l.0, l.1)

pub returns-in_err-plan : goal.returns-in_err-plan
returns-in_err-plan c = let e = c.args in
    let t = taken e.block.now e.choices e.weights.now c.accept.ensures.answers c.in_ok-job.was in
    plan_refused e.block.now e.choices e.weights.now e.limit e.kinds.now e.operands.now _ t (limited e.limit c.limit_outside.ensures c.refuse_if.ensures) c.in_ok-refuse_if.was c.check_within.ensures
    c.in_err-plan.was c.from_residual-in_err-plan.ensures.1

pub list_pieces-count-requires : goal.list_pieces-count-requires
list_pieces-count-requires c = let e = c.args in
    let t = taken e.block.now e.choices e.weights.now c.accept.ensures.answers c.in_ok-job.was in
    (range_taken e.block.now e.choices e.weights.now t, weights_there e.block.now e.choices e.weights.now t, refl)

pub plate_of-requires : goal.plate_of-requires
plate_of-requires c = let e = c.args in range_taken e.block.now e.choices e.weights.now (taken e.block.now e.choices e.weights.now c.accept.ensures.answers c.in_ok-job.was)

pub bound_of_pieces-requires : goal.bound_of_pieces-requires
bound_of_pieces-requires c = let e = c.args in
    let t = taken e.block.now e.choices e.weights.now c.accept.ensures.answers c.in_ok-job.was in
    (stageable e.block.now e.choices e.weights.now t e.limit (limit_passed e.limit c.limit_outside.ensures c.refuse_if.ensures c.in_ok-refuse_if.was) c.plate_of.ensures c.list_pieces-count.ensures, refl)

pub returns-in_err-most : goal.returns-in_err-most
returns-in_err-most c = let e = c.args in
    let t = taken e.block.now e.choices e.weights.now c.accept.ensures.answers c.in_ok-job.was in
    storage_refused e.block.now e.choices e.weights.now e.limit e.kinds.now e.operands.now _ t (limited e.limit c.limit_outside.ensures c.refuse_if.ensures) c.in_ok-refuse_if.was c.check_within.ensures c.in_ok-plan.was
    (job_staged e.block.now e.choices e.weights.now t e.limit c.plate_of.ensures c.list_pieces-count.ensures c.bound_of_pieces.ensures) c.in_err-most.was c.from_residual-in_err-most.ensures.1

pub compare-requires : goal.compare-requires
compare-requires c = let e = c.args in
    let t = taken e.block.now e.choices e.weights.now c.accept.ensures.answers c.in_ok-job.was in
    profit_most e.block.now e.choices e.weights.now e.limit e.kinds.now e.operands.now _ t (limited e.limit c.limit_outside.ensures c.refuse_if.ensures) c.in_ok-refuse_if.was c.check_within.ensures c.in_ok-plan.was
    (job_staged e.block.now e.choices e.weights.now t e.limit c.plate_of.ensures c.list_pieces-count.ensures c.bound_of_pieces.ensures) c.in_ok-most.was

pub returns : goal.returns
returns c = let e = c.args in
    let t = taken e.block.now e.choices e.weights.now c.accept.ensures.answers c.in_ok-job.was in
    certified e.block.now e.choices e.weights.now e.limit e.kinds.now e.operands.now _ t (limited e.limit c.limit_outside.ensures c.refuse_if.ensures) c.in_ok-refuse_if.was c.check_within.ensures c.in_ok-plan.was
    (job_staged e.block.now e.choices e.weights.now t e.limit c.plate_of.ensures c.list_pieces-count.ensures c.bound_of_pieces.ensures) c.in_ok-most.was c.compare.ensures
