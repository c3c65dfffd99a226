-- `certificate::certify` meets its contract: the job's, the weights' and the plan's answers are taken apart, then the bound is found.
use Rattle.certificate.proofs.Prelude.{sym, subst, arith, InRange, job_of, answered, refused, read_in_range, job_refused, weights_refused, taken_apart, range_taken, record_ready, block_bounded}
use Rattle.certificate.proofs.Calls.{unaccepted, plan_refused, storage_refused, certified, profit_most}
use Rattle.certificate.proofs.certify.Goals as goal

pub returns-in_default : goal.returns-in_default
returns-in_default c = let e = c.args in
    unaccepted e.block.now e.choices e.weights.now e.kinds.now e.operands.now _
    (job_refused e.block.now e.choices e.weights.now (refused e.block.now e.choices c.read_job-read.ensures.answers c.unwrap_err.ensures))

pub check_weights-weighed-requires : goal.check_weights-weighed-requires
check_weights-weighed-requires c = let e = c.args in
    let p = answered e.block.now e.choices c.read_job-read.ensures.answers c.in-Ok.is in
    subst (λ j. InRange (job_of j)) (sym p.1) (read_in_range e.block.now e.choices p.0)

pub returns-in_default-weighed : goal.returns-in_default-weighed
returns-in_default-weighed c = let e = c.args in
    let p = answered e.block.now e.choices c.read_job-read.ensures.answers c.in-Ok.is in
    unaccepted e.block.now e.choices e.weights.now e.kinds.now e.operands.now _
    (weights_refused e.block.now e.choices e.weights.now p.0 p.1 c.check_weights-weighed.ensures.answers c.unwrap_err-in_default-weighed.ensures)

pub check_nodes-walked-requires : goal.check_nodes-walked-requires
check_nodes-walked-requires c = let e = c.args in
    range_taken e.block.now e.choices e.weights.now (taken_apart e.block.now e.choices e.weights.now c.read_job-read.ensures.answers c.in-Ok.is c.check_weights-weighed.ensures.answers c.in-Ok-weighed.is)

pub returns-in_default-walked : goal.returns-in_default-walked
returns-in_default-walked c = let e = c.args in
    let t = taken_apart e.block.now e.choices e.weights.now c.read_job-read.ensures.answers c.in-Ok.is c.check_weights-weighed.ensures.answers c.in-Ok-weighed.is in
    plan_refused e.block.now e.choices e.weights.now e.kinds.now e.operands.now _ t c.check_nodes-walked.ensures c.unwrap_err-in_default-walked.ensures

pub bound_of_record-requires : goal.bound_of_record-requires
bound_of_record-requires c = let e = c.args in
    record_ready e.block.now e.choices e.weights.now (taken_apart e.block.now e.choices e.weights.now c.read_job-read.ensures.answers c.in-Ok.is c.check_weights-weighed.ensures.answers c.in-Ok-weighed.is)

pub returns-in_err-most : goal.returns-in_err-most
returns-in_err-most c = let e = c.args in
    let t = taken_apart e.block.now e.choices e.weights.now c.read_job-read.ensures.answers c.in-Ok.is c.check_weights-weighed.ensures.answers c.in-Ok-weighed.is in
    storage_refused e.block.now e.choices e.weights.now e.kinds.now e.operands.now _ t c.check_nodes-walked.ensures c.in-Ok-walked.is (block_bounded e.block.now e.choices e.weights.now t c.bound_of_record.ensures.1) c.in_err-most.was c.from_residual.ensures.1

pub compare-requires : goal.compare-requires
compare-requires c = let e = c.args in
    let t = taken_apart e.block.now e.choices e.weights.now c.read_job-read.ensures.answers c.in-Ok.is c.check_weights-weighed.ensures.answers c.in-Ok-weighed.is in
    omega (arith, profit_most e.block.now e.choices e.weights.now e.kinds.now e.operands.now _ t c.check_nodes-walked.ensures c.in-Ok-walked.is (block_bounded e.block.now e.choices e.weights.now t c.bound_of_record.ensures.1) c.in_ok-most.was)

pub returns : goal.returns
returns c = let e = c.args in
    let t = taken_apart e.block.now e.choices e.weights.now c.read_job-read.ensures.answers c.in-Ok.is c.check_weights-weighed.ensures.answers c.in-Ok-weighed.is in
    certified e.block.now e.choices e.weights.now e.kinds.now e.operands.now _ t c.check_nodes-walked.ensures c.in-Ok-walked.is (block_bounded e.block.now e.choices e.weights.now t c.bound_of_record.ensures.1) c.in_ok-most.was c.compare.ensures
