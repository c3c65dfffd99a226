-- `job::accept` meets its contract.
use Rattle.job.proofs.Prelude.{sym, subst, InRange, job_of}
use Rattle.job.proofs.Read.{answered, refused, read_in_range}
use Rattle.job.proofs.Taken.{job_refused, weights_refused, taken_apart, told_refused, told_taken}
use Rattle.job.proofs.accept.Goals as goal

pub returns-in_err-job : goal.returns-in_err-job
returns-in_err-job c = let e = c.args in
    let t = told_refused e.block.now e.choices e.weights.now (job_refused e.block.now e.choices e.weights.now (refused e.block.now e.choices c.read_job.ensures.answers c.in_err-job.was)) c.from_residual.ensures.1 in
    record { answers = t.0; outcome = t.1 }

pub check_weights-requires : goal.check_weights-requires
check_weights-requires c = let e = c.args in
    let p = answered e.block.now e.choices c.read_job.ensures.answers c.in_ok-job.was in
    subst (λ j. InRange (job_of j)) (sym p.1) (read_in_range e.block.now e.choices p.0)

pub returns-in_err-capacity : goal.returns-in_err-capacity
returns-in_err-capacity c = let e = c.args in
    let p = answered e.block.now e.choices c.read_job.ensures.answers c.in_ok-job.was in
    let t = told_refused e.block.now e.choices e.weights.now (weights_refused e.block.now e.choices e.weights.now p.0 p.1 c.check_weights.ensures.answers c.in_err-capacity.was) c.from_residual-in_err-capacity.ensures.1 in
    record { answers = t.0; outcome = t.1 }

pub returns : goal.returns
returns c = let e = c.args in
    let t = told_taken e.block.now e.choices e.weights.now (taken_apart e.block.now e.choices e.weights.now c.read_job.ensures.answers c.in_ok-job.was c.check_weights.ensures.answers c.in_ok-capacity.was) in
    record { answers = t.0; outcome = t.1 }
