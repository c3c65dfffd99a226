-- `exact::exact` meets its contract: the job is read and its states are counted first; the rest is the optimum and the plan of a short order.
use Rattle.exact.proofs.Prelude.{refl, answered, refused, read_range}
use Rattle.exact.proofs.Call.{job_refused, unaccepted, accepted, read_many, read_short, short_order, last_is}
use Rattle.exact.proofs.exact.Goals as goal

pub returns-in_err-job : goal.returns-in_err-job
returns-in_err-job c = let a = c.args in
    unaccepted a.block.now a.choices _ a.kinds.now a.operands.now
    (job_refused a.block.now a.choices (refused a.block.now a.choices c.read_job.ensures.answers c.in_err-job.was)) c.from_residual.ensures.1

pub count_states-requires : goal.count_states-requires
count_states-requires c = let a = c.args in
    (read_range a.block.now a.choices c.read_job.ensures.answers c.in_ok-job.was, refl)

pub returns-in_err-last : goal.returns-in_err-last
returns-in_err-last c = let a = c.args in
    unaccepted a.block.now a.choices _ a.kinds.now a.operands.now
    (read_many a.block.now a.choices c.read_job.ensures.answers c.in_ok-job.was c.count_states.ensures c.in_err-last.was) c.from_residual-in_err-last.ensures.1

pub exact_accepted-requires : goal.exact_accepted-requires
exact_accepted-requires c = let a = c.args in
    read_short a.block.now a.choices c.read_job.ensures.answers c.in_ok-job.was c.count_states.ensures c.in_ok-last.was

pub returns : goal.returns
returns c = let a = c.args in
    let read = c.read_job.ensures.answers in
    let counted = c.count_states.ensures in
    accepted a.block.now a.choices _ a.kinds.now a.operands.now
    (short_order a.block.now a.choices read c.in_ok-job.was counted c.in_ok-last.was) (answered a.block.now a.choices read c.in_ok-job.was).1
    (last_is a.block.now a.choices read c.in_ok-job.was counted c.in_ok-last.was) c.exact_accepted.ensures.memory c.exact_accepted.ensures.plan
