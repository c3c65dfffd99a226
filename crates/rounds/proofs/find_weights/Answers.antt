-- `rounds::find_weights` meets its contract.
use Rattle.rounds.proofs.Prelude.{sym, ◌∙◌, read_in_range, answered, refused}
use Rattle.rounds.proofs.Calls.{low, low_is, job_refused, plan_refused, ran}
use Rattle.rounds.proofs.find_weights.Goals as goal

pub returns-in_err-job : goal.returns-in_err-job
returns-in_err-job c = let x = c.args in job_refused x.block.now x.choices x.kinds.now x.operands.now _ (refused x.block.now x.choices c.read_job.ensures.answers c.in_err-job.was) c.from_residual.ensures.1

pub check_nodes-requires : goal.check_nodes-requires
check_nodes-requires c = let x = c.args in
    let a = answered x.block.now x.choices c.read_job.ensures.answers c.in_ok-job.was in
    rw a.1 (read_in_range x.block.now x.choices a.0)

pub returns-in_err-report : goal.returns-in_err-report
returns-in_err-report c = let x = c.args in
    let a = answered x.block.now x.choices c.read_job.ensures.answers c.in_ok-job.was in
    let p = rw a.1 at c.check_nodes.ensures in
    plan_refused x.block.now x.choices x.kinds.now x.operands.now _ a.0 (sym p ∙ c.in_err-report.was) c.from_residual-in_err-report.ensures.1

pub run_rounds-requires : goal.run_rounds-requires
run_rounds-requires c = let x = c.args in
    let a = answered x.block.now x.choices c.read_job.ensures.answers c.in_ok-job.was in
    let p = rw a.1 at c.check_nodes.ensures in
    let q = sym p ∙ c.in_ok-report.was in
    (a.1, a.0, rw (low_is x.block.now x.choices x.kinds.now x.operands.now a.0 q) (low x.block.now x.choices x.kinds.now x.operands.now a.0 q))

pub returns : goal.returns
returns c = let x = c.args in
    let a = answered x.block.now x.choices c.read_job.ensures.answers c.in_ok-job.was in
    let p = rw a.1 at c.check_nodes.ensures in
    let r = c.run_rounds in
    ran x.block.now x.choices x.kinds.now x.operands.now _ a.0 (sym p ∙ c.in_ok-report.was) r.ensures.answers r.ensures.memory
