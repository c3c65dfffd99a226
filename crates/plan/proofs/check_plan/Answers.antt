-- `plan::check_plan` meets its contract: the job is read first; the rest is the check of its arrays.
use Rattle.plan.proofs.Prelude.{◌∙◌, plan_answer}
use Rattle.plan.proofs.Calls.{read_range, read_on, read_stops, arrays_met}
use Rattle.plan.proofs.check_plan.Goals as goal

pub returns-in_err-job : goal.returns-in_err-job
returns-in_err-job c = let a = c.args in
    let m = arrays_met a.block.now a.choices a.kinds.now a.operands.now (read_stops a.block.now a.choices c.read_job.ensures.answers c.in_err-job.was _ _ c.from_residual.ensures.1) in
    record { answers = m.0; outcome = m.1.0; trees = m.1.1 }

pub check_nodes-requires : goal.check_nodes-requires
check_nodes-requires c = let a = c.args in read_range a.block.now a.choices c.read_job.ensures.answers c.in_ok-job.was

pub returns : goal.returns
returns c = let a = c.args in
    let m = arrays_met a.block.now a.choices a.kinds.now a.operands.now
    (c.check_nodes.ensures ∙ read_on a.block.now a.choices c.read_job.ensures.answers c.in_ok-job.was (λ J. plan_answer J a.kinds.now a.operands.now)) in
    record { answers = m.0; outcome = m.1.0; trees = m.1.1 }
