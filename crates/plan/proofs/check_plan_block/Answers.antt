-- `plan::check_plan_block` meets its contract: the job is read first; the rest is the check of the block.
use Rattle.plan.proofs.Prelude.{◌∙◌, plan_block_answer}
use Rattle.plan.proofs.Calls.{read_range, read_on, read_stops, block_met}
use Rattle.plan.proofs.check_plan_block.Goals as goal

pub returns-in_err-job : goal.returns-in_err-job
returns-in_err-job c = let a = c.args in
    let m = block_met a.block.now a.choices a.plan.now (read_stops a.block.now a.choices c.read_job.ensures.answers c.in_err-job.was _ _ c.from_residual.ensures.1) in
    record { answers = m.0; outcome = m.1.0; trees = m.1.1 }

pub check_block-requires : goal.check_block-requires
check_block-requires c = let a = c.args in read_range a.block.now a.choices c.read_job.ensures.answers c.in_ok-job.was

pub returns : goal.returns
returns c = let a = c.args in
    let m = block_met a.block.now a.choices a.plan.now
    (c.check_block.ensures ∙ read_on a.block.now a.choices c.read_job.ensures.answers c.in_ok-job.was (λ J. plan_block_answer J a.plan.now)) in
    record { answers = m.0; outcome = m.1.0; trees = m.1.1 }
