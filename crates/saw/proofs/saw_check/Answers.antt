-- `saw::saw_check` meets its contract: the block is read first; the rest is the check of the plan's nodes, without the profit.
use Rattle.saw.proofs.Prelude.{sym, ◌∙◌, ap, handed, saw_of, Ok}
use Rattle.saw.proofs.Calls.{read_range, read_on, read_stops, check_met}
use Rattle.saw.proofs.saw_check.Goals as goal

pub returns-in_err-job : goal.returns-in_err-job
returns-in_err-job c = let a = c.args in
    let m = check_met a.block.now a.choices a.kinds.now a.operands.now (read_stops a.block.now a.choices a.kinds.now a.operands.now c.read_saw_job.ensures.answers c.in_err-job.was (handed _ c.from_residual.ensures.1)) in
    record { answers = m.0; outcome = m.1.0; trees = m.1.1.0; blind = m.1.1.1.0; office = m.1.1.1.1 }

pub check_nodes-requires : goal.check_nodes-requires
check_nodes-requires c = read_range c.args.block.now c.args.choices c.read_saw_job.ensures.answers c.in_ok-job.was

pub returns-in_err-report : goal.returns-in_err-report
returns-in_err-report c = let a = c.args in
    let m = check_met a.block.now a.choices a.kinds.now a.operands.now
    (handed _ c.from_residual-in_err-report.ensures.1 ∙ sym (ap saw_of c.in_err-report.was) ∙ read_on a.block.now a.choices a.kinds.now a.operands.now c.read_saw_job.ensures.answers c.in_ok-job.was c.check_nodes.ensures) in
    record { answers = m.0; outcome = m.1.0; trees = m.1.1.0; blind = m.1.1.1.0; office = m.1.1.1.1 }

pub returns : goal.returns
returns c = let a = c.args in
    let m = check_met a.block.now a.choices a.kinds.now a.operands.now
    (ap Ok c.without_profit.ensures ∙ sym (ap saw_of c.in_ok-report.was) ∙ read_on a.block.now a.choices a.kinds.now a.operands.now c.read_saw_job.ensures.answers c.in_ok-job.was c.check_nodes.ensures) in
    record { answers = m.0; outcome = m.1.0; trees = m.1.1.0; blind = m.1.1.1.0; office = m.1.1.1.1 }
