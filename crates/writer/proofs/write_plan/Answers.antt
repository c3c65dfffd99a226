-- `writer::write_plan` meets its contract.
use Rattle.writer.proofs.Prelude.{taken}
use Rattle.writer.proofs.Call.{weighed, unaccepted, accepted}
use Rattle.writer.proofs.write_plan.Goals as goal

pub returns-in_err-job : goal.returns-in_err-job
returns-in_err-job c = let e = c.args in
    unaccepted e.block.now e.choices e.weights.now _ e.kinds.now e.operands.now c.accept.ensures.answers c.in_err-job.was c.from_residual.ensures.1

pub write_accepted-requires : goal.write_accepted-requires
write_accepted-requires c = let e = c.args in
    weighed e.block.now e.choices e.weights.now (taken e.block.now e.choices e.weights.now c.accept.ensures.answers c.in_ok-job.was)

pub returns : goal.returns
returns c = let e = c.args in
    let t = taken e.block.now e.choices e.weights.now c.accept.ensures.answers c.in_ok-job.was in
    accepted e.block.now e.choices e.weights.now _ e.kinds.now e.operands.now t c.write_accepted.ensures.memory c.write_accepted.ensures.plan
