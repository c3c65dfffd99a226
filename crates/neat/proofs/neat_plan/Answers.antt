-- `neat::neat_plan` meets its contract: the job is read first; the rest is the neat plan of its arrays.
use Rattle.neat.proofs.Prelude.{read_range, refl}
use Rattle.neat.proofs.Plans.{read_on, read_stops}
use Rattle.neat.proofs.neat_plan.Goals as goal

pub returns-in_err-job : goal.returns-in_err-job
returns-in_err-job c = let a = c.args in
    read_stops a.block.now a.choices a.kinds.now a.operands.now a.neat_kinds.now a.neat_operands.now _ _ _ c.read_job.ensures.answers c.in_err-job.was c.from_residual.ensures.1 refl refl

pub neat_nodes-requires : goal.neat_nodes-requires
neat_nodes-requires c = let a = c.args in read_range a.block.now a.choices c.read_job.ensures.answers c.in_ok-job.was

pub returns : goal.returns
returns c = let a = c.args in
    read_on a.block.now a.choices a.kinds.now a.operands.now a.neat_kinds.now a.neat_operands.now _ _ c.read_job.ensures.answers c.in_ok-job.was c.neat_nodes.ensures
