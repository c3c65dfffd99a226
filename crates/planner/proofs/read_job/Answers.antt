-- `planner::read_job` meets its contract: what the inner call promises gives the instance.
use Rattle.planner.proofs.Judged.{read_new}
use Rattle.planner.proofs.read_job.Goals as goal

pub returns : goal.returns
returns c = let a = c.args in read_new a.block.now a.choices _ c.read_job.ensures.answers
