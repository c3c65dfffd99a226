-- `job::check_job` meets its contract.
use Rattle.job.proofs.Prelude.{job_checks}
use Rattle.job.proofs.check_job.Goals as goal

pub returns : goal.returns
unfolding job_checks
returns c = c.check_block.ensures
