-- `job::read_job` meets its contract.
use Rattle.job.proofs.Prelude.{refl, sym, ◌∙◌}
use Rattle.job.proofs.Read.{job_passed, header_holds}
use Rattle.job.proofs.Kerf.{kerf_none_read}
use Rattle.job.proofs.read_job.Goals as goal

pub returns-in_err-check_job-clause-alike : goal.returns-in_err-check_job-clause-alike
returns-in_err-check_job-clause-alike c = kerf_none_read c.args.block.now c.args.choices

pub read_record-requires : goal.read_record-requires
read_record-requires c = header_holds c.args.choices c.args.block.now _ refl (job_passed c.args.block.now c.args.choices (sym c.check_job.ensures ∙ c.in_ok-check_job.was)).0

pub returns-clause-alike : goal.returns-clause-alike
returns-clause-alike c = kerf_none_read c.args.block.now c.args.choices
