-- `job::check_grains` meets its contract.
use Rattle.job.proofs.Prelude.{sym, ap, first_refusal, grain_checks}
use Rattle.job.proofs.check_grains.Goals as goal

pub returns-else-grain : goal.returns-else-grain
unfolding first_refusal
returns-else-grain c = let a = c.args in sym (ap (λ b. first_refusal (grain_checks b a.h a.block.now)) c.if-grain.false)
