-- `job::read_grains` meets its contract.
use Rattle.job.proofs.Prelude.{sym, ◌∙◌, ap, grains_of}
use Rattle.job.proofs.Entries.{entries_none}
use Rattle.job.proofs.read_grains.Goals as goal

pub returns-else-grain : goal.returns-else-grain
returns-else-grain c = let a = c.args in entries_none (λ i. 0) ∙ sym (ap (λ b. grains_of b a.h a.block.now) c.if-grain.false)
