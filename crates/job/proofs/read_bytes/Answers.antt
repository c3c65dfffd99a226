-- `job::read_bytes` meets its contract.
use Rattle.job.proofs.Prelude.{refl, ◌+◌, arith, get_or}
use Rattle.job.proofs.Entries.{entries_none, entries_more}
use Rattle.job.proofs.read_bytes.Goals as goal

pub loop-i-init : goal.loop-i-init
loop-i-init c = entries_none (λ k. get_or c.args.block.now (c.args.from + k) 0)

pub loop-i-preserved : goal.loop-i-preserved
loop-i-preserved c = entries_more (λ k. get_or c.args.block.now (c.args.from + k) 0) c.loop-i.i c.loop-i.bytes _ (omega (arith, c.requires.0)) refl c.loop-i.invariant
