-- `job::read_u32_fields` meets its contract.
use Rattle.job.proofs.Prelude.{◌+◌, ◌*◌, arith, u32_at}
use Rattle.job.proofs.Entries.{entries_none, entries_more}
use Rattle.job.proofs.read_u32_fields.Goals as goal

pub loop-i-init : goal.loop-i-init
loop-i-init c = entries_none (λ k. u32_at c.args.block.now (c.args.from + c.args.step * k))

pub loop-i-preserved : goal.loop-i-preserved
loop-i-preserved c = entries_more (λ k. u32_at c.args.block.now (c.args.from + c.args.step * k)) c.loop-i.i c.loop-i.fields _ (omega (arith, c.requires.0)) c.read_u32.ensures c.loop-i.invariant
