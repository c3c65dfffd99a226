-- `plan::read_operands` meets its contract: after i turns the first i entries are the block's.
use Rattle.std.proofs.Common.{rules}
use Rattle.plan.proofs.Prelude.{◌≡◌, ◌∙◌, refl, ◌+◌, ◌*◌, arith, length-set, range, u16_at}
use Rattle.plan.proofs.Operands.{entry_more, entries_read}
use Rattle.plan.proofs.read_operands.Goals as goal

pub loop-i-init : goal.loop-i-init
unfolding range
loop-i-init c = (search rules, c.requires.3, refl)

pub loop-i-preserved : goal.loop-i-preserved
loop-i-preserved c = (search rules, length-set c.loop-i.operands c.loop-i.i c.read_u16.result ∙ c.loop-i.invariant.1, entry_more (λ k. u16_at c.args.plan.now (2 + c.args.count + 2 * k)) c.loop-i.i c.loop-i.operands c.read_u16.result (omega (arith, c.loop-i.invariant.1)) c.read_u16.ensures c.loop-i.invariant.2)

pub returns : goal.returns
returns c = let e : c.loop-i.i ≡ c.args.count = omega arith in (entries_read c.args.plan.now c.args.count c.loop-i.i c.loop-i.operands c.requires.0 e c.loop-i.invariant.2, c.loop-i.invariant.1)
