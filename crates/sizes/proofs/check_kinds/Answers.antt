-- `sizes::check_kinds` meets its contract.
use Rattle.refusal.proofs.Results.{as_check}
use Rattle.sizes.proofs.Prelude.{◌∙◌, [], ◌∷◌, passes, stops, ends, kind_check}
use Rattle.sizes.proofs.check_kinds.Goals as goal

pub returns-in_err-check_kind : goal.returns-in_err-check_kind
returns-in_err-check_kind c = as_check _ c.in_err-check_kind.was c.from_residual.ensures.1
    ∙ stops (λ i. kind_check c.args.block.now i ∷ []) c.loop-i.i c.args.n c.loop-i-test.true c.loop-i.invariant c.check_kind.ensures c.in_err-check_kind.was

pub loop-i-preserved : goal.loop-i-preserved
loop-i-preserved c = passes (λ i. kind_check c.args.block.now i ∷ []) c.loop-i.i c.args.n c.loop-i-test.true c.loop-i.invariant c.check_kind.ensures c.in_ok-check_kind.was

pub returns : goal.returns
returns c = ends (λ i. kind_check c.args.block.now i ∷ []) c.loop-i.i c.args.n c.loop-i-test.false c.loop-i.invariant
