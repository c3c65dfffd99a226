-- `job::check_kinds` meets its contract.
use Rattle.refusal.proofs.Results.{as_check}
use Rattle.job.proofs.Prelude.{◌∙◌}
use Rattle.job.proofs.Checks.{passes, stops, ends}
use Rattle.job.proofs.check_kinds.Goals as goal

pub returns-in_err-check : goal.returns-in_err-check
returns-in_err-check g c f h = let i = c.loop-i.i in
    as_check _ c.in_err-check.was c.from_residual.ensures.1
    ∙ stops f i c.args.n c.loop-i-test.true (c.loop-i.invariant f h) (h i c.check.result c.loop-i-test.true c.check.ensures) c.in_err-check.was

pub loop-i-preserved : goal.loop-i-preserved
loop-i-preserved g c f h = let i = c.loop-i.i in
    passes f i c.args.n c.loop-i-test.true (c.loop-i.invariant f h) (h i c.check.result c.loop-i-test.true c.check.ensures) c.in_ok-check.was

pub returns : goal.returns
returns g c f h = ends f c.loop-i.i c.args.n c.loop-i-test.false (c.loop-i.invariant f h)
