-- `job::check_grain` meets its contract.
use Rattle.job.proofs.Prelude.{◌∙◌, ap, ◌+◌, ◌*◌, ltb, get_or, refuse_when, Grain}
use Rattle.job.proofs.Checks.{check_last}
use Rattle.job.proofs.check_grain.Goals as goal

pub returns : goal.returns
returns c = let a = c.args in
    check_last _ _ (c.refuse_if.ensures ∙ ap (λ n. refuse_when (ltb 1 (get_or a.block.now (a.h + 10 * n + a.i) 0)) (Grain a.i)) c.requires.0.0.0)
