-- `model::check_chains` meets its contract: the length is tried first.
use Rattle.refusal.proofs.Results.{as_check}
use Rattle.model.proofs.Prelude.{◌∙◌, ap, refuse_when, NoModel, check_stops, check_passes, check_last, model_checks}
use Rattle.model.proofs.check_chains.Goals as goal

pub returns-in_err-refuse_if : goal.returns-in_err-refuse_if
unfolding model_checks
returns-in_err-refuse_if c = as_check _ c.in_err-refuse_if.was c.from_residual.ensures.1
    ∙ check_stops _ _ _ (c.refuse_if.ensures ∙ ap (λ t. refuse_when t (NoModel 0)) c.chains_exceed.ensures) c.in_err-refuse_if.was

pub returns : goal.returns
unfolding model_checks
returns c = check_last _ _ (c.refuse_if-2.ensures ∙ ap (λ t. refuse_when t (NoModel 1)) c.chains_exceed-2.ensures)
    ∙ check_passes _ _ _ (c.refuse_if.ensures ∙ ap (λ t. refuse_when t (NoModel 0)) c.chains_exceed.ensures) c.in_ok-refuse_if.was
