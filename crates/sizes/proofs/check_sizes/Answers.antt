-- `sizes::check_sizes` meets its contract: the checks run 31, then 32 of the plate, then of the kinds.
use Rattle.refusal.proofs.Results.{as_check}
use Rattle.sizes.proofs.Prelude.{◌∙◌, check_stops, check_passes, sizes_checks}
use Rattle.sizes.proofs.check_sizes.Goals as goal

pub returns-in_err-refuse_if : goal.returns-in_err-refuse_if
unfolding sizes_checks
returns-in_err-refuse_if c = as_check _ c.in_err-refuse_if.was c.from_residual.ensures.1 ∙ check_stops _ _ _ c.refuse_if.ensures c.in_err-refuse_if.was

pub returns-in_err-check_plate : goal.returns-in_err-check_plate
unfolding sizes_checks
returns-in_err-check_plate c = as_check _ c.in_err-check_plate.was c.from_residual-in_err-check_plate.ensures.1 ∙ check_stops _ _ _ c.check_plate.ensures c.in_err-check_plate.was
    ∙ check_passes _ _ _ c.refuse_if.ensures c.in_ok-refuse_if.was

pub returns : goal.returns
unfolding sizes_checks
returns c = c.check_kinds.ensures ∙ check_passes _ _ _ c.check_plate.ensures c.in_ok-check_plate.was ∙ check_passes _ _ _ c.refuse_if.ensures c.in_ok-refuse_if.was
