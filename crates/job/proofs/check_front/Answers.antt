-- `job::check_front` meets its contract: the checks run 1, 2 where the plate is read, then 3, 27 and 4.
use Rattle.refusal.proofs.Results.{as_check}
use Rattle.job.proofs.Prelude.{◌∙◌, ap, refuse_when, PlateSide}
use Rattle.job.proofs.Checks.{check_stops, check_passes}
use Rattle.job.proofs.Read.{front_stops}
use Rattle.job.proofs.check_front.Goals as goal
use Rattle.job.proofs.check_front.Goals.{then-plate+in_ok-refuse_if, else-plate}

pub returns-in_err-check_short : goal.returns-in_err-check_short
returns-in_err-check_short c = as_check _ c.in_err-check_short.was c.from_residual.ensures.1
    ∙ front_stops c.args.choices c.args.block.now c.args.plate c.check_short.ensures c.in_err-check_short.was

pub returns-in_err-refuse_if : goal.returns-in_err-refuse_if
returns-in_err-refuse_if c = rw c.if-plate.true (as_check _ c.in_err-refuse_if.was c.from_residual-in_err-refuse_if.ensures.1
    ∙ check_stops _ _ _ (c.refuse_if.ensures ∙ ap (λ t. refuse_when t PlateSide) c.side_outside.ensures) c.in_err-refuse_if.was
    ∙ check_passes _ _ _ c.check_short.ensures c.in_ok-check_short.was)

pub returns : goal.returns
returns c = elim c.if-plate.branch [
  | then-plate+in_ok-refuse_if w ↦ rw w.if-plate.true (c.check_counts.ensures
      ∙ check_passes _ _ _ (w.refuse_if.ensures ∙ ap (λ t. refuse_when t PlateSide) w.side_outside.ensures) w.in_ok-refuse_if.was
      ∙ check_passes _ _ _ c.check_short.ensures c.in_ok-check_short.was)
  | else-plate w ↦ rw w.if-plate.false (c.check_counts.ensures ∙ check_passes _ _ _ c.check_short.ensures c.in_ok-check_short.was)
]
