-- `stages::length_stage` and `stages::width_stage` meet their contracts; what is left is where the parts of a cut pass the limit.
use Rattle.stages.proofs.Prelude.{Length, Width}
use Rattle.refusal.proofs.Results.{handed}
use Rattle.stages.proofs.Steps.{parts_refused}
use Rattle.stages.proofs.+length_stage_width_stage.Goals as goal

pub length_stage-returns-in_err-parts-in-Change : goal.length_stage-returns-in_err-parts-in-Change
length_stage-returns-in_err-parts-in-Change t c = parts_refused Length c.loop-step.invariant c.in-Change.is c.width_stage.ensures c.in_err-parts-in-Change.was (handed _ c.from_residual-in_err-parts-in-Change.ensures.1)

pub width_stage-returns-in_err-parts-in-Change : goal.width_stage-returns-in_err-parts-in-Change
width_stage-returns-in_err-parts-in-Change t c = parts_refused Width c.loop-step.invariant c.in-Change.is c.length_stage.ensures c.in_err-parts-in-Change.was (handed _ c.from_residual-in_err-parts-in-Change.ensures.1)
