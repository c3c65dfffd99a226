-- The measure of the calls is the nodes left: a walk begins, stands and is resumed.
use Rattle.std.proofs.Common.{◌-◌, length, Ok}
use Rattle.promises.specs.declared.Direction.TheVariants.{Length, Width}
use Rattle.stages.specs.Walks.{Stands, nodes_left}
use Rattle.stages.proofs.+length_stage_width_stage.Given as goal

abbrev pub decreases-length_stage : goal.decreases-length_stage
decreases-length_stage l = length l.kinds.now - l.at

abbrev pub decreases-width_stage : goal.decreases-width_stage
decreases-width_stage l = length l.kinds.now - l.at

abbrev pub invariant-length_stage-loop-step : goal.invariant-length_stage-loop-step
invariant-length_stage-loop-step l = Stands Length l.kinds l.left l.at (Ok l.step)

abbrev pub decreases-length_stage-loop-step : goal.decreases-length_stage-loop-step
decreases-length_stage-loop-step l = nodes_left l.kinds l.step

abbrev pub invariant-width_stage-loop-step : goal.invariant-width_stage-loop-step
invariant-width_stage-loop-step l = Stands Width l.kinds l.left l.at (Ok l.step)

abbrev pub decreases-width_stage-loop-step : goal.decreases-width_stage-loop-step
decreases-width_stage-loop-step l = nodes_left l.kinds l.step
