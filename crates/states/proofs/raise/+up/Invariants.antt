-- The measure is the last digit. The loop's invariant: the blocks of the last digit before x are raised, the others as they were.
use Rattle.states.proofs.Prelude.{◌≡◌, ◌-◌, length}
use Rattle.states.proofs.Lifting.{Blockwise}
use Rattle.states.proofs.raise.+up.Given as goal

abbrev pub decreases-up : goal.decreases-up
decreases-up l = l.d

abbrev pub invariant-loop-x : goal.invariant-loop-x
invariant-loop-x l = (length l.table ≡ length l.initial.table) × Blockwise l.blocks l.d l.at l.t l.v l.x l.initial.table l.table

abbrev pub decreases-loop-x : goal.decreases-loop-x
decreases-loop-x l = l.end - l.x
