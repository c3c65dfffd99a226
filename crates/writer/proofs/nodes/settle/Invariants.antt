use Rattle.writer.proofs.Prelude.{◌≡◌, ◌≤◌, size_job, under, Inside, chosen_at, plan_at, half_of}
use Rattle.writer.proofs.nodes.settle.Given as goal

abbrev pub invariant-loop-sawing : goal.invariant-loop-sawing
invariant-loop-sawing l = (plan_at (under l.blocks l.d) l.sawing.kerf l.size l.pieces l.initial.at ≡ plan_at (under l.blocks l.d) l.sawing.kerf l.size l.pieces l.at) × (l.chosen ≡ chosen_at (under l.blocks l.d) l.size l.pieces l.at) × Inside (size_job l.size l.pieces) l.size l.at × (half_of l.at ≤ half_of l.initial.at)

abbrev pub decreases-loop-sawing : goal.decreases-loop-sawing
decreases-loop-sawing l = half_of l.at
