-- `plan::leave_parts` meets its contract: a cut's parts take the place of the rectangle; any other node leaves nothing.
use Rattle.plan.proofs.Prelude.{arith, length-set, rect_of}
use Rattle.plan.proofs.Walk.{cut_waits}
use Rattle.plan.proofs.leave_parts.Goals as goal

pub returns-in-Cut : goal.returns-in-Cut
returns-in-Cut c = let a = c.args in let given = c.requires in (
  cut_waits a.lengths.now a.widths.now a.n a.node _ _ a.kerf (rect_of a.room) c.first_part-first.result c.second_part-second.result
      given.some (omega (arith, given.held.0)) (omega (arith, given.held.1)) c.in-Cut.is c.first_part-first.ensures c.second_part-second.ensures,
  omega arith,
  (simp length-set given.held.0, simp length-set given.held.1),
)
