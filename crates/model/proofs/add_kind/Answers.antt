-- `model::add_kind` meets its contract.
use Rattle.model.proofs.Tables.{added_two, added_upright, added_turned, added_none}
use Rattle.model.proofs.add_kind.Goals.{in-true-true, in-true-false, in-false-true}
use Rattle.model.proofs.add_kind.Goals as goal

pub returns-in-false-false : goal.returns-in-false-false
returns-in-false-false c = added_none _ _ _ _ c.in-false-false.is-0 c.in-false-false.is-1

pub returns : goal.returns
returns c = elim c.if-upright.branch [
  | in-true-true w ↦ added_two _ _ _ _ w.in-true-true.is-0 w.in-true-true.is-1 (rw w.ways-is at c.passes.ensures)
  | in-true-false w ↦ added_upright _ _ _ _ w.in-true-false.is-0 w.in-true-false.is-1 (rw w.ways-is at c.passes.ensures)
  | in-false-true w ↦ added_turned _ _ _ _ w.in-false-true.is-0 w.in-false-true.is-1 (rw w.ways-is at c.passes.ensures)
]
