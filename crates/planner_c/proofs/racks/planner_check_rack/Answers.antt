-- `planner_c::racks::planner_check_rack` meets its contract: stopped, slices of different lengths, or the rack's check.
use Rattle.planner_c.proofs.Prelude.{sym, ◌∙◌, RackSize, Rack, choices_of, Err}
use Rattle.planner_c.proofs.Rule.{enough, met}
use Rattle.planner_c.proofs.Slices.{given_verdict, slices_apart, slices_alike, plates_few}
use Rattle.planner_c.proofs.racks.planner_check_rack.Goals as goal

pub returns-then-profits-lengths : goal.returns-then-profits-lengths
returns-then-profits-lengths c = let a = c.args in
    let k : Rack = record { lengths = a.lengths.now; widths = a.widths.now; kinds = a.kinds.now; operands = a.operands.now } in
    met 1 a.choices a.answer.now (sym c.start.ensures ∙ c.in-Ok.is) (Err RackSize) (slices_apart a.block.now _ k a.profits.now c.if-profits-lengths.true) c.refuse.ensures

pub put_profits-requires : goal.put_profits-requires
put_profits-requires c = let a = c.args in
    let k : Rack = record { lengths = a.lengths.now; widths = a.widths.now; kinds = a.kinds.now; operands = a.operands.now } in
    (enough 1 a.choices a.answer.now (sym c.start.ensures ∙ c.in-Ok.is), λ ps e. plates_few a.block.now _ k a.profits.now c.check_plates-a.ensures c.if-profits-lengths.false e)

pub returns : goal.returns
returns c = let a = c.args in
    let k : Rack = record { lengths = a.lengths.now; widths = a.widths.now; kinds = a.kinds.now; operands = a.operands.now } in
    met 1 a.choices a.answer.now (sym c.start.ensures ∙ c.in-Ok.is) _ (slices_alike a.block.now _ k a.profits.now c.check_plates-a.ensures c.if-profits-lengths.false c.put_profits.ensures.profits) (given_verdict _ a.answer.now c.put_profits.ensures.words)
