-- `planner_c::whole_orders::planner_plates_needed` meets its contract: stopped, or the outcome of the call for whole orders.
use Rattle.planner_c.proofs.Prelude.{sym, ◌∙◌}
use Rattle.planner_c.proofs.Rule.{met}
use Rattle.planner_c.proofs.whole_orders.planner_plates_needed.Goals as goal

pub returns : goal.returns
returns c = let a = c.args in
    met 3 a.choices a.answer.now (sym c.start.ensures ∙ c.in-Ok.is) _ c.plates_needed-a.ensures c.put_answer.ensures
