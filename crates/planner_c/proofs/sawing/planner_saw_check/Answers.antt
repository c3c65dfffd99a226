-- `planner_c::sawing::planner_saw_check` meets its contract: stopped, or the saw's outcome.
use Rattle.planner_c.proofs.Prelude.{sym, ◌∙◌}
use Rattle.planner_c.proofs.Rule.{met}
use Rattle.planner_c.proofs.sawing.planner_saw_check.Goals as goal

pub returns : goal.returns
returns c = let a = c.args in
    met 68 a.choices a.answer.now (sym c.start.ensures ∙ c.in-Ok.is) _ c.saw_check-a.ensures c.put_answer.ensures
