-- `planner_c::staged::planner_check_plan_staged` meets its contract: stopped, or the staged check's outcome.
use Rattle.planner_c.proofs.Prelude.{sym, ◌∙◌}
use Rattle.planner_c.proofs.Rule.{met}
use Rattle.planner_c.proofs.staged.planner_check_plan_staged.Goals as goal

pub returns : goal.returns
returns c = let a = c.args in
    met 70 a.choices a.answer.now (sym c.start.ensures ∙ c.in-Ok.is) _ c.check_plan_staged-a.ensures c.put_answer.ensures
