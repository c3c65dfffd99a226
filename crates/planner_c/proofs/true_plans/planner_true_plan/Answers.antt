-- `planner_c::planner_true_plan` meets its contract: stopped, or the true plan's outcome.
use Rattle.planner_c.proofs.Prelude.{sym, ◌∙◌}
use Rattle.planner_c.proofs.Rule.{met}
use Rattle.planner_c.proofs.true_plans.planner_true_plan.Goals as goal

pub returns : goal.returns
returns c = let a = c.args in
    met 3 a.choices a.answer.now (sym c.start.ensures ∙ c.in-Ok.is) _ c.true_plan-a.ensures c.put_answer.ensures
