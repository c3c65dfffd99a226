-- `planner_c::planner_neat_plan` meets its contract: stopped, or the neat call's outcome.
use Rattle.planner_c.proofs.Prelude.{sym, ◌∙◌}
use Rattle.planner_c.proofs.Rule.{met}
use Rattle.planner_c.proofs.planner_neat_plan.Goals as goal

pub returns : goal.returns
returns c = let a = c.args in
    met 1 a.choices a.answer.now (sym c.start.ensures ∙ c.in-Ok.is) _ c.neat_plan-a.ensures c.put_answer.ensures
