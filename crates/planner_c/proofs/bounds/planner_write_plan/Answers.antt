-- `planner_c::bounds::planner_write_plan` meets its contract: stopped, or the writing call's outcome.
use Rattle.planner_c.proofs.Prelude.{sym, ◌∙◌}
use Rattle.planner_c.proofs.Rule.{met}
use Rattle.planner_c.proofs.bounds.planner_write_plan.Goals as goal

pub returns : goal.returns
returns c = let a = c.args in
    met 5 a.choices a.answer.now (sym c.start.ensures ∙ c.in-Ok.is) _ c.write_plan-a.ensures c.put_answer.ensures
