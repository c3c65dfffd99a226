-- `planner_c::bounds::planner_bound` meets its contract: stopped, or the bound call's outcome.
use Rattle.planner_c.proofs.Prelude.{sym, ◌∙◌}
use Rattle.planner_c.proofs.Rule.{met}
use Rattle.planner_c.proofs.bounds.planner_bound.Goals as goal

pub returns : goal.returns
returns c = let a = c.args in
    met 4 a.choices a.answer.now (sym c.start.ensures ∙ c.in-Ok.is) _ c.bound-a.ensures c.put_answer.ensures
