-- `planner_c::lagrangian::planner_bound_lagrangian` meets its contract: stopped, or the outcome of the bound by multipliers.
use Rattle.planner_c.proofs.Prelude.{sym, ◌∙◌}
use Rattle.planner_c.proofs.Rule.{met}
use Rattle.planner_c.proofs.lagrangian.planner_bound_lagrangian.Goals as goal

pub returns : goal.returns
returns c = let a = c.args in
    met 5 a.choices a.answer.now (sym c.start.ensures ∙ c.in-Ok.is) _ c.bound_lagrangian-a.ensures c.put_answer.ensures
