-- `planner_c::short::planner_exact` meets its contract: stopped, or the exact call's outcome.
use Rattle.planner_c.proofs.Prelude.{sym, ◌∙◌}
use Rattle.planner_c.proofs.Rule.{met}
use Rattle.planner_c.proofs.short.planner_exact.Goals as goal

pub returns : goal.returns
returns c = let a = c.args in
    met 5 a.choices a.answer.now (sym c.start.ensures ∙ c.in-Ok.is) _ c.exact-a.ensures c.put_answer.ensures
