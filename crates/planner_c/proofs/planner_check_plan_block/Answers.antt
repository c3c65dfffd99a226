-- `planner_c::planner_check_plan_block` meets its contract: stopped, or the block check's outcome.
use Rattle.planner_c.proofs.Prelude.{sym, ◌∙◌}
use Rattle.planner_c.proofs.Rule.{met}
use Rattle.planner_c.proofs.planner_check_plan_block.Goals as goal

pub returns : goal.returns
returns c = let a = c.args in
    met 69 a.choices a.answer.now (sym c.start.ensures ∙ c.in-Ok.is) _ c.check_plan_block-a.ensures c.put_answer.ensures
