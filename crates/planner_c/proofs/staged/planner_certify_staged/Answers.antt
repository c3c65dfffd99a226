-- `planner_c::staged::planner_certify_staged` meets its contract: stopped, or the staged certificate's outcome.
use Rattle.planner_c.proofs.Prelude.{sym, ◌∙◌, arith}
use Rattle.planner_c.proofs.Rule.{enough, met}
use Rattle.planner_c.proofs.Certified.{gap_within}
use Rattle.planner_c.proofs.staged.planner_certify_staged.Goals as goal

pub returns : goal.returns
returns c = let a = c.args in
    met 3 a.choices a.answer.now (sym c.start.ensures ∙ c.in-Ok.is) _ c.certify_staged-a.ensures c.put_answer.ensures

pub put_answer-requires : goal.put_answer-requires
put_answer-requires c = let n = enough 3 c.args.choices c.args.answer.now (sym c.start.ensures ∙ c.in-Ok.is) in
    (omega (arith, n), n, λ x e. gap_within c.certify_staged-a.ensures e)
