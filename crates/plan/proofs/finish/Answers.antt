-- `plan::finish` meets its contract: 17 where a rectangle waits, and else the tree passes.
use Rattle.plan.proofs.Prelude.{◌∙◌, sym, ap, plan_report, Ok}
use Rattle.refusal.proofs.Results.{refused_answer, given_answer}
use Rattle.plan.proofs.Walk.{at_end}
use Rattle.plan.proofs.finish.Goals as goal

pub returns-in_err-refuse_if : goal.returns-in_err-refuse_if
returns-in_err-refuse_if c = let a = c.args in
    λ J lengths widths. refused_answer _ _ _ (sym c.refuse_if.ensures ∙ c.in_err-refuse_if.was) c.from_residual.ensures.1 ∙ sym (at_end J a.k lengths widths (plan_report a.t a.copies) a.n)

pub returns : goal.returns
returns c = let a = c.args in
    λ J lengths widths. given_answer _ _ (sym c.refuse_if.ensures ∙ c.in_ok-refuse_if.was) (ap Ok c.end_tree.ensures) ∙ sym (at_end J a.k lengths widths (plan_report a.t a.copies) a.n)
