-- `plan::check_nodes` meets its contract: the walk comes first, then check 26.
use Rattle.plan.proofs.Prelude.{◌∙◌, refl, sym, ap, arith, job_of, handed, verdict_of}
use Rattle.refusal.proofs.Results.{refused_answer, given_answer}
use Rattle.plan.proofs.Whole.{walk_stops, idle_decides}
use Rattle.plan.proofs.Plans.{walked_counts}
use Rattle.plan.proofs.check_nodes.Goals as goal

pub returns-in_err-report : goal.returns-in_err-report
returns-in_err-report c = let a = c.args in handed _ c.from_residual.ensures.1 ∙ sym (walk_stops (job_of a.job) a.kinds.now a.operands.now c.check_walk.ensures c.in_err-report.was)

pub idle_cut-requires : goal.idle_cut-requires
idle_cut-requires c = let a = c.args in
    let n = walked_counts (job_of a.job) a.kinds.now a.operands.now (ap verdict_of (sym c.check_walk.ensures ∙ c.in_ok-report.was)) in
    omega (arith, n.2)

pub returns-in_err-idle_cut : goal.returns-in_err-idle_cut
returns-in_err-idle_cut c = let a = c.args in
    refused_answer _ _ _ (sym c.idle_cut.ensures ∙ c.in_err-idle_cut.was) c.from_residual-in_err-idle_cut.ensures.1
    ∙ sym (idle_decides (job_of a.job) a.kinds.now a.operands.now c.check_walk.ensures c.in_ok-report.was)

pub returns : goal.returns
returns c = let a = c.args in
    given_answer _ _ (sym c.idle_cut.ensures ∙ c.in_ok-idle_cut.was) refl ∙ sym (idle_decides (job_of a.job) a.kinds.now a.operands.now c.check_walk.ensures c.in_ok-report.was)
