-- `job::check_weights` meets its contract.
use Rattle.job.proofs.Prelude.{sym, ◌∙◌, [], ◌∷◌, job_of, first_refusal, weight_checks, weight_in, capacity, ap, Ok}
use Rattle.refusal.proofs.Results.{refused_answer, given_answer, told}
use Rattle.job.proofs.Checks.{check_stops}
use Rattle.job.proofs.Weights.{weighed_checks}
use Rattle.job.proofs.check_weights.Goals as goal

pub returns-in_err-refuse_if : goal.returns-in_err-refuse_if
returns-in_err-refuse_if c = let J = job_of c.args.job in
    let ws = c.args.weights.now in
    let v = first_refusal (weight_checks J ws) in
    let q = capacity J (weight_in ws) in
    let e = told (λ q. q ∷ []) v q (refused_answer v q _ (sym (check_stops _ _ _ c.refuse_if.ensures c.in_err-refuse_if.was) ∙ c.in_err-refuse_if.was) c.from_residual.ensures.1) in
    record { answers = e.0; outcome = e.1 }

pub returns-in_err-refuse_if-2 : goal.returns-in_err-refuse_if-2
returns-in_err-refuse_if-2 c = let J = job_of c.args.job in
    let ws = c.args.weights.now in
    let v = first_refusal (weight_checks J ws) in
    let q = capacity J (weight_in ws) in
    let w = weighed_checks J ws _ c.refuse_if.ensures c.in_ok-refuse_if.was c.sum_capacity-q.ensures c.refuse_if-2.ensures in
    let e = told (λ q. q ∷ []) v q (refused_answer v q _ (sym w ∙ c.in_err-refuse_if-2.was) c.from_residual-in_err-refuse_if-2.ensures.1) in
    record { answers = e.0; outcome = e.1 }

pub returns : goal.returns
returns c = let J = job_of c.args.job in
    let ws = c.args.weights.now in
    let v = first_refusal (weight_checks J ws) in
    let q = capacity J (weight_in ws) in
    let w = weighed_checks J ws _ c.refuse_if.ensures c.in_ok-refuse_if.was c.sum_capacity-q.ensures c.refuse_if-2.ensures in
    let e = told (λ q. q ∷ []) v q (given_answer v q (sym w ∙ c.in_ok-refuse_if-2.was) (ap Ok c.sum_capacity-q.ensures)) in
    record { answers = e.0; outcome = e.1 }
