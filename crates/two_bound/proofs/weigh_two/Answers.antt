-- `two_bound::weigh_two` meets its contract: 8, 24, 9 of either list, 25, or both capacities.
use Rattle.two_bound.proofs.Prelude.{◌∙◌, ap₂, ◌+◌, ◌≤◌, mul-le-mul, arith, job_of, Ok}
use Rattle.refusal.proofs.Results.{refused_answer, given_answer}
use Rattle.two_bound.proofs.Weights.{first_refused, second_refused, first_heavy, second_heavy, both_weighed, product_decides}
use Rattle.two_bound.proofs.weigh_two.Goals as goal

pub returns-in_err-refuse_if : goal.returns-in_err-refuse_if
returns-in_err-refuse_if c = let e = c.args in
    refused_answer _ _ _ (first_refused (job_of e.job) e.first.now e.second.now c.refuse_if.ensures c.in_err-refuse_if.was) c.from_residual.ensures.1

pub returns-in_err-refuse_if-2 : goal.returns-in_err-refuse_if-2
returns-in_err-refuse_if-2 c = let e = c.args in
    refused_answer _ _ _ (second_refused (job_of e.job) e.first.now e.second.now c.refuse_if.ensures c.in_ok-refuse_if.was c.refuse_if-2.ensures c.in_err-refuse_if-2.was)
    c.from_residual-in_err-refuse_if-2.ensures.1

pub returns-in_err-q : goal.returns-in_err-q
returns-in_err-q c = let e = c.args in
    refused_answer _ _ _ (first_heavy (job_of e.job) e.first.now e.second.now c.refuse_if.ensures c.in_ok-refuse_if.was c.refuse_if-2.ensures c.in_ok-refuse_if-2.was
    c.check_weights.ensures.answers c.in_err-q.was) c.from_residual-in_err-q.ensures.1

pub returns-in_err-s : goal.returns-in_err-s
returns-in_err-s c = let e = c.args in
    refused_answer _ _ _ (second_heavy (job_of e.job) e.first.now e.second.now c.refuse_if.ensures c.in_ok-refuse_if.was c.refuse_if-2.ensures c.in_ok-refuse_if-2.was
    c.check_weights.ensures.answers c.in_ok-q.was c.check_weights-2.ensures.answers c.in_err-s.was) c.from_residual-in_err-s.ensures.1

pub overflow_mul-q : goal.overflow_mul-q
overflow_mul-q c = let e = c.args in
    let w = both_weighed (job_of e.job) e.first.now e.second.now c.refuse_if.ensures c.in_ok-refuse_if.was c.refuse_if-2.ensures c.in_ok-refuse_if-2.was
    c.check_weights.ensures.answers c.in_ok-q.was c.check_weights-2.ensures.answers c.in_ok-s.was in
    let f : c.in_ok-q.q + 1 ≤ 4096 = omega (arith, w) in
    let g : c.in_ok-s.s + 1 ≤ 4096 = omega (arith, w) in
    omega (arith, mul-le-mul f g)

pub returns-in_err-refuse_if-3 : goal.returns-in_err-refuse_if-3
returns-in_err-refuse_if-3 c = let e = c.args in
    refused_answer _ _ _ (product_decides (job_of e.job) e.first.now e.second.now c.refuse_if.ensures c.in_ok-refuse_if.was c.refuse_if-2.ensures c.in_ok-refuse_if-2.was
    c.check_weights.ensures.answers c.in_ok-q.was c.check_weights-2.ensures.answers c.in_ok-s.was c.refuse_if-3.ensures ∙ c.in_err-refuse_if-3.was) c.from_residual-in_err-refuse_if-3.ensures.1

pub returns : goal.returns
returns c = let e = c.args in
    let w = both_weighed (job_of e.job) e.first.now e.second.now c.refuse_if.ensures c.in_ok-refuse_if.was c.refuse_if-2.ensures c.in_ok-refuse_if-2.was
    c.check_weights.ensures.answers c.in_ok-q.was c.check_weights-2.ensures.answers c.in_ok-s.was in
    given_answer _ _ (product_decides (job_of e.job) e.first.now e.second.now c.refuse_if.ensures c.in_ok-refuse_if.was c.refuse_if-2.ensures c.in_ok-refuse_if-2.was
    c.check_weights.ensures.answers c.in_ok-q.was c.check_weights-2.ensures.answers c.in_ok-s.was c.refuse_if-3.ensures ∙ c.in_ok-refuse_if-3.was) (ap₂ (λ q s. Ok (record { first = q; second = s })) w.0.0 w.0.1)
