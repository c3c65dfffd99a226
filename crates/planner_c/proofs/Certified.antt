-- A certificate's profit and gap sum to no more than the bound's ceiling.
use Rattle.planner_c.proofs.Prelude.{◌≡◌, sym, ◌∙◌, ap, Option, List, ℕ, arith, Choices, Certificate, next, first_refusal, Job, System, block_job, plan_verdict, Memory, Arrays, limit_checks, accepts, CertifyPromises, certify_verdict, passed_both, GapWithin, value_answered, Ok, Answer}

pub gap_within : {S : Type 0} {limit : Option ℕ} {Y : Job → System S} {s : List ℕ} {choices : Choices} {ws : List ℕ} {plan : Arrays} {old new : Memory} {r : Answer Certificate} {a : Certificate}
    → CertifyPromises limit Y s choices ws plan old new r → r ≡ Ok a → GapWithin a
gap_within {limit = limit} {Y = Y} {s = s} {choices = choices} {ws = ws} {plan = plan} {old = old} p e profit gap f =
    let before = next (next (accepts s choices ws) (first_refusal (limit_checks limit))) (plan_verdict (block_job s choices) limit plan.0 plan.1) in
    let v = (value_answered (certify_verdict limit Y s choices ws plan old) _ (sym p.answers.answer ∙ e)).0 in
    let b = (passed_both before _ v).0 in
    let a = (passed_both (accepts s choices ws) _ (passed_both (next (accepts s choices ws) (first_refusal (limit_checks limit))) _ b).0).0 in
    omega (arith, (p.certifies.gap profit gap (e ∙ ap Ok f)).2, (p.fills.holds a).ceiling)
