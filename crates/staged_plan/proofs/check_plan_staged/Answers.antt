-- `staged_plan::check_plan_staged` meets its contract: the job is read first, then the limit; the rest is the check within it.
use Rattle.staged_plan.proofs.Prelude.{Bool, ◌≡◌, ◌∙◌, sym, ap, ℕ, most_limit, outside, Checked, first_refusal, [], ◌∷◌, refuse_when, StageLimit, limit_check, check_last, passed_false, limit_inside, handed, read_range}
use Rattle.staged_plan.proofs.Calls.{check_met, read_stops, limit_stops, read_on}
use Rattle.staged_plan.proofs.check_plan_staged.Goals as goal

-- the limit's check is 22
limited : (n : ℕ) {b : Bool} {v : Checked} → b ≡ outside 1 most_limit n → v ≡ refuse_when b StageLimit → v ≡ first_refusal (limit_check n ∷ [])
limited n e f = check_last _ _ (f ∙ ap (λ b. refuse_when b StageLimit) e)

pub returns-in_err-job : goal.returns-in_err-job
returns-in_err-job c = let a = c.args in
    let m = check_met a.block.now a.choices a.limit a.kinds.now a.operands.now (read_stops a.block.now a.choices a.limit a.kinds.now a.operands.now c.read_job.ensures.answers c.in_err-job.was (handed _ c.from_residual.ensures.1)) in
    record { answers = m.0; outcome = m.1.0; trees = m.1.1 }

pub returns-in_err-refuse_if : goal.returns-in_err-refuse_if
returns-in_err-refuse_if c = let a = c.args in
    let m = check_met a.block.now a.choices a.limit a.kinds.now a.operands.now (limit_stops a.block.now a.choices a.limit a.kinds.now a.operands.now c.read_job.ensures.answers c.in_ok-job.was
    (limited a.limit c.limit_outside.ensures c.refuse_if.ensures) c.in_err-refuse_if.was (handed _ c.from_residual-in_err-refuse_if.ensures.1)) in
    record { answers = m.0; outcome = m.1.0; trees = m.1.1 }

pub check_within-requires : goal.check_within-requires
check_within-requires c = let a = c.args in
    let l = limit_inside a.limit (sym c.limit_outside.ensures ∙ passed_false _ StageLimit (sym c.refuse_if.ensures ∙ c.in_ok-refuse_if.was)) in
    (read_range a.block.now a.choices c.read_job.ensures.answers c.in_ok-job.was, l.0, l.1)

pub returns : goal.returns
returns c = let a = c.args in
    let m = check_met a.block.now a.choices a.limit a.kinds.now a.operands.now (read_on a.block.now a.choices a.limit a.kinds.now a.operands.now c.read_job.ensures.answers c.in_ok-job.was
    (limited a.limit c.limit_outside.ensures c.refuse_if.ensures) c.in_ok-refuse_if.was c.check_within.ensures) in
    record { answers = m.0; outcome = m.1.0; trees = m.1.1 }
