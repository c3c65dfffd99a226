-- `plan::check_block` meets its contract: the block's bytes come before the plan's arrays, and too many nodes are refused unread.
use Rattle.plan.proofs.Prelude.{◌≡◌, ◌∙◌, sym, ap, ap₂, ◌+◌, ◌-◌, arith, take, drop, job_of, plan_answer, plan_count, handed}
use Rattle.plan.proofs.Calls.{block_short, block_stops, block_long, block_many, block_on}
use Rattle.plan.proofs.check_block.Goals as goal

pub returns-in_err-refuse_if : goal.returns-in_err-refuse_if
returns-in_err-refuse_if c = handed _ c.from_residual.ensures.1 ∙ sym (block_stops (job_of c.args.job) c.args.plan.now (block_short (job_of c.args.job) c.args.plan.now c.refuse_if.ensures c.in_err-refuse_if.was) c.in_err-refuse_if.was)

pub returns-in_err-refuse_if-2 : goal.returns-in_err-refuse_if-2
returns-in_err-refuse_if-2 c =
    let e = block_long (job_of c.args.job) c.args.plan.now _ c.refuse_if.ensures c.in_ok-refuse_if.was c.read_u16-count.ensures c.refuse_if-2.ensures in
    handed _ c.from_residual-in_err-refuse_if-2.ensures.1 ∙ sym (block_stops (job_of c.args.job) c.args.plan.now e c.in_err-refuse_if-2.was)

pub returns-in_err-refuse_if-3 : goal.returns-in_err-refuse_if-3
returns-in_err-refuse_if-3 c =
    let e = block_long (job_of c.args.job) c.args.plan.now _ c.refuse_if.ensures c.in_ok-refuse_if.was c.read_u16-count.ensures c.refuse_if-2.ensures in
    handed _ c.from_residual-in_err-refuse_if-3.ensures.1
    ∙ sym (block_many (job_of c.args.job) c.args.plan.now e c.in_ok-refuse_if-2.was c.read_u16-count.ensures c.refuse_if-3.ensures c.in_err-refuse_if-3.was)

pub returns : goal.returns
returns c = let p = c.args.plan.now in
    let e = block_long (job_of c.args.job) p _ c.refuse_if.ensures c.in_ok-refuse_if.was c.read_u16-count.ensures c.refuse_if-2.ensures in
    c.check_nodes.ensures
    ∙ ap₂ (plan_answer (job_of c.args.job)) (ap (λ k. take k (drop 2 p)) (let z : 2 + c.read_u16-count.result - 2 ≡ plan_count p = omega (arith, c.read_u16-count.ensures) in z)) c.read_operands.ensures.0
    ∙ sym (block_on (job_of c.args.job) p e c.in_ok-refuse_if-2.was)
