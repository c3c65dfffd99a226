-- `staged_plan::check_within` meets its contract: the plan check comes first, then check 23.
use Rattle.staged_plan.proofs.Prelude.{handed, job_of}
use Rattle.staged_plan.proofs.Within.{some_nodes, is_within, is_past}
use Rattle.staged_plan.proofs.check_within.Goals as goal

pub stages_within-requires : goal.stages_within-requires
stages_within-requires c = let g = some_nodes (job_of c.args.job) c.requires.0.kinds.1 c.args.limit c.args.kinds.now c.args.operands.now c.check_nodes.ensures c.in_ok-report.was in
    (g.0, g.1, c.requires.1, c.requires.2)

pub returns-in_err-stages : goal.returns-in_err-stages
returns-in_err-stages c = is_past (job_of c.args.job) c.requires.0.kinds.1 c.args.limit c.args.kinds.now c.args.operands.now c.check_nodes.ensures c.in_ok-report.was
    c.stages_within.ensures.stages c.in_err-stages.was (handed _ c.from_residual-in_err-stages.ensures.1)

pub returns : goal.returns
returns c = is_within (job_of c.args.job) c.requires.0.kinds.1 c.args.limit c.args.kinds.now c.args.operands.now c.check_nodes.ensures c.in_ok-report.was c.stages_within.ensures.stages c.in_ok-stages.was
