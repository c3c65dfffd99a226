-- `plan::check_walk` meets its contract: checks 10 and 11 come first; the rest is the walk.
use Rattle.plan.proofs.Prelude.{◌∙◌, sym, job_of, handed}
use Rattle.plan.proofs.Whole.{whole_counts, whole_stops, whole_goes}
use Rattle.plan.proofs.check_walk.Goals as goal

pub returns-in_err-check_whole : goal.returns-in_err-check_whole
returns-in_err-check_whole c = let a = c.args in
    handed _ c.from_residual.ensures.1 ∙ sym (whole_stops (job_of a.job) a.kinds.now a.operands.now (sym c.check_whole.ensures ∙ c.in_err-check_whole.was))

pub walk_nodes-requires : goal.walk_nodes-requires
walk_nodes-requires c = let n = whole_counts c.args.kinds.now c.args.operands.now (sym c.check_whole.ensures ∙ c.in_ok-check_whole.was) in
    ((n.0, n.2), c.requires.kinds.1)

pub returns : goal.returns
returns c = let a = c.args in
    c.walk_nodes.ensures ∙ sym (whole_goes (job_of a.job) a.kinds.now a.operands.now (sym c.check_whole.ensures ∙ c.in_ok-check_whole.was))
