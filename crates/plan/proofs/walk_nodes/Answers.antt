-- `plan::walk_nodes` meets its contract: the walk over the plan's only tree comes first, then 18.
use Rattle.plan.proofs.Prelude.{◌∙◌, refl, sym, job_of, handed}
use Rattle.refusal.proofs.Results.{refused_answer, given_answer}
use Rattle.plan.proofs.Ends.{tree_stops, left_decides}
use Rattle.plan.proofs.walk_nodes.Goals as goal

pub returns-in_err-tree : goal.returns-in_err-tree
returns-in_err-tree c = handed _ c.from_residual.ensures.1 ∙ sym (tree_stops (job_of c.args.job) c.args.kinds.now c.args.operands.now c.requires.0.0 c.walk_tree.ensures.0 c.in_err-tree.was)

pub returns-in_err-check_left : goal.returns-in_err-check_left
returns-in_err-check_left c = refused_answer _ _ _ (sym c.check_left.ensures ∙ c.in_err-check_left.was) c.from_residual-in_err-check_left.ensures.1
    ∙ sym (left_decides (job_of c.args.job) c.args.kinds.now c.args.operands.now c.requires.0.0 c.walk_tree.ensures.0 c.in_ok-tree.was)

pub returns : goal.returns
returns c = given_answer _ _ (sym c.check_left.ensures ∙ c.in_ok-check_left.was) refl
    ∙ sym (left_decides (job_of c.args.job) c.args.kinds.now c.args.operands.now c.requires.0.0 c.walk_tree.ensures.0 c.in_ok-tree.was)
