-- `rack::check_own` meets its contract: the walk comes first, then check 26 over the nodes of the tree.
use Rattle.rack.proofs.Prelude.{◌∙◌, refl, sym, job_of, handed}
use Rattle.refusal.proofs.Results.{refused_answer, given_answer}
use Rattle.rack.proofs.Own.{own_stops, own_decides, own_inside}
use Rattle.rack.proofs.check_own.Goals as goal

pub returns-in_err-tree : goal.returns-in_err-tree
returns-in_err-tree c = let a = c.args in
    (handed _ c.from_residual.ensures.1 ∙ sym (own_stops (job_of a.job) a.kinds.now a.operands.now a.first c.walk_tree.ensures.0 c.in_err-tree.was), c.walk_tree.ensures.1)

pub slice_bounds-idle_cut-count : goal.slice_bounds-idle_cut-count
slice_bounds-idle_cut-count c = (own_inside (job_of c.args.job) c.args.kinds.now c.args.operands.now c.args.first c.walk_tree.ensures.0 c.in_ok-tree.was c.requires.0.0 c.requires.2).0

pub slice_bounds-idle_cut-start : goal.slice_bounds-idle_cut-start
slice_bounds-idle_cut-start c = (own_inside (job_of c.args.job) c.args.kinds.now c.args.operands.now c.args.first c.walk_tree.ensures.0 c.in_ok-tree.was c.requires.0.0 c.requires.2).0

pub slice_bounds-idle_cut-end : goal.slice_bounds-idle_cut-end
slice_bounds-idle_cut-end c = (own_inside (job_of c.args.job) c.args.kinds.now c.args.operands.now c.args.first c.walk_tree.ensures.0 c.in_ok-tree.was c.requires.0.0 c.requires.2).1

pub returns-in_err-idle_cut : goal.returns-in_err-idle_cut
returns-in_err-idle_cut c = let a = c.args in (
  refused_answer _ _ _ (sym c.idle_cut.ensures ∙ c.in_err-idle_cut.was) c.from_residual-in_err-idle_cut.ensures.1
      ∙ sym (own_decides (job_of a.job) a.kinds.now a.operands.now a.first c.walk_tree.ensures.0 c.in_ok-tree.was),
  c.walk_tree.ensures.1,
)

pub returns : goal.returns
returns c = let a = c.args in (
  given_answer _ _ (sym c.idle_cut.ensures ∙ c.in_ok-idle_cut.was) refl ∙ sym (own_decides (job_of a.job) a.kinds.now a.operands.now a.first c.walk_tree.ensures.0 c.in_ok-tree.was),
  c.walk_tree.ensures.1,
)
