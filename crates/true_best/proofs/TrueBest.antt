-- The statement of specs/TrueBest, from the promises of the calls.
use mathlib.Core.Path.{◌≡◌, sym, ◌∙◌, ap, subst}
use mathlib.Core.List.{List}
use Prim.Native.Nat.{ℕ, ◌≤◌}
use Rattle.cutting.specs.Tree.{Rect, Tree}
use Rattle.cutting.specs.Pieces.{Piece, ◌⊑◌}
use Rattle.cutting.specs.Preorder.{kinds_of, operands_of, node_count}
use Rattle.cutting.specs.Shares.{stages}
use Rattle.cutting.specs.Job.{Job, profit}
use Rattle.cutting.specs.Promises.{NoneAbove}
use Rattle.cutting.specs.Relaxation.{ChainsFit}
use Rattle.refusal.specs.Refusals.{passed, verdict_of, next, first_refusal}
use Rattle.refusal.proofs.Results.{value_answered}
use Rattle.promises.specs.declared.Choices.{Choices}
use Rattle.job.specs.Block.{record_of, job_checks}
use Rattle.job.specs.Weights.{block_job}
use Rattle.job.proofs.Checks.{passed_both}
use Rattle.sizes.specs.Sizes.{sizes_checks}
use Rattle.promises.specs.declared.Report.{Report}
use Rattle.promises.specs.declared.TrueReport.{TrueReport}
use Rattle.plan.specs.Plan.{plan_answer}
use Rattle.plan.specs.Trees.{tree_in, PlanOf}
use Rattle.neat.specs.Neat.{written_by}
use Rattle.true_plan.specs.TruePlan.{true_verdict, report_of, block_true, block_neat, block_used, SizesPass, TruePlan, Best}
use Rattle.true_best.specs.TrueBest.{ModelPasses, PlanEarns, TrueWritten, Holds, TrueBest}

module _ (s : List ℕ) (choices : Choices) (z kinds operands : List ℕ) where
  abbrev M : Job
  M = block_job s choices

  abbrev J : Job
  J = block_true s choices z

  abbrev t : Tree Piece
  t = tree_in kinds operands

  module _ {ok op nk np : List ℕ} {b : TrueReport} (given : TrueWritten s choices z kinds operands ok op nk np b) where
    numbers : (true_verdict s choices z kinds operands ok op ≡ passed) × (b ≡ report_of (node_count (block_neat s choices z kinds operands)) (block_used s choices z kinds operands))
    numbers = value_answered _ _ (sym given.promised.answers ∙ given.written)

    passes : (first_refusal (job_checks s choices) ≡ passed) × SizesPass s choices z × (verdict_of (plan_answer M kinds operands) ≡ passed)
    passes =
        let a = passed_both (first_refusal (job_checks s choices)) _ numbers.0 in
        let c = passed_both (first_refusal (sizes_checks M.count z)) _ a.1 in
        (a.0, c.0, (passed_both (verdict_of (plan_answer M kinds operands)) _ c.1).0)

    plan : TruePlan M J t kinds operands
    plan = given.promised.plan passes.0 passes.1 passes.2

    fits : block_used s choices z kinds operands ⊑ J.plate
    fits = given.promised.fits numbers.0

    chains : ModelPasses s choices z → ChainsFit J M
    unfolding record_of
    chains m = (m.1.exactly (ap (λ v. next v (first_refusal (sizes_checks M.count z))) passes.0 ∙ passes.1)).0 m.2

    -- the tree that a plan's promises name is the arrays' own
    own : {n : ℕ} (u : Tree Piece) → PlanOf M u kinds operands → profit M u ≡ n → profit M t ≡ n
    own u d e = ap (λ x. profit M x) (sym (plan.only u d.drawn)) ∙ e

    within : {limit : ℕ} (u : Tree Piece) → PlanOf M u kinds operands → stages u ≤ limit → stages t ≤ limit
    within {limit} u d h = subst (λ x. stages x ≤ limit) (plan.only u d.drawn) h

    earned : {n : ℕ} → PlanEarns s choices kinds operands n → profit M t ≡ n
    earned e = let u = e.promised.tree _ e.answered in own u.0 u.1 (sym (ap (λ (r : Report). r.profit) u.2.own) ∙ e.earns)

    best : {n : ℕ} → ModelPasses s choices z → profit M t ≡ n → NoneAbove M n → Best J (block_neat s choices z kinds operands) n
    best m e none = plan.best (chains m) fits _ e none

    holds : Holds J (block_neat s choices z kinds operands) ok op nk np b
    holds = record {
      kinds_hold = given.promised.memory.kinds ∙ ap (λ v. written_by v (kinds_of (block_neat s choices z kinds operands)) ok) numbers.0;
      positions_hold = given.promised.memory.operands ∙ ap (λ v. written_by v (operands_of (block_neat s choices z kinds operands)) op) numbers.0;
      counted = ap (λ (b : TrueReport). b.nodes) numbers.1;
      long = ap (λ (b : TrueReport). b.length) numbers.1 ∙ sym (ap (λ (r : Rect). r.0) plan.used);
      wide = ap (λ (b : TrueReport). b.width) numbers.1 ∙ sym (ap (λ (r : Rect). r.1) plan.used);
    }

  pub true_best : TrueBest s choices z kinds operands
  true_best = record {
    written = λ g. holds g;
    certified = λ m c g. (let u = c.promised.best _ c.best in best g m (own g u.0.0 u.0.1 u.0.2) u.2.0);
    optimal = λ m e o g. best g m (earned g e) (subst (λ n. NoneAbove M n) o.optimum (o.promised.exact o.report o.answered).most.0);
    two_weights = λ m e o g. best g m (earned g e) (subst (λ n. NoneAbove M n) o.bound (o.promised.exact o.report o.answered).demands);
    staged = λ m c g. (let u = c.promised.best _ c.best in
        (plan g).staged_best (chains g m) (fits g) _ _ (within g u.0.0 u.0.1.plan u.0.1.within) (own g u.0.0 u.0.1.plan u.0.2) u.2.0);
  }
