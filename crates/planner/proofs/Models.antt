-- The check of a model and the true plan: what the inner call promises gives its instance.
use Rattle.planner.proofs.Prelude.{◌≡◌, refl, sym, ◌∙◌, ap, Bool, false, ◌||◌, Option, none, some, List, [], ◌∷◌, ℕ, ◌≤◌, arith, ltb, length, Tree, Piece, ◌⊑◌, kinds_of, operands_of, node_count, Job, profit, used_of, neat_of, ChainsFit, chains_fit, stages_paths, by_check, next, first_refusal, PlanLong, TrueMisfit, Choices, job_checks, record_of, block_job, passed_both, read_in_range, sizes_checks, sizes_of, plan_answer, tree_in, le-ltb, WithinLimit, NoneAbove, plan_verdict, Arrays, list_after, block_true_job, true_verdict, NoneBetter, StandsFor, ModelPromises, TruePlan, true_values, true_plan_verdict, TruePromises, Ok, Err, passed, Checked, Answer, TrueReport, verdict_of, answer_by}
use Rattle.cutting.specs.Promises as old_trees
use Rattle.cutting.specs.Staged as old_staged
use Rattle.model.specs.Model as model
use Rattle.true_plan.specs.TruePlan as today
use Rattle.promises.specs.Job.{OnPlate, KeepsDemands}
use Rattle.promises.specs.True as true_sizes
use Rattle.planner.proofs.Lent.{answers_by}
use Rattle.planner.proofs.Checks.{checks_new, verdict_none}
use Rattle.planner.proofs.Judged.{next_same}

-- no tree is better, without a limit and within one
pub none_from : (J : Job) (n : ℕ) → old_trees.NoneBetter J n → NoneBetter J none n
none_from J n b = ((λ t g u k. b.0 t g k), (λ m p t g u k. b.1 m p t g k))

pub staged_from : (J : Job) (limit n : ℕ) → old_staged.NoneStagedBetter J limit n → NoneBetter J (some limit) n
staged_from J limit n b = ((λ t g u k. b.0 t g (rw (stages_paths t) u) k), (λ m p t g u k. b.1 m p t g (rw (stages_paths t) u) k))

pub stands_new : (M J : Job) → model.StandsFor M J → StandsFor M J
stands_new M J s none n a = none_from J n (s.none_better n (λ t g k. a t g tt k))
stands_new M J s (some limit) n a = staged_from J limit n (s.none_staged limit n (λ t g u k. a t g (rw⁻¹ (stages_paths t) u) k))

pub model_new : (s : List ℕ) (choices : Choices) (z : List ℕ) (r : Checked) → model.ModelPromises s choices z r → ModelPromises s choices z r
unfolding model.model_checks sizes_of record_of sizes_checks true_sizes.sizes_checks
model_new s choices z r p = record {
  fits = chains_fit (block_true_job s choices z) (block_job s choices);
  directions = p.directions;
  answers = p.answers;
  exactly = p.exactly;
  stands = λ e. stands_new (block_job s choices) (block_true_job s choices z) (p.stands e);
}

-- the true plan of a tree
module _ (M J : Job) (t : Tree Piece) (kinds operands : List ℕ) (q : today.TruePlan M J t kinds operands) where
  best_new : ChainsFit J M → used_of J t ⊑ J.plate → (limit : Option ℕ) → WithinLimit limit t → NoneAbove M limit (profit M t)
      → OnPlate J (neat_of J t) × WithinLimit limit (neat_of J t) × KeepsDemands J (neat_of J t) × NoneBetter J limit (profit J (neat_of J t))
  best_new chains fits none w n =
      let b = q.best chains fits (profit M t) refl (λ u g k. n u g tt k) in
      (b.on_plate, tt, b.keeps, rw b.earns (none_from J (profit M t) b.none_better))
  best_new chains fits (some limit) w n =
      let b = q.staged_best chains fits limit (profit M t) (rw (stages_paths t) w) refl (λ u g h k. n u g (rw⁻¹ (stages_paths u) h) k) in
      (b.on_plate, rw⁻¹ (stages_paths (neat_of J t)) b.staged, b.keeps, rw b.earns (staged_from J limit (profit M t) b.none_better))

  pub planned_new : TruePlan M J t
  planned_new = record {
    on_plate = q.on_plate;
    used = q.used;
    keeps = q.keeps;
    earns = q.earns;
    copies = q.copies;
    no_more_nodes = q.no_more_nodes;
    no_more_stages = omega (arith, q.no_more_stages, stages_paths (neat_of J t), stages_paths t);
    best = best_new;
  }

module _ (s : List ℕ) (choices : Choices) (z : List ℕ) (plan old new : Arrays) (r : Answer TrueReport) (p : today.TruePromises s choices z plan.0 plan.1 old.0 old.1 new.0 new.1 r) where
  abbrev M : Job
  M = block_job s choices

  abbrev J : Job
  J = block_true_job s choices z

  abbrev t : Tree Piece
  t = tree_in plan.0 plan.1

  few : true_verdict s choices z ≡ passed → M.count ≤ 64
  unfolding sizes_checks true_sizes.sizes_checks
  few b = (read_in_range s choices (passed_both (first_refusal (job_checks s choices)) (first_refusal (sizes_checks M.count z)) b).0).kinds.1

  plan_is : true_verdict s choices z ≡ passed → plan_verdict M none plan.0 plan.1 ≡ verdict_of (plan_answer M plan.0 plan.1)
  plan_is b = verdict_none M (few b) plan.0 plan.1

  judged : next (true_verdict s choices z) (plan_verdict M none plan.0 plan.1) ≡ passed → today.TruePlan M J t plan.0 plan.1
  unfolding sizes_of record_of sizes_checks true_sizes.sizes_checks
  judged b =
      let v = passed_both (true_verdict s choices z) (plan_verdict M none plan.0 plan.1) b in
      let w = passed_both (first_refusal (job_checks s choices)) (first_refusal (sizes_checks M.count z)) v.0 in
      p.plan w.0 w.1 (sym (plan_is v.0) ∙ v.1)

  -- 34 and 21, by what 21 reads of the number of nodes
  abbrev last : Bool → Checked
  last b = first_refusal ((ltb J.plate.0 (used_of J t).0, TrueMisfit 0) ∷ (ltb J.plate.1 (used_of J t).1, TrueMisfit 1) ∷ ((b || ltb (length old.0) (node_count (neat_of J t))) || ltb (length old.1) (node_count (neat_of J t)), PlanLong (node_count (neat_of J t))) ∷ [])

  -- a true plan has at most 4,095 nodes
  small : next (true_verdict s choices z) (plan_verdict M none plan.0 plan.1) ≡ passed → ltb 4095 (node_count (neat_of J t)) ≡ false
  small b = le-ltb 4095 (node_count (neat_of J t)) (omega (arith, (judged b).no_more_nodes, (judged b).drawn.drawn.nodes))

  assoc : (a b c : Checked) → next a (next b c) ≡ next (next a b) c
  assoc (Ok _) b c = refl
  assoc (Err x) b c = refl

  -- where the blocks and the plan pass, 21 reads no more than the arrays
  last_is : true_verdict s choices z ≡ passed → next (verdict_of (plan_answer M plan.0 plan.1)) (last false) ≡ next (plan_verdict M none plan.0 plan.1) (last (ltb 4095 (node_count (neat_of J t))))
  last_is h = ap (λ v. next v (last false)) (sym (plan_is h))
      ∙ next_same (plan_verdict M none plan.0 plan.1) (last false) (last (ltb 4095 (node_count (neat_of J t)))) (λ v. ap last (sym (small (both h v))))
    where
      both : true_verdict s choices z ≡ passed → plan_verdict M none plan.0 plan.1 ≡ passed → next (true_verdict s choices z) (plan_verdict M none plan.0 plan.1) ≡ passed
      both a b = ap (λ v. next v (plan_verdict M none plan.0 plan.1)) a ∙ b

  verdict_is : today.true_verdict s choices z plan.0 plan.1 old.0 old.1 ≡ true_plan_verdict s choices z plan old
  unfolding sizes_of record_of sizes_checks true_sizes.sizes_checks
  verdict_is = assoc (first_refusal (job_checks s choices)) (first_refusal (sizes_checks M.count z)) (next (verdict_of (plan_answer M plan.0 plan.1)) (last false))
      ∙ next_same (true_verdict s choices z) (next (verdict_of (plan_answer M plan.0 plan.1)) (last false)) (next (plan_verdict M none plan.0 plan.1) (last (ltb 4095 (node_count (neat_of J t))))) last_is

  pub true_new : TruePromises s choices z plan old new r
  unfolding sizes_of record_of sizes_checks true_sizes.sizes_checks
  true_new = record {
    answers = answers_by true_values (true_plan_verdict s choices z plan old) (today.report_of (node_count (neat_of J t)) (used_of J t)) r
        (p.answers ∙ ap (λ v. answer_by v (today.report_of (node_count (neat_of J t)) (used_of J t))) verdict_is);
    arrays = (p.memory.kinds ∙ ap (λ v. list_after v (kinds_of (neat_of J t)) old.0) verdict_is, p.memory.operands ∙ ap (λ v. list_after v (operands_of (neat_of J t)) old.1) verdict_is);
    judged = checks_new (true_verdict s choices z) M few none plan.0 plan.1;
    fits = λ h. p.fits (verdict_is ∙ h);
    holds = λ b. planned_new M J t plan.0 plan.1 (judged b);
  }
