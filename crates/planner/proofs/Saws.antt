-- The saw's reading and its check: what the inner call promises gives its instance.
use denote.Ref.{Bor}
use Rattle.planner.proofs.Prelude.{◌≡◌, refl, sym, ◌∙◌, ap, subst, none, Bool, true, false, List, [], ℕ, ◌+◌, ◌-◌, ◌≤◌, ◌<◌, arith, ltb, length, take, drop, Bor, ltb-true, Tree, Piece, node_count, Job, Outcome, by_check, next, first_refusal, Choices, job_checks, block_job, read_in_range, Report, proceed, plan_answer, tree_in, PlanOf, arrays_answer, plans_checked, Part, same_answer, part_tree, saw_range, tree_report, saw_record, saw_job, plan_verdict, Answers, Arrays, job_values, plan_values, Checks, NeverSix, saw_values, without_profit, saw_verdict, SawReadPromises, SawPromises, part_if, node_part, PartPromises, HandsBack, Ok, Err, passed, Checked, Answer, JobRecord, SawReport, verdict_of, answer_by}
use Rattle.saw.specs.Saw as today
use Rattle.saw.specs.Prices as prices
use Rattle.saw.specs.Parts as parts
use Rattle.promises.specs.Block.{saw_checks}
use Rattle.planner.proofs.Lent.{answers_by}
use Rattle.planner.proofs.Checks.{checks_new, plan_is}
use Rattle.refusal.proofs.Results.{verdict_is}

pub saw_read_new : (s : List ℕ) (choices : Choices) (r : Answer JobRecord) → r ≡ today.saw_read s choices → prices.AtAnyPrices choices s (λ z. r ≡ today.saw_read z choices) → NeverSix (verdict_of r) → (verdict_of r ≡ passed → prices.PricesFree choices s)
    → SawReadPromises s choices r
saw_read_new s choices r e blind six free = record { answers = (one s e, λ z o. one z (blind z o)); unpriced = six; free = free }
  where
    one : (z : List ℕ) → r ≡ today.saw_read z choices → Answers job_values (first_refusal (saw_checks z choices)) (saw_record z choices) r
    one z e = answers_by job_values (first_refusal (saw_checks z choices)) (saw_record z choices) r e

-- a plan's answer without its profit, by its verdict
module _ (K : Job) (plan : Arrays) where
  abbrev answer : Answer Report
  answer = plan_answer K plan.0 plan.1

  abbrev own : Report
  own = tree_report K (tree_in plan.0 plan.1)

  sawn : (v : Checked) → (v ≡ passed → K.count ≤ 64) → today.saw_of (proceed v answer) ≡ answer_by (next v (plan_verdict K none plan.0 plan.1)) (without_profit own)
  sawn (Ok _) f = ap today.saw_of (plan_is K (f refl) plan.0 plan.1) ∙ go (plan_verdict K none plan.0 plan.1)
    where
      go : (v : Checked) → today.saw_of (answer_by v own) ≡ answer_by v (without_profit own)
      go (Ok _) = refl
      go (Err x) = refl
  sawn (Err x) f = refl

module _ (s : List ℕ) (choices : Choices) (plan : Arrays) (r : Answer SawReport) where
  saw_few : (z : List ℕ) → first_refusal (saw_checks z choices) ≡ passed → (saw_job z choices).count ≤ 64
  saw_few z p = (saw_range z choices p).kinds.1

  abbrev office_verdict : Checked
  office_verdict = next (first_refusal (job_checks s choices)) (plan_verdict (block_job s choices) none plan.0 plan.1)

  pub saw_new : r ≡ today.saw_answer s choices plan.0 plan.1 → NeverSix (verdict_of r) → prices.AtAnyPrices choices s (λ z. r ≡ today.saw_answer z choices plan.0 plan.1) → prices.BesideOffice s choices plan.0 plan.1 r
      → SawPromises s choices plan r
  saw_new e six blind beside = record {
    unpriced = six;
    answers = (one s e, λ z o. one z (blind z o));
    judged = checks_new (first_refusal (saw_checks s choices)) (saw_job s choices) (saw_few s) none plan.0 plan.1;
    office = λ h. answers_by saw_values office_verdict (without_profit (tree_report (block_job s choices) (tree_in plan.0 plan.1))) r
        (beside.alike (λ i k. h i (sym office_is ∙ ap verdict_of k)) ∙ sawn (block_job s choices) plan (first_refusal (job_checks s choices)) (λ p. (read_in_range s choices p).kinds.1));
  }
    where
      one : (z : List ℕ) → r ≡ today.saw_answer z choices plan.0 plan.1 → Answers saw_values (saw_verdict z choices plan) (without_profit (tree_report (saw_job z choices) (tree_in plan.0 plan.1))) r
      one z e = answers_by saw_values (saw_verdict z choices plan) (without_profit (tree_report (saw_job z choices) (tree_in plan.0 plan.1))) r (e ∙ sawn (saw_job z choices) plan (first_refusal (saw_checks z choices)) (saw_few z))

      verdict_same : (a : Answer Report) → verdict_of (today.saw_of a) ≡ verdict_of a
      verdict_same (Ok a) = refl
      verdict_same (Err x) = refl

      office_is : verdict_of (arrays_answer s choices plan.0 plan.1) ≡ office_verdict
      office_is = sym (verdict_same (arrays_answer s choices plan.0 plan.1))
          ∙ ap verdict_of (sawn (block_job s choices) plan (first_refusal (job_checks s choices)) (λ p. (read_in_range s choices p).kinds.1))
          ∙ verdict_is office_verdict (without_profit (tree_report (block_job s choices) (tree_in plan.0 plan.1)))

-- the part of a node, in an array of which a tree has the entries f
module _ (f : Tree Piece → List ℕ) (s : List ℕ) (choices : Choices) (plan : Arrays) (node : ℕ) (array : List ℕ) (sized : (t : Tree Piece) → length (f t) ≡ node_count t)
    (drawn : (t : Tree Piece) → PlanOf (saw_job s choices) t plan.0 plan.1 → array ≡ f t) where
  abbrev count : ℕ
  count = length array

  abbrev mine : Part
  mine = node_part s choices plan count node

  abbrev tree : Tree Piece
  tree = tree_in plan.0 plan.1

  told : (z : List ℕ) → verdict_of (today.saw_answer z choices plan.0 plan.1) ≡ saw_verdict z choices plan
  told z = ap verdict_of (sawn (saw_job z choices) plan (first_refusal (today.saw_checks z choices)) (λ p. (saw_range z choices p).kinds.1))
      ∙ verdict_is (saw_verdict z choices plan) (without_profit (tree_report (saw_job z choices) tree))

  judged : Checks (first_refusal (saw_checks s choices)) (saw_job s choices) none plan.0 plan.1
  judged = checks_new (first_refusal (saw_checks s choices)) (saw_job s choices) (λ p. (saw_range s choices p).kinds.1) none plan.0 plan.1

  entry_count : saw_verdict s choices plan ≡ passed → count ≡ node_count tree
  entry_count p = ap length (drawn tree (judged.tree p).0) ∙ sized tree

  within : saw_verdict s choices plan ≡ passed → ltb node count ≡ true → node < node_count tree
  within e d = omega (arith, ltb-true node count d, entry_count e)

  part_is : (v : Checked) → saw_verdict s choices plan ≡ v → (b : Bool) → ltb node count ≡ b → parts.node_part s choices plan.0 plan.1 array node ≡ mine
  part_is (Err x) e b d = ap (λ v. parts.part_by v plan.0 count node) (told s ∙ e) ∙ sym (ap (λ v. by_check v (part_if (ltb node count) tree count node) (λ x. record { first = count; past = count })) e)
  part_is (Ok _) e false d = (λ i. by_check ((told s ∙ e) i) (parts.part_if (d i) plan.0 count node) (λ r. parts.between count count)) ∙ sym (λ i. by_check (e i) (part_if (d i) tree count node) (λ x. record { first = count; past = count }))
  part_is (Ok _) e true d = part_tree s choices plan.0 plan.1 node (judged.before e) tree (judged.tree e).0 (within e d) array (entry_count e)
      ∙ sym (λ i. by_check (e i) (part_if (d i) tree count node) (λ x. record { first = count; past = count }))

  part_by : (saw_verdict s choices plan ≡ passed → ltb node count ≡ true → take (mine.past - mine.first) (drop mine.first array) ≡ f (parts.tree_at tree node)) → PartPromises f s choices plan array node mine
  part_by entries = record {
    answers = (
      refl,
      λ z o. ap (λ v. by_check v (part_if (ltb node count) tree count node) (λ x. record { first = count; past = count }))
          (sym (told s) ∙ (ap verdict_of (same_answer choices s z o plan.0 plan.1) ∙ told z)),
    );
    judged = judged;
    entries = entries;
  }

  -- the part alone, from the entries that each tree has of its own
  pub part_told : ((t : Tree Piece) (n : ℕ) → n < node_count t → take (node_count (parts.tree_at t n)) (drop n (f t)) ≡ f (parts.tree_at t n)) → (p : Part) → p ≡ parts.node_part s choices plan.0 plan.1 array node
      → PartPromises f s choices plan array node p
  part_told own p e = subst (PartPromises f s choices plan array node) (sym (e ∙ part_is (saw_verdict s choices plan) refl (ltb node count) refl)) (part_by entries)
    where
      entries : saw_verdict s choices plan ≡ passed → ltb node count ≡ true → take (mine.past - mine.first) (drop mine.first array) ≡ f (parts.tree_at tree node)
      entries v d =
          let m : mine ≡ record { first = node; past = node + node_count (parts.tree_at tree node) } = λ i. by_check (v i) (part_if (d i) tree count node) (λ x. record { first = count; past = count }) in
          let n : node + node_count (parts.tree_at tree node) - node ≡ node_count (parts.tree_at tree node) = omega arith in
          ap (λ (p : Part). take (p.past - p.first) (drop p.first array)) m
          ∙ (ap (λ k. take k (drop node array)) n ∙ (ap (λ l. take (node_count (parts.tree_at tree node)) (drop node l)) (drawn tree (judged.tree v).0) ∙ own tree node (within v d)))

-- the part handed back as a slice
module _ (bytes : ℕ) (f : Tree Piece → List ℕ) (s : List ℕ) (choices : Choices) (plan : Arrays) (node : ℕ) (array r : Bor (List ℕ)) (sized : (t : Tree Piece) → length (f t) ≡ node_count t)
    (drawn : (t : Tree Piece) → PlanOf (saw_job s choices) t plan.0 plan.1 → array.now ≡ f t) (h : parts.HandsBack bytes f s choices plan.0 plan.1 node array r) where
  pub part_new : HandsBack bytes f s choices plan node array r
  part_new =
      let q = subst (λ p. parts.IsPart bytes p array r) (part_is f s choices plan node array.now sized drawn (saw_verdict s choices plan) refl (ltb node (length array.now)) refl) h.part_is in
      let j = judged f s choices plan node array.now sized drawn in
      record {
        part = mine f s choices plan node array.now sized drawn;
        promises = part_by f s choices plan node array.now sized drawn (λ e d. sym q.0 ∙ (h.tree (j.before e) (tree_in plan.0 plan.1) (j.tree e).0 (within f s choices plan node array.now sized drawn e d)).0);
        entries = q.0;
        lies = q.1;
      }
