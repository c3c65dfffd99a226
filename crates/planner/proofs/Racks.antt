-- The check of a rack: verdict and profits are the inner check's, and what that promises gives the instance.
use Rattle.planner.proofs.Prelude.{◌≡◌, refl, sym, ◌∙◌, ap, ap₂, subst, List, [], ◌∷◌, ◌++◌, append-nil, ℕ, zero, suc, ◌+◌, ◌-◌, ◌≤◌, ◌<◌, arith, ltb, length, take, drop, get_or, set, replicate, take-append-drop, entries, Tree, Piece, node_count, Job, profit, copies_of, Check, by_check, next, first_refusal, Refusal, RackDemand, each_kind, entries_in, tree_checks, nodes_in, tree_passed, left_check, trees_in, first_tree, written, trees_tree, tree_drawn, plated, own_stops, before_passed, Plate, order_few, plates_met, ext_get_or, whole_counts, empty_length, empty_copies, Choices, block_job, passed_both, sum, with_own_length, with_own_in, own_tree, walked, bound_of, Rack, plates, plate_at, rack_checks, total_checks, rack_walk, rack_walked, rack_verdict, PlansOf, RackChecks, profits_values, PlatesPromises, paid, rack_of, RackPromises, Ok, Err, passed, Checked, Answer, proceed, answer_by, verdict_of, ForOk, result_unwrap_or, TreeWalk}
use Rattle.plan.specs.Trees as trees
use Rattle.rack.specs.Check as today
use Rattle.orders.specs.Racks as racks
use Rattle.rack.specs.Promises as rack
use Rattle.rack.specs.Records as records
use Rattle.planner.proofs.Checks.{walk_same, value_of}
use Rattle.planner.proofs.Held.{bound_is}
use Rattle.planner.proofs.Lent.{answers_by}

-- checks that are the same kind by kind
each_same : (f g : ℕ → List Check) (i n : ℕ) → ((j : ℕ) → i ≤ j → j < i + n → f j ≡ g j) → each_kind f i n ≡ each_kind g i n
unfolding each_kind
each_same f g i zero h = refl
each_same f g i (suc n) h = ap₂ ◌++◌ (h i (omega arith) (omega arith)) (each_same f g (suc i) n (λ j a b. h j (omega arith) (omega arith)))

-- the same verdict, and the same profits where it passes
abbrev Same : Checked × List ℕ → Answer (List ℕ) → Type 0
Same w a = (w.0 ≡ verdict_of a) × ForOk a (λ ps. w.1 ≡ ps)

same_by : (v : Checked) (ps : List ℕ) (w : Checked × List ℕ) (a : Answer (List ℕ)) → Same w a → Same (by_check v w (λ x. (Err x, ps))) (proceed v a)
same_by (Ok _) ps w a h = h
same_by (Err x) ps w a h = (refl, λ qs e. cc)

module _ (J : Job) (few : J.count ≤ 64) (k : Rack) (same : length k.kinds ≡ length k.operands) where
  abbrev nodes : ℕ → List (ℕ × ℕ)
  nodes n = drop n (nodes_in k.kinds k.operands)

  abbrev own_job : ℕ → Job
  own_job i = plated J (plate_at k i)

  -- 29 of a tree
  totals_is : (i : ℕ) (totals : List ℕ) (sums : ℕ → ℕ) (t : Tree Piece) → ((j : ℕ) → j < J.count → get_or totals j 0 ≡ sums j) → today.total_checks J i totals (entries (λ j. copies_of j t) J.count) ≡ total_checks J i sums t
  totals_is i totals sums t h = each_same _ _ 0 J.count (λ j a b. ap (λ n. (ltb (J.demand j) n, RackDemand i) ∷ []) (ap₂ ◌+◌ (h j (omega arith)) (entries_in (λ j. copies_of j t) J.count j few (omega arith))))

  walks : (m i n : ℕ) (totals : List ℕ) (sums : ℕ → ℕ) (profits : List ℕ) → length totals ≡ 64 → ((j : ℕ) → j < J.count → get_or totals j 0 ≡ sums j)
      → Same (rack_walk J k i m n sums profits) (today.rack_walk J (plate_at k) k.kinds k.operands i m n totals profits)
  unfolding rack_walk today.rack_walk
  walks zero i n totals sums profits l h = go (first_refusal (left_check (length k.kinds) n ∷ []))
    where
      go : (v : Checked) → Same (v, profits) (answer_by v profits)
      go (Ok _) = (refl, λ ps e. cc)
      go (Err x) = (refl, λ ps e. cc)
  walks (suc m) i n totals sums profits l h = go wa refl (walks m)
    where
      wa : Answer TreeWalk
      wa = today.walked_at (own_job i) k.kinds k.operands n

      w : Checked × ℕ
      w = walked (own_job i) n (nodes n)

      t : Tree Piece
      t = first_tree (trees_in (take (w.1 - n) (nodes n)))

      own : Answer TreeWalk
      own = today.own_answer (own_job i) k.kinds k.operands n

      s : (w.0 ≡ verdict_of wa) × ForOk wa (λ a. w.1 ≡ a.past)
      s = walk_same (own_job i) n (nodes n) ((own_job i).plate ∷ []) _

      -- what either makes of a verdict and of what follows
      ours : Checked → ℕ → Tree Piece → Checked × List ℕ
      ours v past u = by_check (next v (next (first_refusal (tree_checks n u)) (first_refusal (total_checks J i sums u)))) (rack_walk J k (i + 1) m past (λ j. sums j + copies_of j u) (set profits i (profit J u))) (λ x. (Err x, profits))

      theirs : Answer TreeWalk → Answer (List ℕ)
      theirs a = today.and_then a (λ a. proceed (first_refusal (today.total_checks J i totals a.report.copies))
          (today.rack_walk J (plate_at k) k.kinds k.operands (i + 1) m a.past (today.with_own totals a.report.copies J.count) (set profits i a.report.profit)))

      -- what a tree of its own answers by the verdict on its idle cuts
      told : Tree Piece → Checked → Answer TreeWalk
      told u v = answer_by v (record { report = trees.tree_report (own_job i) u; past = n + node_count u })

      go : (a : Answer TreeWalk) → wa ≡ a → ((i n : ℕ) (totals : List ℕ) (sums : ℕ → ℕ) (profits : List ℕ) → length totals ≡ 64 → ((j : ℕ) → j < J.count → get_or totals j 0 ≡ sums j)
          → Same (rack_walk J k i m n sums profits) (today.rack_walk J (plate_at k) k.kinds k.operands i m n totals profits)) → Same (ours w.0 w.1 t) (theirs own)
      go (Err x) e ih = subst (λ a. Same (ours w.0 w.1 t) (theirs a)) (sym (own_stops (own_job i) k.kinds k.operands n refl e))
          (subst (λ v. Same (ours v w.1 t) (theirs (Err x))) (sym (s.0 ∙ ap verdict_of e)) (refl, λ ps e. cc))
      go (Ok a) e ih =
          let d = tree_drawn (own_job i) few n (nodes n) e in
          let u = d.tree in
          let past : w.1 ≡ n + node_count u = s.1 _ d.answer in
          let few_nodes : w.1 - n ≡ node_count u = omega (arith, past) in
          let drawn : t ≡ u = ap (λ ns. first_tree (trees_in ns)) (ap (λ c. take c (nodes n)) few_nodes ∙ (d.nodes ∙ sym (append-nil (written u)))) ∙ ap first_tree (trees_tree u []) in
          let all : nodes n ≡ written u ++ drop (node_count u) (nodes n) = sym (take-append-drop (node_count u) (nodes n)) ∙ ap (λ l. l ++ drop (node_count u) (nodes n)) d.nodes in
          let mine = own_tree J few (plate_at k) k.kinds k.operands same (own_job i) few u n (drop (node_count u) (nodes n)) d.on_plate d.keeps all in
          subst (λ a. Same (ours w.0 w.1 t) (theirs a)) (sym mine)
          (subst (λ v. Same (ours v w.1 t) (theirs (told u (first_refusal (tree_checks n u))))) (sym (s.0 ∙ ap verdict_of e)) (subst (λ q. Same (ours passed q t) (theirs (told u (first_refusal (tree_checks n u))))) (sym past) (subst (λ z. Same (ours passed (n + node_count u) z) (theirs (told u (first_refusal (tree_checks n u))))) (sym drawn) (idle u (first_refusal (tree_checks n u)) refl ih))))
        where
          idle : (u : Tree Piece) (v : Checked) → first_refusal (tree_checks n u) ≡ v → ((i n : ℕ) (totals : List ℕ) (sums : ℕ → ℕ) (profits : List ℕ) → length totals ≡ 64 → ((j : ℕ) → j < J.count → get_or totals j 0 ≡ sums j)
              → Same (rack_walk J k i m n sums profits) (today.rack_walk J (plate_at k) k.kinds k.operands i m n totals profits))
              → Same (ours passed (n + node_count u) u) (theirs (told u (first_refusal (tree_checks n u))))
          idle u (Err x) e ih = subst (λ v. Same (by_check (next v (first_refusal (total_checks J i sums u))) (rack_walk J k (i + 1) m (n + node_count u) (λ j. sums j + copies_of j u) (set profits i (profit J u))) (λ x. (Err x, profits)))
              (theirs (told u v))) (sym e) (refl, λ ps e. cc)
          idle u (Ok _) e ih = subst (λ v. Same (by_check (next v (first_refusal (total_checks J i sums u))) (rack_walk J k (i + 1) m (n + node_count u) (λ j. sums j + copies_of j u) (set profits i (profit J u))) (λ x. (Err x, profits)))
              (theirs (told u v))) (sym e)
              (subst (λ c. Same (by_check (first_refusal (total_checks J i sums u)) (rack_walk J k (i + 1) m (n + node_count u) (λ j. sums j + copies_of j u) (set profits i (profit J u))) (λ x. (Err x, profits)))
              (proceed (first_refusal c) (today.rack_walk J (plate_at k) k.kinds k.operands (i + 1) m (n + node_count u) (today.with_own totals (entries (λ j. copies_of j u) J.count) J.count) (set profits i (profit J u))))) (sym (totals_is i totals sums u h))
              (same_by (first_refusal (total_checks J i sums u)) profits _ _ (ih (i + 1) (n + node_count u) (today.with_own totals (entries (λ j. copies_of j u) J.count) J.count) (λ j. sums j + copies_of j u) (set profits i (profit J u))
              (with_own_length totals (entries (λ j. copies_of j u) J.count) J.count ∙ l)
              (λ j b. with_own_in totals (entries (λ j. copies_of j u) J.count) J.count j b (omega (arith, few, l)) ∙ ap₂ ◌+◌ (h j b) (entries_in (λ j. copies_of j u) J.count j few b)))))

module _ (choices : Choices) (k : Rack) where
  -- the checks before any plan's
  pub before_is : (z : List ℕ) → first_refusal (today.rack_checks z choices k.lengths k.widths k.kinds k.operands) ≡ first_refusal (rack_checks z choices k)
  unfolding rack_checks today.rack_checks
  before_is z = refl

  module _ (z : List ℕ) (r : Answer (List ℕ)) (e : r ≡ today.rack_answer z choices k.lengths k.widths k.kinds k.operands) where
    abbrev plans : Answer (List ℕ)
    plans = today.plans_answer (block_job z choices) (plate_at k) (plates k) k.kinds k.operands

    abbrev before : Checked
    before = first_refusal (rack_checks z choices k)

    both : before ≡ passed → Same (rack_walked z choices k) plans
    unfolding today.plans_answer
    both p =
        let h = before_passed z choices k.lengths k.widths k.kinds k.operands (before_is z ∙ p) in
        let f = order_few z choices h.1 in
        walks (block_job z choices) f k (whole_counts k.kinds k.operands h.3).0 (plates k) 0 0 (replicate 64 0) (λ j. 0) (replicate 16 0) empty_length (λ j l. empty_copies j (omega (arith, l, f)))

    said : (v : Checked) (a : Answer (List ℕ)) → verdict_of (proceed v a) ≡ next v (verdict_of a)
    said (Ok _) a = refl
    said (Err x) a = refl

    answered : r ≡ proceed before plans
    answered = e ∙ ap (λ v. proceed v plans) (before_is z)

    verdict_is : verdict_of r ≡ rack_verdict z choices k
    verdict_is = ap verdict_of answered ∙ (said before plans ∙ go before refl)
      where
        go : (v : Checked) → before ≡ v → next v (verdict_of plans) ≡ next v (rack_walked z choices k).0
        go (Ok _) h = sym (both h).0
        go (Err x) h = refl

    profits_are : {ps : List ℕ} → r ≡ Ok ps → ps ≡ (rack_walked z choices k).1
    profits_are {ps} p =
        let v = (passed_both before (rack_walked z choices k).0 (sym verdict_is ∙ ap verdict_of p)).0 in
        sym ((both v).1 ps (sym (answered ∙ ap (λ v. proceed v plans) v) ∙ p))

    answer_is : r ≡ answer_by (rack_verdict z choices k) (rack_walked z choices k).1
    answer_is = go r refl
      where
        go : (a : Answer (List ℕ)) → r ≡ a → r ≡ answer_by (rack_verdict z choices k) (rack_walked z choices k).1
        go (Ok ps) h = h ∙ (ap Ok (profits_are h) ∙ sym (ap (λ v. answer_by v (rack_walked z choices k).1) (sym verdict_is ∙ ap verdict_of h)))
        go (Err x) h = h ∙ sym (ap (λ v. answer_by v (rack_walked z choices k).1) (sym verdict_is ∙ ap verdict_of h))

-- the profits of an answer that has them
paid_of : {r : Answer (List ℕ)} {ps : List ℕ} → r ≡ Ok ps → result_unwrap_or r [] ≡ ps
paid_of e = ap (λ a. result_unwrap_or a []) e

module _ (s : List ℕ) (choices : Choices) (k : Rack) (r : Answer (List ℕ)) (p : rack.PlatesPromises s choices k.lengths k.widths k.kinds k.operands r) where
  abbrev J : Job
  J = block_job s choices

  bounds_are : (weight : ℕ → ℕ → ℕ) → racks.rack_bound J (plates k) (plate_at k) weight ≡ sum (plates k) (λ q. bound_of (plated J (plate_at k q)) (weight q))
  bounds_are weight = λ i. sum (plates k) (λ q. sym (bound_is (plated J (plate_at k q)) (weight q)) i)

  up_to : (i : ℕ) (tree : ℕ → Tree Piece) → rack.RackUpTo J i (plate_at k) tree k.kinds k.operands → (more : List ℕ × List ℕ) × PlansOf J k i (suc i) tree more
  up_to i tree u = ((u.kinds_begin.0, u.operands_begin.0), record { on_plates = u.on_plates; keeps = u.keeps; shares = u.shares; idle_free = u.idle_free; kinds_are = u.kinds_begin.1; operands_are = u.operands_begin.1 })

  back : (i : ℕ) (tree : ℕ → Tree Piece) (more : List ℕ × List ℕ) → PlansOf J k i (suc i) tree more → rack.RackUpTo J i (plate_at k) tree k.kinds k.operands
  back i tree more u = record { on_plates = u.on_plates; keeps = u.keeps; shares = u.shares; idle_free = u.idle_free; kinds_begin = (more.0, u.kinds_are); operands_begin = (more.1, u.operands_are) }

  pub plates_new : PlatesPromises s choices k r
  plates_new = (
    answers_by profits_values (rack_verdict s choices k) (rack_walked s choices k).1 r (answer_is choices k s r p.answers),
    record {
      passes = λ b tree t. c.passes (before_is choices k s ∙ b) tree (record { on_plates = t.on_plates; keeps = t.keeps; shares = t.shares; idle_free = t.idle_free; kinds_are = t.kinds_are ∙ append-nil _; operands_are = t.operands_are ∙ append-nil _ });
      before = λ v. sym (before_is choices k s) ∙ c.before v;
      trees = λ v. (let x = value_of r v in let t = c.trees x.0 x.1 in (t.0, record { on_plates = t.1.on_plates; keeps = t.1.keeps; shares = t.1.shares; idle_free = t.1.idle_free; kinds_are = t.1.kinds_are ∙ sym (append-nil _); operands_are = t.1.operands_are ∙ sym (append-nil _) }, λ q l. ap (λ ns. get_or ns q 0) (paid_of x.1) ∙ t.2 q l));
      idle = λ n. (
        (λ v. (let t = (c.idle n).0 v in let u = up_to t.1.1 t.1.0 t.1.3 in (sym (before_is choices k s) ∙ t.0, (t.1.0, t.1.1, u.0, t.1.2, u.1, t.1.4)))),
        (λ t. (c.idle n).1 (before_is choices k s ∙ t.0, (t.1.0, t.1.1, t.1.3, back t.1.1 t.1.0 t.1.2 t.1.4, t.1.5))),
      );
      shared = λ i. (
        (λ v. (let t = (c.shared i).0 v in let u = up_to i t.1.0 t.1.2 in (sym (before_is choices k s) ∙ t.0, (t.1.0, u.0, t.1.1, u.1, t.1.3, t.1.4)))),
        (λ t. (c.shared i).1 (before_is choices k s ∙ t.0, (t.1.0, t.1.2, back i t.1.0 t.1.1 t.1.3, t.1.4, t.1.5))),
      );
      unread = λ z o. (verdict_is choices k z r (c.unread z o), λ v. (let x = value_of r v in sym (paid_of x.1 ∙ profits_are choices k z r (c.unread z o) x.1)));
      other_plate = c.other_plate;
      any = λ b none. c.any b (λ q l t g d. none q l t g tt d);
      any_finer = λ b none. c.any_finer b (λ q l m o t g d. none q l m o t g tt d);
      bounds = λ o weight tree on h. rw⁻¹ (bounds_are weight) (c.bounds o weight tree on h);
      finer = λ o weight m l tree on h. rw⁻¹ (bounds_are weight) (c.finer o weight m l tree on h);
      earned = λ v weight. (let x = value_of r v in subst (λ ns. sum (plates k) (λ q. get_or ns q 0) ≤ sum (plates k) (λ q. bound_of (plated J (plate_at k q)) (weight q))) (sym (paid_of x.1)) (rw⁻¹ (bounds_are weight) (c.earned x.0 x.1 weight)));
    },
  )
    where
      c : rack.RackChecks s choices k.lengths k.widths k.kinds k.operands r
      c = p.checks

-- what a rack's check means is the same for an equal verdict, and profits that are equal where it passes
pub retold : (s : List ℕ) (choices : Choices) (k : Rack) {v w : Checked} {ns ms : List ℕ} → w ≡ v → (w ≡ passed → ns ≡ ms) → RackChecks s choices k v ns → RackChecks s choices k w ms
retold s choices k {v} {w} {ns} {ms} e f c = record {
  passes = λ b tree t. e ∙ c.passes b tree t;
  before = λ h. c.before (sym e ∙ h);
  trees = λ h. (let t = c.trees (sym e ∙ h) in (t.0, t.1, λ q l. ap (λ ns. get_or ns q 0) (sym (f h)) ∙ t.2 q l));
  idle = λ n. ((λ h. (c.idle n).0 (sym e ∙ h)), (λ t. e ∙ (c.idle n).1 t));
  shared = λ i. ((λ h. (c.shared i).0 (sym e ∙ h)), (λ t. e ∙ (c.shared i).1 t));
  unread = λ z o. (let u = c.unread z o in (e ∙ u.0, λ h. u.1 (sym e ∙ h) ∙ f h));
  other_plate = c.other_plate;
  any = c.any;
  any_finer = c.any_finer;
  bounds = c.bounds;
  finer = c.finer;
  earned = λ h weight. subst (λ ns. sum (plates k) (λ q. get_or ns q 0) ≤ sum (plates k) (λ q. bound_of (plated (block_job s choices) (plate_at k q)) (weight q))) (f h) (c.earned (sym e ∙ h) weight);
}

-- what holds of a rack whatever is lent for its check
pub walked_checks : (s : List ℕ) (choices : Choices) (k : Rack) → RackChecks s choices k (rack_verdict s choices k) (rack_walked s choices k).1
walked_checks s choices k = retold s choices k (sym (verdict_is choices k s told refl)) (λ h. (let x = value_of told (verdict_is choices k s told refl ∙ h) in paid_of x.1 ∙ profits_are choices k s told refl x.1)) (plates_new s choices k told (plates_met s choices k.lengths k.widths k.kinds k.operands refl)).1
  where
    told : Answer (List ℕ)
    told = today.rack_answer s choices k.lengths k.widths k.kinds k.operands

paid_size : (ps : List Plate) (ns : List ℕ) → length (paid ps ns) ≡ length ps
paid_size [] ns = refl
paid_size (p ∷ ps) ns = ap suc (paid_size ps (drop 1 ns))

later : (ns : List ℕ) (i : ℕ) → get_or (drop 1 ns) i 0 ≡ get_or ns (suc i) 0
later [] i = refl
later (n ∷ ns) i = refl

paid_entry : (ps : List Plate) (ns : List ℕ) (i : ℕ) → i < length ps → get_or (paid ps ns) i records.blank ≡ records.with_profit (get_or ps i records.blank) (get_or ns i 0)
paid_entry [] ns i l = absurd (omega arith)
paid_entry (p ∷ ps) ns zero l = refl
paid_entry (p ∷ ps) ns (suc i) l = paid_entry ps (drop 1 ns) i (omega arith) ∙ ap (records.with_profit (get_or ps i records.blank)) (later ns i)

module _ (s : List ℕ) (choices : Choices) (old new : List Plate) (kinds operands : List ℕ) (v : Checked) (p : records.RackPromises s choices old new kinds operands v) where
  abbrev mine : Rack
  mine = rack_of old kinds operands

  abbrev told : Answer (List ℕ)
  told = records.records_answer s choices old kinds operands

  met : PlatesPromises s choices mine told
  met = plates_new s choices mine told (plates_met s choices mine.lengths mine.widths kinds operands refl)

  verdict_now : v ≡ rack_verdict s choices mine
  verdict_now = p.answers ∙ verdict_is choices mine s told refl

  value : v ≡ passed → (ps : List ℕ) × (told ≡ Ok ps)
  value h = value_of told (sym p.answers ∙ h)

  profits_now : v ≡ passed → result_unwrap_or told [] ≡ (rack_walked s choices mine).1
  profits_now h = let x = value h in paid_of x.1 ∙ profits_are choices mine s told refl x.1

  left : (w : Checked) → v ≡ w → new ≡ by_check w (paid old (rack_walked s choices mine).1) (λ x. old)
  left (Err x) h = p.unchanged x h
  left (Ok _) h = ext_get_or records.blank new (paid old (rack_walked s choices mine).1) (p.size ∙ sym (paid_size old (rack_walked s choices mine).1))
      (λ q l. (let x = value h in p.written x.0 x.1 q (omega (arith, l, p.size)) ∙ ap (λ ns. records.with_profit (get_or old q records.blank) (get_or ns q 0)) (profits_are choices mine s told refl x.1)) ∙ sym (paid_entry old (rack_walked s choices mine).1 q (omega (arith, l, p.size))))

  pub rack_new : RackPromises s choices old new kinds operands v
  rack_new = record {
    answers = verdict_now;
    records = left v refl;
    checks = retold s choices mine p.answers profits_now met.1;
  }
