-- A plan passes exactly when its arrays are the preorder of a guillotine tree on the plate that keeps every demand, has at most 4,095 nodes
-- and no idle cut; it then reports that tree's own profit, copies and areas.
use Rattle.plan.proofs.Prelude.{◌≡◌, ◌∙◌, refl, sym, ap, ap₂, List, [], ◌∷◌, ◌++◌, append-nil, ℕ, ◌+◌, ◌-◌, ◌≤◌, ◌<◌, zero-add, dec_lt, arith, ne_eqb, length, get_or, length-replicate, get_or-replicate, ext_get_or, Length, Width, Tree, waste, piece, cut, total, IdleFree, preorder, node_count, Job, GuillotineTree, OnPlate, copies_of, lie_kind, areas_sum, next, first_refusal, entries, passed_both, entries_length, entries_in, entries_past, idle_checks, tree_checks, idle_tree, passed_free, free_passed, Report, plan_checks, walk_answer, plan_answer, walk, nodes_in, proceed, empty_report, DrawnAs, tree_report, Reports, ChecksPlan, verdict_of, passed, Ok, Err, Checked, Answer}
use Rattle.cutting.specs.Pieces as laid
use Rattle.plan.proofs.Walk.{nodes_length}
use Rattle.plan.proofs.Whole.{whole_counts, walks_on, verdict_is}
use Rattle.plan.proofs.Counts.{added, added_profit, added_pieces, added_waste, added_trim, added_sawdust, added_length, added_copies}
use Rattle.plan.proofs.Preorder.{written, count_written, arrays_written, kinds_length, operands_length, written_kinds, written_operands}
use Rattle.plan.proofs.Trees.{tree_walks}
use Rattle.plan.proofs.Parse.{no_pass, proceed_passed, proceed_value, Kept, parse}

-- a tree has no copy of a kind past the job's
none_past : (J : Job) (t : Tree laid.Piece) (l w : ℕ) → GuillotineTree J l w t → (i : ℕ) → J.count ≤ i → copies_of i t ≡ 0
unfolding total
none_past J waste l w g i h = refl
none_past J (piece p) l w g i h = simp (ne_eqb (laid.kind p) i (λ e. omega (arith, e, lie_kind J p g.0)))
none_past J (cut Length x a b) l w g i h = omega (arith, none_past J a x w g.2 i h, none_past J b (l - x - J.kerf) w g.3 i h)
none_past J (cut Width x a b) l w g i h = omega (arith, none_past J a l x g.2 i h, none_past J b l (w - x - J.kerf) g.3 i h)

-- where every rectangle is filled, the walk passes only at the end of the nodes
pub ended : (J : Job) (k : ℕ) (left : List (ℕ × ℕ)) (s : Report) → verdict_of (walk J k left [] s) ≡ passed → (left ≡ []) × (walk J k left [] s ≡ Ok s)
unfolding walk
ended J k [] s p = (refl, refl)
ended J k (n ∷ ns) s p = no_pass p

-- a tree has a node
some_node : (t : Tree laid.Piece) → 1 ≤ node_count t
unfolding node_count preorder
some_node waste = omega arith
some_node (piece (laid.upright i)) = omega arith
some_node (piece (laid.turned i)) = omega arith
some_node (cut d x a b) = omega arith

same_report : {p p' q q' w w' m m' d d' : ℕ} {c c' : List ℕ} → p ≡ p' → c ≡ c' → q ≡ q' → w ≡ w' → m ≡ m' → d ≡ d'
    → ◌≡◌ {A = Report} (record { profit = p; copies = c; pieces = q; waste = w; trim = m; sawdust = d }) (record { profit = p'; copies = c'; pieces = q'; waste = w'; trim = m'; sawdust = d' })
same_report a b c d e f = cc

-- two answers with one value
pub same_value : {s z : Report} → ◌≡◌ {A = Answer Report} (Ok s) (Ok z) → s ≡ z
same_value e = cc

-- the empty report has 64 entries, all 0
pub empty_length : length empty_report.copies ≡ 64
empty_length = length-replicate {A = ℕ} 64 0

pub empty_copies : (i : ℕ) → i < 64 → get_or empty_report.copies i 0 ≡ 0
empty_copies i h = get_or-replicate {A = ℕ} 64 i 0 0 h

module _ (J : Job) (few : J.count ≤ 64) where
  abbrev pub whole : Tree laid.Piece → Report
  whole t = added J t J.plate empty_report

  pub whole_copies : (t : Tree laid.Piece) (i : ℕ) → i < 64 → get_or (whole t).copies i 0 ≡ copies_of i t
  whole_copies t i h = added_copies J t J.plate empty_report i (omega (arith, h, empty_length)) ∙ omega (arith, empty_copies i h)

  -- what a whole tree adds to the empty report is its own
  pub whole_own : (t : Tree laid.Piece) → OnPlate J t → whole t ≡ tree_report J t
  whole_own t g =
      same_report (added_profit J t J.plate empty_report ∙ zero-add _) copies (added_pieces J t J.plate empty_report ∙ zero-add _) (added_waste J t J.plate empty_report ∙ zero-add _) (added_trim J t J.plate empty_report ∙ zero-add _)
      (added_sawdust J t J.plate empty_report ∙ zero-add _)
    where
      at : (i : ℕ) → i < 64 → Dec (i < J.count) → copies_of i t ≡ get_or (entries (λ i. copies_of i t) J.count) i 0
      at i h (yes l) = sym (entries_in (λ i. copies_of i t) J.count i few l)
      at i h (no l) = none_past J t J.plate.0 J.plate.1 g i (omega arith) ∙ sym (entries_past (λ i. copies_of i t) J.count i (omega arith))

      size : length (whole t).copies ≡ 64
      size = added_length J t J.plate empty_report ∙ empty_length

      copies : (whole t).copies ≡ entries (λ i. copies_of i t) J.count
      copies = ext_get_or 0 _ _ (size ∙ sym (entries_length (λ i. copies_of i t) J.count))
          (λ i h. (let k : i < 64 = omega (arith, size, h) in whole_copies t i k ∙ at i k (dec_lt i J.count)))

  module _ (kinds operands : List ℕ) where
    -- a tree's arrays pass the walk
    passes : (t : Tree laid.Piece) → DrawnAs J t kinds operands → walk_answer J kinds operands ≡ Ok (whole t)
    unfolding walk
    passes t h =
        let a = ap length h.kinds_are ∙ kinds_length t in
        let b = ap length h.operands_are ∙ operands_length t in
        let n = some_node t in
        walks_on J kinds operands (a ∙ sym b) (omega (arith, a, n)) (omega (arith, a, h.nodes))
        ∙ ap (λ ns. walk J 0 ns (J.plate ∷ []) empty_report) (ap₂ nodes_in h.kinds_are h.operands_are ∙ arrays_written t ∙ sym (append-nil (written t)))
        ∙ tree_walks J few t 0 [] J.plate [] empty_report h.on_plate (empty_length, λ i l. omega (arith, empty_copies i (omega (arith, l, few)), h.demands i l))

    -- arrays that pass it are a tree's
    parsed : length kinds ≡ length operands → 1 ≤ length kinds → length kinds ≤ 4095 → verdict_of (walk_answer J kinds operands) ≡ passed → (t : Tree laid.Piece) × DrawnAs J t kinds operands × (walk_answer J kinds operands ≡ Ok (whole t))
    parsed same some most p =
        let w = walks_on J kinds operands same some most in
        let kept : Kept J few empty_report = (empty_length, λ i l. omega (arith, empty_copies i (omega (arith, l, few)))) in
        let u = parse J few (length (nodes_in kinds operands)) 0 (nodes_in kinds operands) J.plate [] empty_report (omega arith) kept (ap verdict_of (sym w) ∙ p) in
        let z = ended J (0 + node_count u.tree) u.left (whole u.tree) (ap verdict_of (sym (w ∙ u.goes)) ∙ p) in
        let e : nodes_in kinds operands ≡ written u.tree = u.nodes ∙ ap (λ l. written u.tree ++ l) z.0 ∙ append-nil (written u.tree) in (
          u.tree,
          record {
            on_plate = u.on;
            demands = λ i l. (let c = whole_copies u.tree i (omega (arith, l, few)) in omega (arith, c, u.kept.1 i l));
            nodes = omega (arith, most, nodes_length kinds operands same, ap length e, count_written u.tree);
            kinds_are = written_kinds kinds operands u.tree same e;
            operands_are = written_operands kinds operands u.tree same e;
          },
          w ∙ u.goes ∙ z.1,
        )

-- arrays that pass the walk have one length, from 1 to 4,095
pub walked_counts : (J : Job) (kinds operands : List ℕ) → verdict_of (walk_answer J kinds operands) ≡ passed → (length kinds ≡ length operands) × (1 ≤ length kinds) × (length kinds ≤ 4095)
unfolding walk_answer
walked_counts J kinds operands p = whole_counts kinds operands (proceed_passed (first_refusal (plan_checks kinds operands)) (walk J 0 (nodes_in kinds operands) (J.plate ∷ []) empty_report) p).0

-- they are drawn as a tree, and report it
drawn : (J : Job) → J.count ≤ 64 → (kinds operands : List ℕ) {s : Report} → walk_answer J kinds operands ≡ Ok s → (t : Tree laid.Piece) × DrawnAs J t kinds operands × Reports J t s
drawn J few kinds operands p =
    let g = walked_counts J kinds operands (ap verdict_of p) in
    let t = parsed J few kinds operands g.0 g.1 g.2 (ap verdict_of p) in
    let r = same_value (sym p ∙ t.2) ∙ whole_own J few t.0 t.1.on_plate in
    (t.0, t.1, record { own = r; areas = ap (λ (s : Report). s.pieces + s.waste + s.trim + s.sawdust) r ∙ areas_sum J t.0 J.plate.0 J.plate.1 t.1.on_plate })

module _ (J : Job) (few : J.count ≤ 64) (kinds operands : List ℕ) where
  abbrev walked : Answer Report
  walked = walk_answer J kinds operands

  -- the verdict of check 26
  abbrev idleness : Checked
  idleness = first_refusal (idle_checks 0 kinds)

  -- is that of the tree
  idle_drawn : (t : Tree laid.Piece) → DrawnAs J t kinds operands → idleness ≡ first_refusal (tree_checks 0 t)
  idle_drawn t d = ap first_refusal (ap (idle_checks 0) d.kinds_are ∙ idle_tree t 0)

  -- and decides for every tree
  judged : (t : Tree laid.Piece) → DrawnAs J t kinds operands → verdict_of (plan_answer J kinds operands) ≡ first_refusal (tree_checks 0 t)
  judged t d = verdict_is J kinds operands ∙ ap (λ (a : Answer Report). next (verdict_of a) idleness) (passes J few kinds operands t d) ∙ idle_drawn t d

  -- where no tree that the arrays draw has an idle cut, the answer is the walk's
  unidle : ((t : Tree laid.Piece) → DrawnAs J t kinds operands → IdleFree t) → plan_answer J kinds operands ≡ walked
  unfolding plan_answer
  unidle free = go walked refl
    where
      go : (a : Answer Report) → walked ≡ a → plan_answer J kinds operands ≡ walked
      go (Ok s) e = let t = drawn J few kinds operands e in ap (λ v. proceed v walked) (ap₂ next (ap verdict_of e) (idle_drawn t.0 t.1 ∙ free_passed t.0 0 (free t.0 t.1)))
      go (Err r) e = ap (λ v. proceed (next v idleness) walked) (ap verdict_of e) ∙ sym e

  -- the whole check passes exactly for the plans of trees, and reports the tree
  pub plans_checked : ChecksPlan Unit J kinds operands walked (plan_answer J kinds operands)
  unfolding plan_answer
  plans_checked =
      record {
        before = λ p. tt;
        passes = λ u t h. judged t h.drawn ∙ free_passed t 0 h.idle_free;
        tree = λ s p. (let w = proceed_value (next (verdict_of walked) idleness) walked p in
            let v = passed_both (verdict_of walked) idleness w.0 in
            let t = drawn J few kinds operands w.1 in
            (t.0, record { drawn = t.1; idle_free = passed_free t.0 0 (sym (idle_drawn t.0 t.1) ∙ v.1) }, t.2));
        idle = λ u t d. judged t d;
        old_table = unidle;
      }

-- a check before the others
pub checked_after : {J : Job} {kinds operands : List ℕ} {old a : Answer Report} {Before All : Type 0} (v : Checked) → (v ≡ passed → ChecksPlan Before J kinds operands old a)
    → (All → (v ≡ passed) × Before) → (v ≡ passed → Before → All) → ChecksPlan All J kinds operands (proceed v old) (proceed v a)
checked_after (Ok _) f apart both =
    let c = f refl in
    record { passes = λ b. c.passes (apart b).1; before = λ p. both refl (c.before p); tree = c.tree; idle = λ b. c.idle (apart b).1; old_table = c.old_table }
checked_after (Err r) f apart both =
    record { passes = λ b t h. no_pass (apart b).0; before = λ p. no_pass p; tree = λ s p. no_pass (ap verdict_of p); idle = λ b t d. no_pass (apart b).0; old_table = λ h. refl }
