-- The neat plan of a plan that passes: what holds of it, what the scan writes, and the answers of the call one by one.
use Rattle.neat.proofs.Prelude.{◌≡◌, refl, sym, ◌∙◌, ap, subst, List, [], ◌∷◌, ◌++◌, map, append-nil, ℕ, zero, suc, ◌≤◌, ◌<◌, arith, length, set, lt-ltb, le-ltb, most_kinds, most_true_kerf, over, Rect, Tree, waste, piece_count, ◌⊑◌, lying, preorder, kind_of, operand_of, node_count, kinds_of, operands_of, Job, laid, OnPlate, copies_of, InRange, used_of, neat_of, Lies, range_solid, every_map, plate_lies, neat_total, neat_waste, neat_stages, neat_idle, neat_again, neat_count, neat_on, used_on, used_none, next, first_refusal, Refusal, PlanLong, Choices, JobRecord, read_of, job_of, block_job, nodes_in, plan_answer, Walkable, trees_in, tree_in, DrawnAs, PlanOf, kinds_length, operands_length, plans_checked, nodes_are, trees_are, drawn_is, plan_is, neat_tree, output_check, neat_checked, neat_verdict, block_neat, NeatPlan, NeatJudged, NeatPromises, unless_none, neat_nodes as nodes_written, pieces_in, nodes_for, Fair, Known, Within, AllMake, Scannable, Writable, Neatened, Ok, Err, passed, Checked, Answer, IsErrAnd, outcome_of, verdict_of, handed, neat_values, said_by}
use Rattle.cutting.specs.Pieces as laid
use Rattle.cutting.proofs.Neat.{neat_nodes}
use Rattle.job.proofs.Read as read
use Rattle.neat.proofs.Trees.{pieces_tree, Shared, known_parts, within_parts, tree_makes}

-- the number of nodes by the number of pieces
module _ (J : Job) (t : Tree laid.Piece) where
  some_pieces : (n : ℕ) → piece_count t ≡ suc n → nodes_for (piece_count t) ≡ node_count (neat_of J t)
  some_pieces n e = let c = neat_count J t (omega (arith, e)) in ap nodes_for e ∙ omega (arith, c, e)

  no_piece : piece_count t ≡ 0 → nodes_for (piece_count t) ≡ node_count (neat_of J t)
  unfolding node_count preorder
  no_piece e = ap nodes_for e ∙ sym (ap node_count (neat_waste J.kerf (laid J) t e))

  by_pieces : nodes_for (piece_count t) ≡ node_count (neat_of J t)
  by_pieces = go (piece_count t) refl
    where
      go : (n : ℕ) → piece_count t ≡ n → nodes_for (piece_count t) ≡ node_count (neat_of J t)
      go zero e = no_piece e
      go (suc n) e = some_pieces n e

-- the pieces of a tree on a job's plate are known by other sizes, where those of its kinds are fair
piece_known : (M : Job) (size : ℕ → Rect) → M.count ≤ most_kinds → ((i : ℕ) → i < M.count → Fair (size i)) → (p : laid.Piece) → Lies M p → (laid.kind p < most_kinds) × Fair (lying size p)
piece_known M size few fair (laid.upright i) l = (omega (arith, l.0.0), fair i l.0.0)
piece_known M size few fair (laid.turned i) l = let f = fair i l.0.0 in (omega (arith, l.0.0), (f.1, f.0))

pub tree_known : (M : Job) (size : ℕ → Rect) → M.count ≤ most_kinds → ((i : ℕ) → i < M.count → Fair (size i)) → (t : Tree laid.Piece) → OnPlate M t → Known (lying size) t
tree_known M size few fair t on = every_map _ _ (piece_known M size few fair) t (plate_lies M t on)

-- arrays that a tree t of a job M draws, and a job J of as many kinds, by whose sizes it is neatened
module _ {M : Job} (J : Job) {kinds operands : List ℕ} {t : Tree laid.Piece} (drawn : DrawnAs M t kinds operands) where
  pieces_are : pieces_in kinds ≡ piece_count t
  unfolding pieces_in
  pieces_are = ap pieces_in (drawn.kinds_are ∙ sym (append-nil (kinds_of t))) ∙ pieces_tree t [] ∙ omega arith

  walkable : Walkable kinds operands
  walkable = (ap length drawn.kinds_are ∙ kinds_length t ∙ sym (operands_length t) ∙ sym (ap length drawn.operands_are), omega (arith, ap length drawn.kinds_are, kinds_length t, drawn.nodes))

  pub plan_most : length kinds ≤ 4095
  plan_most = walkable.1

  -- what the scan is given of them
  all_make : (Q : Tree laid.Piece → Type 0) → Shared Q → Q t → AllMake Q (nodes_in kinds operands)
  all_make Q parts h = subst (AllMake Q) (sym (nodes_are M kinds operands t drawn)) (tree_makes Q parts t [] h tt)

  pub scannable : J.kerf ≤ most_true_kerf → Known (laid J) t → Scannable J.kerf (laid J) kinds operands
  scannable k h = record { kerfs = k; walkable = walkable; one = omega (arith, ap length (trees_are M kinds operands t drawn)); known = all_make (Known (laid J)) (known_parts (laid J)) h }

  -- the nodes needed
  pub needed : {m n : ℕ} → m ≡ pieces_in kinds → n ≡ nodes_for m → n ≡ node_count (neat_of J t)
  needed e f = f ∙ ap nodes_for (e ∙ pieces_are) ∙ by_pieces J t

  -- where there is no piece, the neat plan is waste
  none_waste : {m : ℕ} → m ≡ pieces_in kinds → m ≡ 0 → neat_of J t ≡ waste
  none_waste e z = neat_waste J.kerf (laid J) t (sym (e ∙ pieces_are) ∙ z)

  pub none_used : {m : ℕ} → m ≡ pieces_in kinds → m ≡ 0 → used_of J t ≡ (0, 0)
  none_used e z = used_none J.kerf (laid J) t (sym (e ∙ pieces_are) ∙ z)

  pub waste_one : {m : ℕ} → m ≡ pieces_in kinds → m ≡ 0 → 1 ≡ node_count (neat_of J t)
  unfolding node_count preorder
  waste_one e z = sym (ap node_count (none_waste e z))

  pub waste_kinds : {m : ℕ} → m ≡ pieces_in kinds → m ≡ 0 → 0 ∷ [] ≡ kinds_of (neat_of J t)
  unfolding kinds_of preorder
  waste_kinds e z = sym (ap kinds_of (none_waste e z))

  pub waste_operands : {m : ℕ} → m ≡ pieces_in kinds → m ≡ 0 → 0 ∷ [] ≡ operands_of (neat_of J t)
  unfolding operands_of preorder
  waste_operands e z = sym (ap operands_of (none_waste e z))

  -- where there is one, the scan writes it
  module _ {m n : ℕ} (e : m ≡ pieces_in kinds) (z : m ≡ 0 → ⊥) (f : n ≡ nodes_for m) where
    all_written : nodes_written J.kerf (laid J) (trees_in (nodes_in kinds operands)) ≡ preorder (neat_of J t)
    unfolding nodes_written
    all_written = ap (nodes_written J.kerf (laid J)) (trees_are M kinds operands t drawn) ∙ go (piece_count t) refl
      where
        go : (i : ℕ) → piece_count t ≡ i → unless_none (piece_count t) (preorder (neat_of J t)) ++ [] ≡ preorder (neat_of J t)
        go zero q = absurd (z (e ∙ pieces_are ∙ q))
        go (suc i) q = ap (λ m. unless_none m (preorder (neat_of J t)) ++ []) q ∙ append-nil (preorder (neat_of J t))

    pub writable : J.kerf ≤ most_true_kerf → Known (laid J) t → Fair J.plate → used_of J t ⊑ J.plate
        → {old_kinds old_operands : List ℕ} → n ≤ length old_kinds → n ≤ length old_operands → Writable J.kerf (laid J) J.plate kinds operands old_kinds old_operands n
    unfolding node_count
    writable k h fair w r s =
        record {
          scannable = scannable k h;
          fair = fair;
          within = all_make (Within J.kerf (laid J) J.plate) (within_parts J.kerf (laid J) J.plate) w;
          counts = needed e f ∙ sym (ap length all_written);
          kinds_room = r;
          operands_room = s;
        }

    pub kinds_written : map (λ x. kind_of x) (nodes_written J.kerf (laid J) (trees_in (nodes_in kinds operands))) ≡ kinds_of (neat_of J t)
    unfolding kinds_of
    kinds_written = ap (map (λ x. kind_of x)) all_written

    pub operands_written : map (λ x. operand_of x) (nodes_written J.kerf (laid J) (trees_in (nodes_in kinds operands))) ≡ operands_of (neat_of J t)
    unfolding operands_of
    operands_written = ap (map (λ x. operand_of x)) all_written

-- an answer that passes has a value
value_of : {A : Type 0} (a : Answer A) → verdict_of a ≡ passed → (x : A) × (a ≡ Ok x)
value_of (Ok x) p = (x, refl)
value_of (Err r) p = cc

module _ (J : Job) (range : InRange J) (kinds operands : List ℕ) where
  module _ (p : verdict_of (plan_answer J kinds operands) ≡ passed) where
    abbrev t : Tree laid.Piece
    t = tree_in kinds operands

    is_plan : PlanOf J t kinds operands
    is_plan = plan_is J range.kinds.1 kinds operands (value_of (plan_answer J kinds operands) p).1

    pub drawn_by : DrawnAs J t kinds operands
    drawn_by = is_plan.drawn

    -- by its own sizes the plan lies within the plate
    pub own_writable : {m n : ℕ} → m ≡ pieces_in kinds → (m ≡ 0 → ⊥) → n ≡ nodes_for m → {old_kinds old_operands : List ℕ} → n ≤ length old_kinds → n ≤ length old_operands
        → Writable J.kerf (laid J) J.plate kinds operands old_kinds old_operands n
    own_writable e z f h i =
        let fair : (i : ℕ) → i < J.count → Fair (J.size i) = λ i l. (omega (arith, range.lengths i l), omega (arith, range.widths i l)) in
        writable J drawn_by e z f (omega (arith, range.kerfs)) (tree_known J J.size range.kinds.1 fair t drawn_by.on_plate) (omega (arith, range.plate_length), omega (arith, range.plate_width))
        (used_on J t J.plate.0 J.plate.1 drawn_by.on_plate) h i

    same_copies : (i : ℕ) → copies_of i (neat_of J t) ≡ copies_of i t
    same_copies i = neat_total J.kerf (laid J) _ t

    -- it is the plan of the neat tree
    neat_passes : PlanOf J (neat_of J t) (kinds_of (neat_of J t)) (operands_of (neat_of J t))
    neat_passes =
        record {
          drawn = record {
            on_plate = neat_on J (range_solid J range) t J.plate.0 J.plate.1 is_plan.drawn.on_plate;
            demands = λ i h. omega (arith, same_copies i, is_plan.drawn.demands i h);
            nodes = omega (arith, neat_nodes J t, is_plan.drawn.nodes);
            kinds_are = refl;
            operands_are = refl;
          };
          idle_free = neat_idle J.kerf (laid J) t;
        }

    -- the neat plan of a plan that passes
    pub neat_plan : NeatPlan J t kinds operands
    neat_plan =
        record {
          drawn = is_plan;
          only = λ u d. drawn_is J kinds operands u d;
          passes = neat_passes;
          checked = (plans_checked J range.kinds.1 (kinds_of (neat_of J t)) (operands_of (neat_of J t))).passes tt (neat_of J t) neat_passes;
          earns = neat_total J.kerf (laid J) _ t;
          copies = same_copies;
          no_more_nodes = neat_nodes J t;
          no_more_stages = neat_stages J.kerf (laid J) t;
          again = neat_again J.kerf (laid J) t;
          same_plan = ap (neat_of J) (sym (drawn_is J (kinds_of (neat_of J t)) (operands_of (neat_of J t)) (neat_of J t) neat_passes.drawn)) ∙ neat_again J.kerf (laid J) t;
        }

  -- the answers for a job that was read
  module _ (old_kinds old_operands : List ℕ) where
    abbrev v : Checked
    v = neat_checked J kinds operands old_kinds old_operands

    abbrev Says : List ℕ → List ℕ → Answer ℕ → Type 0
    Says new_kinds new_operands r = Neatened v (neat_tree J kinds operands) old_kinds old_operands new_kinds new_operands r

    says : {w : Checked} {new_kinds new_operands : List ℕ} {r : Answer ℕ} → v ≡ w → Neatened w (neat_tree J kinds operands) old_kinds old_operands new_kinds new_operands r → Says new_kinds new_operands r
    says {w} {new_kinds} {new_operands} {r} e h = subst (λ x. Neatened x (neat_tree J kinds operands) old_kinds old_operands new_kinds new_operands r) (sym e) h

    pub is_refused : {x : Refusal} {r : Answer ℕ} → plan_answer J kinds operands ≡ Err x → r ≡ Err x → Says old_kinds old_operands r
    is_refused {x} e f = says {w = Err x} (ap (λ a. next (verdict_of a) (first_refusal (output_check (neat_tree J kinds operands) (length old_kinds) (length old_operands) ∷ []))) e) (record { answers = f; memory = record { kinds = refl; operands = refl } })

    module _ (p : verdict_of (plan_answer J kinds operands) ≡ passed) where
      on_to : v ≡ first_refusal (output_check (neat_tree J kinds operands) (length old_kinds) (length old_operands) ∷ [])
      on_to = ap (λ y. next y (first_refusal (output_check (neat_tree J kinds operands) (length old_kinds) (length old_operands) ∷ []))) p

      short : {n : ℕ} → n ≡ node_count (neat_tree J kinds operands) → v ≡ Err (PlanLong (node_count (neat_tree J kinds operands))) → Says old_kinds old_operands (Err (PlanLong n))
      short e h = says h (record { answers = ap (λ i. Err (PlanLong i)) e; memory = record { kinds = refl; operands = refl } })

      pub kinds_short : {n : ℕ} → n ≡ node_count (neat_tree J kinds operands) → length old_kinds < n → Says old_kinds old_operands (Err (PlanLong n))
      unfolding first_refusal
      kinds_short e h = short e (on_to ∙ simp (lt-ltb (length old_kinds) (node_count (neat_tree J kinds operands)) (omega (arith, e, h))))

      pub operands_short : {n : ℕ} → n ≡ node_count (neat_tree J kinds operands) → n ≤ length old_kinds → length old_operands < n → Says old_kinds old_operands (Err (PlanLong n))
      unfolding first_refusal
      operands_short e l h = short e (on_to ∙ simp (le-ltb (length old_kinds) (node_count (neat_tree J kinds operands)) (omega (arith, e, l)), lt-ltb (length old_operands) (node_count (neat_tree J kinds operands)) (omega (arith, e, h))))

      pub is_written : {n : ℕ} → n ≡ node_count (neat_tree J kinds operands) → n ≤ length old_kinds → n ≤ length old_operands → {new_kinds new_operands : List ℕ}
          → new_kinds ≡ over (kinds_of (neat_tree J kinds operands)) old_kinds → new_operands ≡ over (operands_of (neat_tree J kinds operands)) old_operands → Says new_kinds new_operands (Ok n)
      unfolding first_refusal
      is_written e l h a b = says {w = passed} (on_to ∙ simp (le-ltb (length old_kinds) (node_count (neat_tree J kinds operands)) (omega (arith, e, l)), le-ltb (length old_operands) (node_count (neat_tree J kinds operands)) (omega (arith, e, h))))
          (record { answers = ap (λ i. Ok i) e; memory = record { kinds = a; operands = b } })

-- one entry stored at the start
pub first_stored : (old : List ℕ) (v : ℕ) → 1 ≤ length old → set old 0 v ≡ over (v ∷ []) old
first_stored [] v h = absurd (omega arith)
first_stored (x ∷ old) v h = refl

-- the same for a job block
pub neat_judged : (s : List ℕ) (choices : Choices) (kinds operands : List ℕ) → NeatJudged s choices kinds operands
neat_judged s choices kinds operands good passed = neat_plan (block_job s choices) (read.read_in_range s choices good) kinds operands passed

-- the call: a job that is refused, and one that was read
module _ (s : List ℕ) (choices : Choices) (kinds operands old_kinds old_operands new_kinds new_operands : List ℕ) where
  abbrev verdict : Checked
  verdict = neat_verdict s choices kinds operands old_kinds old_operands

  promises : {r : Answer ℕ} → Neatened verdict (block_neat s choices kinds operands) old_kinds old_operands new_kinds new_operands r → NeatPromises s choices kinds operands old_kinds old_operands new_kinds new_operands r
  promises h =
      record {
        answers = h.answers;
        outcome = ap (outcome_of neat_values) h.answers ∙ said_by neat_values verdict (node_count (block_neat s choices kinds operands));
        memory = h.memory;
        plan = neat_judged s choices kinds operands;
      }

  pub read_on : {a : Answer JobRecord} {j : JobRecord} {r : Answer ℕ} → a ≡ read_of s choices → a ≡ Ok j
      → Neatened (neat_checked (job_of j) kinds operands old_kinds old_operands) (neat_tree (job_of j) kinds operands) old_kinds old_operands new_kinds new_operands r
      → NeatPromises s choices kinds operands old_kinds old_operands new_kinds new_operands r
  read_on {r = r} e p h =
      let q = read.answered s choices e p in
      promises (subst (λ x. Neatened x (block_neat s choices kinds operands) old_kinds old_operands new_kinds new_operands r)
      (sym (ap (λ y. next y (neat_checked (block_job s choices) kinds operands old_kinds old_operands)) q.0))
      (subst (λ (j : JobRecord). Neatened (neat_checked (job_of j) kinds operands old_kinds old_operands) (neat_tree (job_of j) kinds operands) old_kinds old_operands new_kinds new_operands r) q.1 h))

  pub read_stops : {a : Answer JobRecord} {x : Refusal} (r : Answer ℕ) → a ≡ read_of s choices → a ≡ Err x → IsErrAnd r (λ y. y ≡ x) → new_kinds ≡ old_kinds → new_operands ≡ old_operands
      → NeatPromises s choices kinds operands old_kinds old_operands new_kinds new_operands r
  read_stops {a} {x} r e p h k o =
      promises (subst (λ y. Neatened y (block_neat s choices kinds operands) old_kinds old_operands new_kinds new_operands r)
      (sym (ap (λ y. next y (neat_checked (block_job s choices) kinds operands old_kinds old_operands)) (read.refused s choices e p)))
      (record { answers = handed r h; memory = record { kinds = k; operands = o } }))
