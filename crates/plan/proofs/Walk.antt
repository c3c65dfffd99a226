-- The walk step by step: the node at a place, what one node that passes or is refused makes of the walk, and the rectangles that wait in
-- two arrays.
use Rattle.plan.proofs.Prelude.{◌≡◌, ◌∙◌, refl, sym, ap, ap₂, subst, List, [], ◌∷◌, ◌++◌, ℕ, zero, suc, ◌+◌, ◌-◌, ◌≤◌, ◌<◌, arith, add-one, length, get_or, set, drop, replicate, drop_of_length-le, length-set, get_or-set_same, get_or-set_other, Direction, Node, Waste, Piece, Turned, Cut, Sides, Rect, side, part, rect_of, sides_of, Job, Refusal, NodeMissing, JobRecord, job_from, job_of, Tally, NodeEntry, Rules, Sized, Placed, NodeFits, node_passed, Report, TreeWalk, node_of, parts, report_after, plan_report, empty_report, tree_passed, tree_walk, nodes_in, waiting, no_sums, rules_of, entry_at, CutInside, Held, Opens, Ok, Err, Answer, verdict_of, proceed, first_refusal, node_checks, IsErrAnd, handed, value_answered, refusal_answered, refuse_when, lt-ltb, ltb}

-- two arrays of one length have as many nodes
pub nodes_length : (kinds operands : List ℕ) → length kinds ≡ length operands → length (nodes_in kinds operands) ≡ length kinds
nodes_length [] os h = refl
nodes_length (k ∷ ks) [] h = absurd (omega arith)
nodes_length (k ∷ ks) (o ∷ os) h = ap suc (nodes_length ks os (omega arith))

-- the node at a place
pub nodes_suc : (kinds operands : List ℕ) (k : ℕ) → length kinds ≡ length operands → k < length kinds
    → drop k (nodes_in kinds operands) ≡ (get_or kinds k 0, get_or operands k 0) ∷ drop (suc k) (nodes_in kinds operands)
nodes_suc [] os k h l = absurd (omega arith)
nodes_suc (a ∷ ks) [] k h l = absurd (omega arith)
nodes_suc (a ∷ ks) (b ∷ os) zero h l = refl
nodes_suc (a ∷ ks) (b ∷ os) (suc k) h l = nodes_suc ks os k (omega arith) (omega arith)

module _ (J : Job) (kinds operands : List ℕ) (same : length kinds ≡ length operands) where
  -- the walk over a tree from node k on
  abbrev pub from : ℕ → List Rect → Tally → List ℕ → Answer TreeWalk
  from k rs t copies = tree_walk J k (drop k (nodes_in kinds operands)) rs (plan_report t copies)

  module _ (k : ℕ) (more : k < length kinds) where
    -- the node at a place
    here : drop k (nodes_in kinds operands) ≡ (get_or kinds k 0, get_or operands k 0) ∷ drop (k + 1) (nodes_in kinds operands)
    here = rw add-one (nodes_suc kinds operands k same more)

    -- a node, and no rectangle waits: the tree has ended
    pub over : (t : Tally) (copies : List ℕ) → from k [] t copies ≡ tree_passed k (plan_report t copies)
    unfolding tree_walk
    over t copies = rw here

    module _ {r : Rect} (rs : List Rect) {t : Tally} {copies : List ℕ} {a : Answer Tally} {after : List ℕ}
        (placed : Placed J k (get_or kinds k 0) (get_or operands k 0) r t copies a after) where
      -- what follows the node
      abbrev then : Answer TreeWalk
      then = tree_walk J (k + 1) (drop (k + 1) (nodes_in kinds operands)) (parts J.kerf (node_of (get_or kinds k 0) (get_or operands k 0)) r ++ rs) (report_after J (node_of (get_or kinds k 0) (get_or operands k 0)) r (plan_report t copies))

      opens_to : from k (r ∷ rs) t copies ≡ proceed (first_refusal (node_checks J copies r k (get_or kinds k 0) (get_or operands k 0))) then
      unfolding tree_walk
      opens_to = rw here refl

      -- a node that is refused ends the walk
      pub stops : {x : Refusal} → a ≡ Err x → from k (r ∷ rs) t copies ≡ Err x
      stops e = opens_to ∙ ap (λ v. proceed v then) (refusal_answered _ _ (sym placed.answer ∙ e))

      -- the walk goes on after one that passes
      pub steps : {u : Tally} → a ≡ Ok u → from k (r ∷ rs) t copies ≡ from (k + 1) (parts J.kerf (node_of (get_or kinds k 0) (get_or operands k 0)) r ++ rs) u after
      steps e = let p = value_answered _ _ (sym placed.answer ∙ e) in opens_to ∙ ap (λ v. proceed v then) p.0
          ∙ ap₂ (λ s c. from (k + 1) (parts J.kerf (node_of (get_or kinds k 0) (get_or operands k 0)) r ++ rs) s c) (sym p.1) (sym (placed.counts (ap verdict_of e)))

-- a node checked by the rules of a job that was read is checked by the job
pub by_rules : (j : JobRecord) {q : Rules} {k kind operand : ℕ} {r : Rect} {t : Tally} {copies : List ℕ} {a : Answer Tally} {after : List ℕ} → q ≡ rules_of j
    → Placed (job_from j.length j.width q.kerf q.turning j.full_demand q.count j.lengths j.widths j.prices j.demands j.grains) k kind operand r t copies a after → Placed (job_of j) k kind operand r t copies a after
by_rules j {q} {k} {kind} {operand} {r} {t} {copies} {a} {after} e p =
    subst (λ (x : Rules). Placed (job_from j.length j.width x.kerf x.turning j.full_demand x.count j.lengths j.widths j.prices j.demands j.grains) k kind operand r t copies a after) e p

-- a cut that passed its checks has its position, and the kerf, inside the side
pub fits_inside : (J : Job) (copies : List ℕ) (r : Rect) (n : Node) → NodeFits J copies r n → CutInside J.kerf n r
fits_inside J copies r Waste h = tt
fits_inside J copies r (Piece i) h = tt
fits_inside J copies r (Turned i) h = tt
fits_inside J copies r (Cut d x) h = omega (arith, h.1)

-- after the last node: 17 where a rectangle waits, and else the tree passes
module _ (J : Job) (k : ℕ) (lengths widths : List ℕ) (s : Report) where
  pub at_end : (n : ℕ) → tree_walk J k [] (waiting lengths widths n) s ≡ proceed (refuse_when (ltb 0 n) (NodeMissing k)) (tree_passed k s)
  unfolding tree_walk waiting
  at_end zero = refl
  at_end (suc n) = rw (lt-ltb 0 (suc n) (omega arith)) refl

-- no rectangle waits
pub none_wait : (lengths widths : List ℕ) (n : ℕ) → n < 1 → waiting lengths widths n ≡ []
unfolding waiting
none_wait lengths widths zero h = refl
none_wait lengths widths (suc n) h = absurd (omega arith)

-- the next rectangle, and the others
pub next_waits : (lengths widths : List ℕ) (n : ℕ) → 1 ≤ n → waiting lengths widths n ≡ (get_or lengths (n - 1) 0, get_or widths (n - 1) 0) ∷ waiting lengths widths (n - 1)
unfolding waiting
next_waits lengths widths zero h = absurd (omega arith)
next_waits lengths widths (suc n) h = let e : suc n - 1 ≡ n = omega arith in rw e

-- stores past the list leave it
pub stored_past : (lengths widths : List ℕ) (i x y n : ℕ) → n ≤ i → waiting (set lengths i x) (set widths i y) n ≡ waiting lengths widths n
unfolding waiting
stored_past lengths widths i x y zero h = refl
stored_past lengths widths i x y (suc n) h =
    let other : n ≡ i → ⊥ = λ e. omega arith in
    ap₂ (λ q rs. q ∷ rs) (ap₂ (λ a b. (a, b)) (get_or-set_other lengths i n x 0 other) (get_or-set_other widths i n y 0 other)) (stored_past lengths widths i x y n (omega arith))

-- two rectangles put in the place of the next one, the first part last
pub parts_wait : (lengths widths : List ℕ) (n : ℕ) (first second : Rect) → 1 ≤ n → n < length lengths → n < length widths
    → waiting (set (set lengths (n - 1) second.0) n first.0) (set (set widths (n - 1) second.1) n first.1) (n + 1) ≡ first ∷ second ∷ waiting lengths widths (n - 1)
unfolding waiting
parts_wait lengths widths n first second h l w =
    let less : n - 1 ≡ n → ⊥ = λ e. omega arith in
    let stored : (a : List ℕ) (x y : ℕ) → n < length a → get_or (set (set a (n - 1) y) n x) n 0 ≡ x = λ a x y b. get_or-set_same (set a (n - 1) y) n x 0 (omega (arith, length-set a (n - 1) y, b)) in
    let kept : (a : List ℕ) (x y : ℕ) → n < length a → get_or (set (set a (n - 1) y) n x) (n - 1) 0 ≡ y = λ a x y b. get_or-set_other (set a (n - 1) y) n (n - 1) x 0 less ∙ get_or-set_same a (n - 1) y 0 (omega (arith, b)) in
    let L = set lengths (n - 1) second.0 in
    let W = set widths (n - 1) second.1 in
    rw add-one
    (ap₂ (λ q rs. q ∷ rs) (ap₂ (λ a b. (a, b)) (stored lengths first.0 second.0 l) (stored widths first.1 second.1 w))
    (next_waits (set L n first.0) (set W n first.1) n h
    ∙ ap₂ (λ q rs. q ∷ rs) (ap₂ (λ a b. (a, b)) (kept lengths first.0 second.0 l) (kept widths first.1 second.1 w))
    (stored_past L W n first.0 first.1 (n - 1) (omega arith) ∙ stored_past lengths widths (n - 1) second.0 second.1 (n - 1) (omega arith))))

-- the parts that a cut leaves
pub cut_waits : (lengths widths : List ℕ) (n : ℕ) (node : Node) (d : Direction) (x kerf : ℕ) (r : Rect) (first second : Sides) → 1 ≤ n → n < length lengths → n < length widths
    → node ≡ Cut d x → first ≡ sides_of (part d x r) → second ≡ sides_of (part d (side d r - x - kerf) r)
    → waiting (set (set lengths (n - 1) second.length) n first.length) (set (set widths (n - 1) second.width) n first.width) (n + 1) ≡ parts kerf node r ++ waiting lengths widths (n - 1)
cut_waits lengths widths n node d x kerf r first second h l w c e f =
    parts_wait lengths widths n (rect_of first) (rect_of second) h l w ∙ ap₂ (λ p q. rect_of p ∷ rect_of q ∷ waiting lengths widths (n - 1)) e f
    ∙ sym (ap (λ m. parts kerf m r ++ waiting lengths widths (n - 1)) c)

-- where the walk over a tree from a first node on stands before node k: n rectangles wait in two arrays
pub record Walking (J : Job) (kinds operands : List ℕ) (first : ℕ) (copies lengths widths : List ℕ) (n : ℕ) (t : Tally) (k : ℕ) : Type 0 where
  pub nodes : k ≤ length kinds
  pub few : n ≤ k + 1
  pub held : Held lengths widths
  pub sized : Sized k t
  pub walks : tree_walk J first (drop first (nodes_in kinds operands)) (J.plate ∷ []) empty_report ≡ tree_walk J k (drop k (nodes_in kinds operands)) (waiting lengths widths n) (plan_report t copies)

-- it begins with the plate
pub begins : (J : Job) (kinds operands : List ℕ) (first : ℕ) (lengths widths : List ℕ) (t : Tally) → first ≤ length kinds → Held lengths widths → t ≡ no_sums
    → Walking J kinds operands first (replicate 64 0) (set lengths 0 J.plate.0) (set widths 0 J.plate.1) 1 t first
unfolding waiting
begins J kinds operands first lengths widths t h held e = rw e
    (record {
      nodes = h;
      few = omega arith;
      held = (length-set lengths 0 J.plate.0 ∙ held.0, length-set widths 0 J.plate.1 ∙ held.1);
      sized = record { profit = omega arith; pieces = omega arith; waste = omega arith; trim = omega arith; sawdust = omega arith };
      walks = sym (ap₂ (λ x y. tree_walk J first (drop first (nodes_in kinds operands)) ((x, y) ∷ []) empty_report) (get_or-set_same lengths 0 J.plate.0 0 (omega (arith, held.0))) (get_or-set_same widths 0 J.plate.1 0 (omega (arith, held.1))));
    })

module _ {J : Job} {kinds operands : List ℕ} {first : ℕ} {copies lengths widths : List ℕ} {n : ℕ} {t : Tally} {k : ℕ} (given : Walking J kinds operands first copies lengths widths n t k) (same : length kinds ≡ length operands) where
  abbrev answer : Answer TreeWalk
  answer = tree_walk J first (drop first (nodes_in kinds operands)) (J.plate ∷ []) empty_report

  -- after the last node
  pub ends : length kinds ≤ k → (a : Answer TreeWalk) → a ≡ tree_walk J (length kinds) [] (waiting lengths widths n) (plan_report t copies) → a ≡ answer
  ends h a e = let m : length kinds ≡ k = omega (arith, given.nodes) in
      let l : length (nodes_in kinds operands) ≤ k = omega (arith, nodes_length kinds operands same) in
      e ∙ ap (λ i. tree_walk J i [] (waiting lengths widths n) (plan_report t copies)) m
      ∙ sym (given.walks ∙ ap (λ ns. tree_walk J k ns (waiting lengths widths n) (plan_report t copies)) (drop_of_length-le (nodes_in kinds operands) l))

  module _ (more : k < length kinds) where
    -- no rectangle waits for node k
    pub filled_all : n < 1 → tree_passed k (plan_report t copies) ≡ answer
    filled_all h = sym (given.walks ∙ ap (λ rs. from J kinds operands same k rs t copies) (none_wait lengths widths n h) ∙ over J kinds operands same k more t copies)

    module _ (some : 1 ≤ n) {room : Sides} (next : room ≡ sides_of (get_or lengths (n - 1) 0, get_or widths (n - 1) 0)) {e : NodeEntry} (here : e ≡ entry_at kinds operands k)
        {a : Answer Tally} {after : List ℕ} (placed : Placed J e.at e.kind e.operand (rect_of room) t copies a after) where
      -- node k, at the next rectangle
      at_k : Placed J k (get_or kinds k 0) (get_or operands k 0) (rect_of room) t copies a after
      at_k = subst (λ (x : NodeEntry). Placed J x.at x.kind x.operand (rect_of room) t copies a after) here placed

      opened : answer ≡ from J kinds operands same k (rect_of room ∷ waiting lengths widths (n - 1)) t copies
      opened = given.walks ∙ ap (λ rs. from J kinds operands same k rs t copies) (next_waits lengths widths n some ∙ sym (ap (λ r. rect_of r ∷ waiting lengths widths (n - 1)) next))

      -- it is refused
      pub halts : {x : Refusal} → a ≡ Err x → (b : Answer TreeWalk) → IsErrAnd b (λ y. y ≡ x) → b ≡ answer
      halts v b p = handed b p ∙ sym (opened ∙ stops J kinds operands same k more (waiting lengths widths (n - 1)) at_k v)

      -- it passes
      module _ {u : Tally} (v : a ≡ Ok u) where
        -- its parts can be put in the list
        pub opens : length kinds ≤ 4095 → {node : Node} → node ≡ node_of e.kind e.operand → Opens J.kerf node (rect_of room) lengths widths n
        opens most {node} m =
            record {
              some = some;
              place = omega (arith, given.few);
              inside = rw m (fits_inside J copies (rect_of room) (node_of e.kind e.operand) (node_passed J copies (rect_of room) e.at e.kind e.operand (value_answered _ _ (sym placed.answer ∙ v)).0).1);
              held = given.held;
            }

        -- and the walk goes on
        pub goes_on : {node : Node} → node ≡ node_of e.kind e.operand → (lengths' widths' : List ℕ) (n' : ℕ)
            → (waiting lengths' widths' n' ≡ parts J.kerf node (rect_of room) ++ waiting lengths widths (n - 1)) × (n' ≤ n + 1) × Held lengths' widths' → Walking J kinds operands first after lengths' widths' n' u (k + 1)
        goes_on {node} m lengths' widths' n' w =
            record {
              nodes = omega arith;
              few = omega (arith, given.few, w.1);
              held = w.2;
              sized = placed.sized u v k given.sized;
              walks = opened ∙ steps J kinds operands same k more (waiting lengths widths (n - 1)) at_k v
                  ∙ sym (ap (λ rs. from J kinds operands same (k + 1) rs u after) (w.0 ∙ ap (λ x. parts J.kerf x (rect_of room) ++ waiting lengths widths (n - 1)) (m ∙ ap (λ (x : NodeEntry). node_of x.kind x.operand) here)));
            }
