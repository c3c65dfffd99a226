-- The steps of the two walks: what is known while some trees wait, at one node more of each kind, and at the end.
use Rattle.stages.proofs.Prelude.{◌≡◌, refl, sym, ◌∙◌, ap, subst, true, false, List, [], ◌∷◌, ◌++◌, append_assoc, append-nil, ℕ, ◌+◌, ◌-◌, ◌≤◌, ◌<◌, max, add-one, arith, le-leb, lt-leb, leb, length, drop, get_or, length-append, length-map, drop_of_length-le, drop-cons, drop-drop, drop_at, Direction, Length, Width, Cut, Tree, waste, piece, cut, other, change, stages_below, root, stages, change_same, change_other, preorder, kind_of, node_count, kinds_of, Refusal, ManyStages, Answer, answer_by, next, first_refusal, first_append, next_passed, kinds_cut, count_cut, Walk, path_checks, staged_as, stage_checks, StagesOf, kinds_all, count_all, most_below, checks_all, ended_as, Walked, NamesNode, cut_kind, Waiting, Walking, Ok, Err, ForOk, ForErr, passed, Checked}
use Rattle.cutting.specs.Pieces as laid
use Rattle.refusal.proofs.Results.{value_answered, refusal_answered}
use Rattle.stages.proofs.Place.{by_paths}

-- a plan's trees
abbrev Trees : Type 0
Trees = List (Tree laid.Piece)

-- no other node has a cut's kind
cut_code : {A : Type 0} {kind code : ℕ} (e : Direction) → kind ≡ cut_kind e → kind ≡ code → (code ≡ 2 → ⊥) → (code ≡ 3 → ⊥) → A
cut_code Length k c f g = absurd (f (sym c ∙ k))
cut_code Width k c f g = absurd (g (sym c ∙ k))

same : (d e : Direction) → cut_kind d ≡ cut_kind e → d ≡ e
same Length Length h = refl
same Length Width h = absurd (omega arith)
same Width Length h = absurd (omega arith)
same Width Width h = refl

kind_is : (e : Direction) (x : ℕ) → kind_of (Cut e x) ≡ cut_kind e
kind_is Length x = refl
kind_is Width x = refl

head_eq : {x y : ℕ} {xs ys : List ℕ} → x ∷ xs ≡ y ∷ ys → (x ≡ y) × (xs ≡ ys)
head_eq e = (cc, cc)

-- a tree's kinds, by its first node
abbrev Split : ℕ → List ℕ → Tree laid.Piece → List ℕ → Type 0
Split kind tail waste rest = (kind ≡ 0) × (tail ≡ rest)
Split kind tail (piece (laid.upright i)) rest = (kind ≡ 1) × (tail ≡ rest)
Split kind tail (piece (laid.turned i)) rest = (kind ≡ 4) × (tail ≡ rest)
Split kind tail (cut e x a b) rest = (kind ≡ cut_kind e) × (tail ≡ kinds_of a ++ (kinds_of b ++ rest))

split : (kind : ℕ) (tail : List ℕ) (t : Tree laid.Piece) (rest : List ℕ) → kind ∷ tail ≡ kinds_of t ++ rest → Split kind tail t rest
unfolding kinds_of preorder
split kind tail waste rest e = head_eq e
split kind tail (piece (laid.upright i)) rest e = head_eq e
split kind tail (piece (laid.turned i)) rest e = head_eq e
split kind tail (cut d x a b) rest e = let h = head_eq (e ∙ kinds_cut d x a b rest) in (h.0 ∙ kind_is d x, h.1)

some_kind : (t : Tree laid.Piece) (rest : List ℕ) → 0 < length (kinds_of t ++ rest)
unfolding kinds_of preorder
some_kind waste rest = omega arith
some_kind (piece (laid.upright i)) rest = omega arith
some_kind (piece (laid.turned i)) rest = omega arith
some_kind (cut d x a b) rest = omega (arith, ap length (kinds_cut d x a b rest))

-- the checks where a cut stands first: its own, those of its parts, and those of the trees after it
checks_cut : (d e : Direction) (left l n x : ℕ) (a b : Tree laid.Piece) (vs : Trees) → change d e < left → l ≡ left - change d e
    → first_refusal (checks_all d left n (cut e x a b ∷ vs)) ≡ next (first_refusal (checks_all e l (n + 1) (a ∷ b ∷ []))) (first_refusal (checks_all d left (n + 1 + count_all (a ∷ b ∷ [])) vs))
unfolding checks_all stage_checks count_all first_refusal
checks_cut d e left l n x a b vs room less =
    let t : leb left (change d e) ≡ false = lt-leb left (change d e) room in
    let c : n + node_count (cut e x a b) ≡ n + 1 + (node_count a + (node_count b + 0)) = omega (arith, count_cut e x a b) in
    rw (t, c, ← less) (first_append (stage_checks e l (n + 1) a ++ stage_checks e l (n + 1 + node_count a) b) (checks_all d left (n + 1 + (node_count a + (node_count b + 0))) vs)
    ∙ ap (λ cs. next (first_refusal (stage_checks e l (n + 1) a ++ cs)) (first_refusal (checks_all d left (n + 1 + (node_count a + (node_count b + 0))) vs))) (sym (append-nil (stage_checks e l (n + 1 + node_count a) b))))

checks_none : (d e : Direction) (left n x : ℕ) (a b : Tree laid.Piece) (vs : Trees) → left ≤ change d e → first_refusal (checks_all d left n (cut e x a b ∷ vs)) ≡ Err (ManyStages n)
unfolding checks_all stage_checks first_refusal
checks_none d e left n x a b vs h = let t : leb left (change d e) ≡ true = le-leb left (change d e) h in rw t refl

assoc : (a b c : ℕ) → max a (max b c) ≡ max (max a b) c
assoc a b c = omega arith

-- a cut needs what its parts need, and one more where it changes the direction
most_cut : (d e : Direction) (x : ℕ) (a b : Tree laid.Piece) (vs : Trees) → most_below d (cut e x a b ∷ vs) ≡ max (change d e + max 1 (most_below e (a ∷ b ∷ []))) (most_below d vs)
unfolding most_below stages_below
most_cut d e x a b vs = ap (λ m. max (change d e + max 1 (max (stages_below e a) m)) (most_below d vs)) (alone (stages_below e b))
  where
    alone : (m : ℕ) → m ≡ max m 0
    alone m = omega arith

most_parts : (d : Direction) (a b : Tree laid.Piece) (vs : Trees) → max (most_below d (a ∷ b ∷ [])) (most_below d vs) ≡ most_below d (a ∷ b ∷ vs)
unfolding most_below
most_parts d a b vs = sym (assoc (stages_below d a) (max (stages_below d b) 0) (most_below d vs)) ∙ ap (max (stages_below d a)) (let z : max 0 (most_below d vs) ≡ most_below d vs = omega arith in sym (assoc (stages_below d b) 0 (most_below d vs)) ∙ ap (max (stages_below d b)) z)

count_first : (e : Direction) (x : ℕ) (a b : Tree laid.Piece) (vs : Trees) → count_all (cut e x a b ∷ vs) ≡ 1 + count_all (a ∷ b ∷ []) + count_all vs
unfolding count_all
count_first e x a b vs = omega (arith, count_cut e x a b)

-- the kinds of trees are as many as their nodes
kinds_count : (ts : Trees) → length (kinds_all ts) ≡ count_all ts
unfolding kinds_all count_all kinds_of node_count
kinds_count [] = refl
kinds_count (t ∷ ts) = omega (arith, length-append (kinds_of t) (kinds_all ts), length-map (preorder t) (λ n. kind_of n), kinds_count ts)

pub begins : (d : Direction) (ks : List ℕ) (left at : ℕ) → at ≤ length ks → Walking d ks left at at 2 0
begins d ks left at h = record {
  from = omega arith;
  to = h;
  few = omega arith;
  low = omega arith;
  trees = λ a b rest e. record { us = a ∷ b ∷ []; number = refl; kinds = e; nodes = refl; checks = refl; stages = omega arith };
}

module _ {d : Direction} {ks : List ℕ} {left at n waiting most : ℕ} (w : Walking d ks left at n waiting most) where
  -- where it ends
  ended_inside : ForOk {E = Refusal} (Ok (record { next = n; stages = most })) (λ (v : Walk). (at ≤ v.next) × (v.next ≤ length ks) × (v.stages ≤ left))
  ended_inside v e = let k : n ≡ v.next = cc in let s : most ≡ v.stages = cc in (omega (arith, w.from), omega (arith, w.to), omega (arith, w.low))

  -- no tree waits
  pub ends : waiting ≤ 0 → Walked d ks at left (Ok (record { next = n; stages = most }))
  unfolding checks_all count_all most_below first_refusal
  ends h = record {
    trees = λ a b rest e. (let u = w.trees a b rest e in all a b u.us (omega (arith, u.number)) u refl);
    inside = ended_inside;
    named = λ x e. cc;
  }
    where
      all : (a b : Tree laid.Piece) (us : Trees) → length us ≤ 0 → {rest : List ℕ} (u : Waiting d ks left at n waiting most (a ∷ b ∷ []) rest) → u.us ≡ us
          → Ok (record { next = n; stages = most }) ≡ ended_as (first_refusal (checks_all d left at (a ∷ b ∷ []))) (at + count_all (a ∷ b ∷ [])) (most_below d (a ∷ b ∷ []))
      all a b (t ∷ ts) l u e = absurd (omega arith)
      all a b [] l u e =
          let c : first_refusal (checks_all d left at (a ∷ b ∷ [])) ≡ passed = u.checks ∙ ap (λ us. first_refusal (checks_all d left n us)) e in
          let m : at + count_all (a ∷ b ∷ []) ≡ n = omega (arith, u.nodes, ap count_all e) in
          let s : most_below d (a ∷ b ∷ []) ≡ most = omega (arith, u.stages, ap (most_below d) e) in
          sym (λ i. ended_as (c i) (m i) (s i))

  module _ (wait : 0 < waiting) where
    -- no node is left: then the two trees are not there
    pub lacks : length ks ≤ n → Walked d ks at left (Ok (record { next = n; stages = most }))
    lacks h = record {
      trees = λ a b rest e. (let u = w.trees a b rest e in none a b u.us rest (omega (arith, u.number)) (sym (drop_of_length-le ks h) ∙ u.kinds));
      inside = ended_inside;
      named = λ x e. cc;
    }
      where
        none : {A : Type 0} (a b : Tree laid.Piece) (us : Trees) (rest : List ℕ) → 0 < length us → [] ≡ kinds_all us ++ rest → A
        none a b us rest l e = absurd (omega (arith, some us rest l, ap length e))
          where
            some : (us : Trees) (rest : List ℕ) → 0 < length us → 0 < length (kinds_all us ++ rest)
            some [] rest l = absurd (omega arith)
            some (t ∷ ts) rest l = unfold kinds_all in omega (arith, length-append (kinds_of t ++ kinds_all ts) rest, length-append (kinds_of t) (kinds_all ts), some_kind t (kinds_all ts), length-append (kinds_of t) (kinds_all ts))

    module _ (kind : ℕ) (some : n < length ks) (read : kind ≡ get_or ks n 0) where
      here : drop n ks ≡ kind ∷ drop (n + 1) ks
      here = drop-cons ks n 0 some ∙ (λ i. sym read i ∷ drop (sym (add-one n) i) ks)

      -- the first tree that waits, by its first node
      module _ {ts : Trees} {rest : List ℕ} (u : Waiting d ks left at n waiting most ts rest) where
        first : (t : Tree laid.Piece) (vs : Trees) → u.us ≡ t ∷ vs → Split kind (drop (n + 1) ks) t (kinds_all vs ++ rest)
        unfolding kinds_all
        first t vs e = split kind (drop (n + 1) ks) t (kinds_all vs ++ rest) (sym here ∙ u.kinds ∙ ap (λ us. kinds_all us ++ rest) e ∙ append_assoc (kinds_of t) (kinds_all vs) rest)

        leaf_next : (t : Tree laid.Piece) (vs : Trees) → u.us ≡ t ∷ vs → node_count t ≡ 1 → stages_below d t ≡ 0 → stage_checks d left n t ≡ [] → drop (n + 1) ks ≡ kinds_all vs ++ rest
            → Waiting d ks left at (n + 1) (waiting - 1) most ts rest
        unfolding count_all most_below checks_all
        leaf_next t vs e count below none tail = record {
          us = vs;
          number = omega (arith, u.number, ap length e);
          kinds = tail;
          nodes = omega (arith, u.nodes, ap count_all e);
          checks = u.checks ∙ ap (λ us. first_refusal (checks_all d left n us)) e ∙ (λ i. first_refusal (none i ++ checks_all d left (n + count i) vs));
          stages = omega (arith, u.stages, ap (most_below d) e);
        }

        leaf_waiting : (kind ≡ 2 → ⊥) → (kind ≡ 3 → ⊥) → (us : Trees) → u.us ≡ us → Waiting d ks left at (n + 1) (waiting - 1) most ts rest
        unfolding node_count preorder stages_below stage_checks
        leaf_waiting f g [] e = absurd (omega (arith, u.number, ap length e))
        leaf_waiting f g (waste ∷ vs) e = leaf_next waste vs e refl refl refl (first waste vs e).1
        leaf_waiting f g (piece (laid.upright i) ∷ vs) e = leaf_next (piece (laid.upright i)) vs e refl refl refl (first (piece (laid.upright i)) vs e).1
        leaf_waiting f g (piece (laid.turned i) ∷ vs) e = leaf_next (piece (laid.turned i)) vs e refl refl refl (first (piece (laid.turned i)) vs e).1
        leaf_waiting f g (cut Length x a b ∷ vs) e = absurd (f (first (cut Length x a b) vs e).0)
        leaf_waiting f g (cut Width x a b ∷ vs) e = absurd (g (first (cut Width x a b) vs e).0)

        -- a cut is the first tree that waits
        at_cut : {A : Type 0} (e : Direction) → kind ≡ cut_kind e → ((x : ℕ) (a b : Tree laid.Piece) (vs : Trees) → u.us ≡ cut e x a b ∷ vs → A) → (us : Trees) → u.us ≡ us → A
        at_cut e k f [] q = absurd (omega (arith, u.number, ap length q))
        at_cut e k f (waste ∷ vs) q = absurd (cut_code e k (first waste vs q).0 (λ z. omega arith) (λ z. omega arith))
        at_cut e k f (piece (laid.upright i) ∷ vs) q = absurd (cut_code e k (first (piece (laid.upright i)) vs q).0 (λ z. omega arith) (λ z. omega arith))
        at_cut e k f (piece (laid.turned i) ∷ vs) q = absurd (cut_code e k (first (piece (laid.turned i)) vs q).0 (λ z. omega arith) (λ z. omega arith))
        at_cut e k f (cut g x a b ∷ vs) q = f x a b vs (q ∙ ap (λ h. cut h x a b ∷ vs) (same g e (sym (first (cut g x a b) vs q).0 ∙ k)))

        -- the kinds of a cut's parts
        parts : (e : Direction) (x : ℕ) (a b : Tree laid.Piece) (vs : Trees) → u.us ≡ cut e x a b ∷ vs → drop (n + 1) ks ≡ kinds_all (a ∷ b ∷ []) ++ (kinds_all vs ++ rest)
        unfolding kinds_all
        parts e x a b vs q = (first (cut e x a b) vs q).1 ∙ sym (append_assoc (kinds_of a) (kinds_of b ++ []) (kinds_all vs ++ rest) ∙ ap (λ l. kinds_of a ++ (l ++ (kinds_all vs ++ rest))) (append-nil (kinds_of b)))

        -- a cut that keeps the direction: its parts wait
        same_waiting : kind ≡ cut_kind d → 1 ≤ left → Waiting d ks left at (n + 1) (waiting + 1) (max most 1) ts rest
        unfolding count_all most_below checks_all kinds_all
        same_waiting k l = at_cut d k (λ x a b vs q. record {
          us = a ∷ b ∷ vs;
          number = omega (arith, u.number, ap length q);
          kinds = parts d x a b vs q ∙ sym (append_assoc (kinds_of a ++ (kinds_of b ++ [])) (kinds_all vs) rest) ∙ ap (λ l. l ++ rest) (append_assoc (kinds_of a) (kinds_of b ++ []) (kinds_all vs) ∙ ap (λ l. kinds_of a ++ (l ++ kinds_all vs)) (append-nil (kinds_of b)));
          nodes = omega (arith, u.nodes, ap count_all q, count_first d x a b vs);
          checks = u.checks ∙ ap (λ us. first_refusal (checks_all d left n us)) q ∙ checks_cut d d left left n x a b vs (omega (arith, change_same d)) (omega (arith, change_same d)) ∙ joined x a b vs;
          stages = u.stages ∙ ap (λ us. max most (most_below d us)) q ∙ ap (max most) (most_cut d d x a b vs ∙ ap (λ k. max (k + max 1 (most_below d (a ∷ b ∷ []))) (most_below d vs)) (change_same d)
              ∙ (let z : 0 + max 1 (most_below d (a ∷ b ∷ [])) ≡ max 1 (most_below d (a ∷ b ∷ [])) = omega arith in ap (λ k. max k (most_below d vs)) z) ∙ sym (assoc 1 (most_below d (a ∷ b ∷ [])) (most_below d vs)) ∙ ap (max 1) (most_parts d a b vs))
              ∙ assoc most 1 (most_below d (a ∷ b ∷ vs));
        }) u.us refl
          where
            joined : (x : ℕ) (a b : Tree laid.Piece) (vs : Trees) → next (first_refusal (checks_all d left (n + 1) (a ∷ b ∷ []))) (first_refusal (checks_all d left (n + 1 + count_all (a ∷ b ∷ [])) vs)) ≡ first_refusal (checks_all d left (n + 1) (a ∷ b ∷ vs))
            joined x a b vs =
                let c : n + 1 + (node_count a + (node_count b + 0)) ≡ n + 1 + node_count a + node_count b = omega arith in
                rw c (sym (first_append (stage_checks d left (n + 1) a ++ (stage_checks d left (n + 1 + node_count a) b ++ [])) (checks_all d left (n + 1 + node_count a + node_count b) vs))
                ∙ ap first_refusal (append_assoc (stage_checks d left (n + 1) a) (stage_checks d left (n + 1 + node_count a) b ++ []) (checks_all d left (n + 1 + node_count a + node_count b) vs)
                ∙ ap (λ cs. stage_checks d left (n + 1) a ++ (cs ++ checks_all d left (n + 1 + node_count a + node_count b) vs)) (append-nil (stage_checks d left (n + 1 + node_count a) b))))

        -- a cut that changes it and passes the limit
        none_left : kind ≡ cut_kind (other d) → left ≤ 1 → first_refusal (checks_all d left at ts) ≡ Err (ManyStages n)
        none_left k l = at_cut (other d) k (λ x a b vs q. u.checks ∙ ap (λ us. first_refusal (checks_all d left n us)) q ∙ checks_none d (other d) left n x a b vs (omega (arith, change_other d))) u.us refl

        -- one that changes it and whose parts pass the limit
        parts_past : kind ≡ cut_kind (other d) → 2 ≤ left → {r : Answer Walk} {x : Refusal} → r ≡ Err x → Walked (other d) ks (n + 1) (left - 1) r → first_refusal (checks_all d left at ts) ≡ Err x
        parts_past k l is f = at_cut (other d) k (λ x a b vs q.
            u.checks ∙ ap (λ us. first_refusal (checks_all d left n us)) q ∙ checks_cut d (other d) left (left - 1) n x a b vs (omega (arith, change_other d)) (omega (arith, change_other d))
            ∙ ap (λ c. next c (first_refusal (checks_all d left (n + 1 + count_all (a ∷ b ∷ [])) vs)))
            (refusal_answered (first_refusal (checks_all (other d) (left - 1) (n + 1) (a ∷ b ∷ []))) _ (sym (f.trees a b (kinds_all vs ++ rest) (parts (other d) x a b vs q)) ∙ is))) u.us refl

        -- one whose parts are walked
        parts_waiting : kind ≡ cut_kind (other d) → 2 ≤ left → (w : Walk) → Walked (other d) ks (n + 1) (left - 1) (Ok w) → Waiting d ks left at w.next (waiting - 1) (max most (max 1 w.stages + 1)) ts rest
        unfolding count_all most_below
        parts_waiting k l w f = at_cut (other d) k (λ x a b vs q.
            (let e = parts (other d) x a b vs q in
            let v = value_answered (first_refusal (checks_all (other d) (left - 1) (n + 1) (a ∷ b ∷ []))) _ (sym (f.trees a b (kinds_all vs ++ rest) e)) in
            let m = ap (λ w. w.next) v.1 in
            record {
              us = vs;
              number = omega (arith, u.number, ap length q);
              kinds = ap (λ m. drop m ks) m ∙ drop_past a b vs e;
              nodes = omega (arith, u.nodes, ap count_all q, count_first (other d) x a b vs, m);
              checks = u.checks ∙ ap (λ us. first_refusal (checks_all d left n us)) q ∙ checks_cut d (other d) left (left - 1) n x a b vs (omega (arith, change_other d)) (omega (arith, change_other d))
                  ∙ (λ i. next (v.0 i) (first_refusal (checks_all d left (sym m i) vs)));
              stages = u.stages ∙ ap (λ us. max most (most_below d us)) q ∙ ap (max most) (most_cut d (other d) x a b vs ∙ ap (λ k. max k (most_below d vs)) (needs (ap (λ w. w.stages) v.1))) ∙ assoc most (max 1 w.stages + 1) (most_below d vs);
            })) u.us refl
          where
            needs : {s m : ℕ} → s ≡ m → change d (other d) + max 1 m ≡ max 1 s + 1
            needs e = rw (change_other d, e) (omega arith)

            drop_past : (a b : Tree laid.Piece) (vs : Trees) → drop (n + 1) ks ≡ kinds_all (a ∷ b ∷ []) ++ (kinds_all vs ++ rest) → drop (n + 1 + count_all (a ∷ b ∷ [])) ks ≡ kinds_all vs ++ rest
            drop_past a b vs e = ap (λ m. drop (n + 1 + m) ks) (sym (kinds_count (a ∷ b ∷ []))) ∙ sym (drop-drop (length (kinds_all (a ∷ b ∷ []))) (n + 1) ks)
                ∙ ap (drop (length (kinds_all (a ∷ b ∷ [])))) e ∙ drop_at (kinds_all (a ∷ b ∷ [])) (kinds_all vs ++ rest) (length (kinds_all (a ∷ b ∷ []))) refl

      -- a leaf is passed
      pub leaf : (kind ≡ 2 → ⊥) → (kind ≡ 3 → ⊥) → Walking d ks left at (n + 1) (waiting - 1) most
      leaf f g = record {
        from = omega (arith, w.from);
        to = omega arith;
        few = omega (arith, w.few, w.from);
        low = w.low;
        trees = λ a b rest e. (let u = w.trees a b rest e in leaf_waiting u f g u.us refl);
      }

      -- a cut that keeps the direction
      pub keeps : kind ≡ cut_kind d → 1 ≤ left → Walking d ks left at (n + 1) (waiting + 1) (max most 1)
      keeps k l = record {
        from = omega (arith, w.from);
        to = omega arith;
        few = omega (arith, w.few, w.from);
        low = omega (arith, w.low);
        trees = λ a b rest e. same_waiting (w.trees a b rest e) k l;
      }

      -- one that changes it: no stage is left
      pub past : kind ≡ cut_kind (other d) → left ≤ 1 → Walked d ks at left (Err (ManyStages n))
      past k l = record { trees = λ a b rest e. sym (ap (λ v. ended_as v (at + count_all (a ∷ b ∷ [])) (most_below d (a ∷ b ∷ []))) (none_left (w.trees a b rest e) k l)); inside = λ v e. cc; named = λ x e. (n, (let i : ManyStages n ≡ x = cc in sym i)) }

      -- its parts pass the limit
      pub stops : kind ≡ cut_kind (other d) → 2 ≤ left → {r : Answer Walk} {x : Refusal} → r ≡ Err x → Walked (other d) ks (n + 1) (left - 1) r → Walked d ks at left (Err x)
      stops k l {x = x} is f = record {
        trees = λ a b rest e. sym (ap (λ v. ended_as v (at + count_all (a ∷ b ∷ [])) (most_below d (a ∷ b ∷ []))) (parts_past (w.trees a b rest e) k l is f));
        inside = λ v e. cc;
        named = λ y e. (let i : x ≡ y = cc in subst NamesNode i (f.named x is));
      }

      -- its parts are walked
      pub goes_on : kind ≡ cut_kind (other d) → 2 ≤ left → (v : Walk) → Walked (other d) ks (n + 1) (left - 1) (Ok v) → Walking d ks left at v.next (waiting - 1) (max most (max 1 v.stages + 1))
      goes_on k l v f =
          let i = f.inside v refl in
          record {
            from = omega (arith, w.from, i.0);
            to = i.1;
            few = omega (arith, w.few, w.from, i.0);
            low = omega (arith, w.low, i.2);
            trees = λ a b rest e. parts_waiting (w.trees a b rest e) k l v f;
          }

-- a refusal that names a node, handed on
pub named_on : {A B : Type 0} {a : Answer A} {b : Answer B} {x : Refusal} → ForErr a NamesNode → a ≡ Err x → b ≡ Err x → ForErr b NamesNode
named_on {x = x} f e h y p = let i : x ≡ y = cc in subst NamesNode i (f x e)

-- what the walk of the first cut's parts says of the plan: the cut itself begins the first stage
abbrev pub answer_of : Answer Walk → Answer ℕ
answer_of (Ok w) = Ok (max 1 w.stages)
answer_of (Err r) = Err r

-- a whole plan
module _ (ks : List ℕ) (limit kind : ℕ) (some : 1 ≤ length ks) (read : kind ≡ get_or ks 0 0) where
  plan_split : (t : Tree laid.Piece) → ks ≡ kinds_of t → Split kind (drop 1 ks) t []
  plan_split t e = split kind (drop 1 ks) t [] (sym (drop-cons ks 0 0 some ∙ (λ i. sym read i ∷ drop 1 ks)) ∙ e ∙ sym (append-nil (kinds_of t)))

  -- without a cut
  pub plan_leaf : (kind ≡ 2 → ⊥) → (kind ≡ 3 → ⊥) → StagesOf ks limit (Ok 0)
  unfolding stage_checks first_refusal stages
  plan_leaf f g waste e = ap (λ v. answer_by v 0) (by_paths limit waste)
  plan_leaf f g (piece p) e = ap (λ v. answer_by v 0) (by_paths limit (piece p))
  plan_leaf f g (cut Length x a b) e = absurd (f (plan_split (cut Length x a b) e).0)
  plan_leaf f g (cut Width x a b) e = absurd (g (plan_split (cut Width x a b) e).0)

  module _ (d : Direction) (cuts : kind ≡ cut_kind d) (least : 1 ≤ limit) (r : Answer Walk) (w : Walked d ks 1 limit r) where
    ended_answer : (v : Checked) (n s : ℕ) → answer_of (ended_as v n s) ≡ answer_by v (max 1 s)
    ended_answer (Ok _) n s = refl
    ended_answer (Err q) n s = refl

    first_checks : (x : ℕ) (a b : Tree laid.Piece) → first_refusal (path_checks limit (cut d x a b)) ≡ first_refusal (checks_all d limit 1 (a ∷ b ∷ []))
    unfolding root checks_all first_refusal
    first_checks x a b = sym (by_paths limit (cut d x a b)) ∙ ap first_refusal (sym (append-nil (stage_checks d limit 0 (cut d x a b)))) ∙ checks_cut d d limit limit 0 x a b [] (omega (arith, change_same d)) (omega (arith, change_same d)) ∙ sym (next_passed _)

    first_stages : (x : ℕ) (a b : Tree laid.Piece) → stages (cut d x a b) ≡ max 1 (most_below d (a ∷ b ∷ []))
    unfolding stages most_below
    first_stages x a b = ap (λ m. max 1 (max (stages_below d a) m)) (let z : stages_below d b ≡ max (stages_below d b) 0 = omega arith in z)

    first_cut : (x : ℕ) (a b : Tree laid.Piece) → drop 1 ks ≡ kinds_of a ++ (kinds_of b ++ []) → answer_of r ≡ staged_as limit (cut d x a b)
    unfolding kinds_all
    first_cut x a b e = ap answer_of (w.trees a b [] (e ∙ sym (append-nil (kinds_of a ++ (kinds_of b ++ []))))) ∙ ended_answer (first_refusal (checks_all d limit 1 (a ∷ b ∷ []))) _ _
        ∙ sym (λ i. answer_by (first_checks x a b i) (first_stages x a b i))

    -- with one
    pub plan_cut : StagesOf ks limit (answer_of r)
    plan_cut waste e = cut_code d cuts (plan_split waste e).0 (λ z. omega arith) (λ z. omega arith)
    plan_cut (piece (laid.upright i)) e = cut_code d cuts (plan_split (piece (laid.upright i)) e).0 (λ z. omega arith) (λ z. omega arith)
    plan_cut (piece (laid.turned i)) e = cut_code d cuts (plan_split (piece (laid.turned i)) e).0 (λ z. omega arith) (λ z. omega arith)
    plan_cut (cut g x a b) e =
        let s = plan_split (cut g x a b) e in
        first_cut x a b s.1 ∙ ap (λ g. staged_as limit (cut g x a b)) (same d g (sym cuts ∙ s.0))
