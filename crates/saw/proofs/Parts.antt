-- The extent of a tree's kinds is the number of its nodes, so that the part of a node holds the entries of its tree and nothing else.
use Rattle.saw.proofs.Prelude.{◌≡◌, refl, sym, ◌∙◌, ap, ap₂, subst, List, [], ◌∷◌, ◌++◌, map, map-append, append_assoc, append-nil, ℕ, zero, suc, ◌+◌, ◌-◌, ◌*◌, ◌≤◌, ◌<◌, arith, add-one, dec_lt, length, take, drop, get_or, length-append, length-map, drop_of_length-le, List·getD-append, drop-cons, drop-append-add, take_at, get_or-append-add, lt-ltb, le-ltb, Bor, Direction, Length, Width, Node, Cut, only, Tree, waste, piece, cut, preorder, kind_of, node_count, kinds_of, count_cut, Refusal, Choices, PlanOf, kinds_length, operands_length, Part, SawPasses, saw_job, saw_answer, SawChecks, subtrees, tree_at, left_after, extent, end_of, between, part_if, part_by, node_part, IsPart, AtEnd, HandsBack, Ok, Err, passed, Checked, Answer, verdict_of, SawReport}
use Rattle.cutting.specs.Pieces as laid
use Rattle.node.specs.Nodes.{node_of}
use Rattle.saw.proofs.Prices.{same_answer}
use Rattle.saw.proofs.Calls.{check_met}

-- no tree left to read
pub extent_zero : (ks : List ℕ) (left : ℕ) → left < 1 → extent ks left ≡ 0
unfolding extent
extent_zero [] left h = refl
extent_zero (k ∷ ks) left h = ap (λ b. only b (suc (extent ks (left_after (node_of k 0) left)))) (le-ltb 0 left (omega arith))

extent_step : (k left : ℕ) (ks : List ℕ) → 0 < left → extent (k ∷ ks) left ≡ suc (extent ks (left_after (node_of k 0) left))
unfolding extent
extent_step k left ks h = ap (λ b. only b (suc (extent ks (left_after (node_of k 0) left)))) (lt-ltb 0 left h)

-- one entry more
pub extent_more : (ks : List ℕ) (i left : ℕ) → i < length ks → 1 ≤ left → i + extent (drop i ks) left ≡ i + 1 + extent (drop (i + 1) ks) (left_after (node_of (get_or ks i 0) 0) left)
extent_more ks i left h l =
    let e = ap (λ ks. extent ks left) (drop-cons ks i 0 h ∙ ap (λ m. get_or ks i 0 ∷ drop m ks) (sym (add-one i))) ∙ extent_step (get_or ks i 0) left (drop (i + 1) ks) l in
    omega (arith, e)

-- no entry left
pub extent_none : (ks : List ℕ) (i left : ℕ) → length ks ≤ i → i + extent (drop i ks) left ≡ i
unfolding extent
extent_none ks i left h = let e = ap (λ l. extent l left) (drop_of_length-le ks h) in omega (arith, e)

cut_after : (d : Direction) (x left : ℕ) → left_after (node_of (kind_of (Cut d x)) 0) left ≡ left + 1
cut_after Length x left = refl
cut_after Width x left = refl

-- the entries of a tree's nodes, one for each
module _ (g : Node → ℕ) where
  abbrev pub listed : Tree laid.Piece → List ℕ
  listed t = map g (preorder t)

  pub listed_length : (t : Tree laid.Piece) → length (listed t) ≡ node_count t
  unfolding node_count
  listed_length t = length-map (preorder t) g

  -- a cut's own, then the first part's, then the second's
  listed_cut : (d : Direction) (x : ℕ) (a b : Tree laid.Piece) (ks : List ℕ) → listed (cut d x a b) ++ ks ≡ g (Cut d x) ∷ (listed a ++ (listed b ++ ks))
  unfolding preorder
  listed_cut d x a b ks = ap (λ l. g (Cut d x) ∷ l) (ap (λ l. l ++ ks) (map-append g (preorder a) (preorder b)) ∙ append_assoc (listed a) (listed b) ks)

-- the trees that follow where a tree's kinds end
extent_tree : (t : Tree laid.Piece) (left : ℕ) (ks : List ℕ) → extent (kinds_of t ++ ks) (left + 1) ≡ node_count t + extent ks left
unfolding kinds_of preorder node_count
extent_tree waste left ks = let b : left + 1 - 1 ≡ left = omega arith in let e = extent_step 0 (left + 1) ks (omega arith) ∙ ap (λ n. suc (extent ks n)) b in omega (arith, e)
extent_tree (piece (laid.upright i)) left ks = let b : left + 1 - 1 ≡ left = omega arith in let e = extent_step 1 (left + 1) ks (omega arith) ∙ ap (λ n. suc (extent ks n)) b in omega (arith, e)
extent_tree (piece (laid.turned i)) left ks = let b : left + 1 - 1 ≡ left = omega arith in let e = extent_step 4 (left + 1) ks (omega arith) ∙ ap (λ n. suc (extent ks n)) b in omega (arith, e)
extent_tree (cut d x a b) left ks =
    let rest = kinds_of a ++ (kinds_of b ++ ks) in
    let e = ap (λ l. extent l (left + 1)) (listed_cut (λ n. kind_of n) d x a b ks) ∙ extent_step (kind_of (Cut d x)) (left + 1) rest (omega arith) ∙ ap (λ n. suc (extent rest n)) (cut_after d x (left + 1)) in
    omega (arith, e, extent_tree a (left + 1) (kinds_of b ++ ks), extent_tree b left ks, count_cut d x a b)

subtrees_length : (t : Tree laid.Piece) → length (subtrees t) ≡ node_count t
unfolding subtrees node_count preorder
subtrees_length waste = refl
subtrees_length (piece (laid.upright i)) = refl
subtrees_length (piece (laid.turned i)) = refl
subtrees_length (cut d x a b) = omega (arith, length-append (subtrees a) (subtrees b), subtrees_length a, subtrees_length b, count_cut d x a b)

module _ (g : Node → ℕ) where
  -- from a node on stand the entries of its tree, and then others
  abbrev Stands : Tree laid.Piece → ℕ → List ℕ → Type 0
  Stands t n rest = (ys : List ℕ) × (drop n (listed g t ++ rest) ≡ listed g (tree_at t n) ++ ys)

  stands : (t : Tree laid.Piece) (n : ℕ) (rest : List ℕ) → n < node_count t → Stands t n rest
  unfolding subtrees node_count preorder
  stands waste n rest h = let e : n ≡ 0 = omega arith in subst (λ m. Stands waste m rest) (sym e) (rest, refl)
  stands (piece (laid.upright i)) n rest h = let e : n ≡ 0 = omega arith in subst (λ m. Stands (piece (laid.upright i)) m rest) (sym e) (rest, refl)
  stands (piece (laid.turned i)) n rest h = let e : n ≡ 0 = omega arith in subst (λ m. Stands (piece (laid.turned i)) m rest) (sym e) (rest, refl)
  stands (cut d x a b) zero rest h = (rest, refl)
  stands (cut d x a b) (suc n) rest h = go (dec_lt n (node_count a)) (λ (l : n < node_count a). stands a n (listed g b ++ rest) l) (λ (l : n - node_count a < node_count b). stands b (n - node_count a) rest l)
    where
      go : Dec (n < node_count a) → (n < node_count a → Stands a n (listed g b ++ rest)) → (n - node_count a < node_count b → Stands b (n - node_count a) rest) → Stands (cut d x a b) (suc n) rest
      go (yes l) p q =
          let z = p l in
          let t = List·getD-append (subtrees a) (subtrees b) waste n (omega (arith, l, subtrees_length a)) in
          (z.0, ap (λ l. drop (suc n) l) (listed_cut g d x a b rest) ∙ z.1 ∙ sym (ap (λ u. listed g u ++ z.0) t))
      go (no l) p q =
          let m : n ≡ length (listed g a) + (n - node_count a) = omega (arith, listed_length g a) in
          let k : n ≡ length (subtrees a) + (n - node_count a) = omega (arith, subtrees_length a) in
          let z = q (omega (arith, h, count_cut d x a b)) in
          let t = ap (λ i. get_or (subtrees a ++ subtrees b) i waste) k ∙ get_or-append-add (subtrees a) (subtrees b) (n - node_count a) waste in (
            z.0,
            ap (λ l. drop (suc n) l) (listed_cut g d x a b rest) ∙ ap (λ i. drop i (listed g a ++ (listed g b ++ rest))) m ∙ drop-append-add (listed g a) (listed g b ++ rest) (n - node_count a) ∙ z.1 ∙ sym (ap (λ u. listed g u ++ z.0) t),
          )

  -- so many of them are its own
  pub own_entries : (t : Tree laid.Piece) (n : ℕ) → n < node_count t → take (node_count (tree_at t n)) (drop n (listed g t)) ≡ listed g (tree_at t n)
  own_entries t n h =
      let z = stands t n [] h in
      ap (λ l. take (node_count (tree_at t n)) (drop n l)) (sym (append-nil (listed g t))) ∙ ap (take (node_count (tree_at t n))) z.1 ∙ take_at (listed g (tree_at t n)) z.0 (node_count (tree_at t n)) (listed_length g (tree_at t n))

-- the tree at a node ends where it should
end_tree : (t : Tree laid.Piece) (n : ℕ) → n < node_count t → end_of (kinds_of t) n ≡ n + node_count (tree_at t n)
unfolding kinds_of
end_tree t n h =
    let z = stands (λ n. kind_of n) t n [] h in
    let e = ap (λ l. extent (drop n l) 1) (sym (append-nil (kinds_of t))) ∙ ap (λ l. extent l 1) z.1 ∙ extent_tree (tree_at t n) 0 z.0 in
    omega (arith, e, extent_zero z.0 0 (omega arith))

-- where the part of a node begins and ends, case by case
module _ (v : Checked) (kinds : List ℕ) (count node : ℕ) where
  pub part_refused : {x : Refusal} → v ≡ Err x → between count count ≡ part_by v kinds count node
  part_refused e = sym (ap (λ v. part_by v kinds count node) e)

  pub part_past : v ≡ passed → count ≤ node → between count count ≡ part_by v kinds count node
  part_past e h = sym (ap (λ v. part_by v kinds count node) e ∙ ap (λ b. part_if b kinds count node) (le-ltb node count h))

  pub part_at : v ≡ passed → node < count → {past : ℕ} → past ≡ end_of kinds node → between node past ≡ part_by v kinds count node
  part_at e h p = ap (between node) p ∙ sym (ap (λ v. part_by v kinds count node) e ∙ ap (λ b. part_if b kinds count node) (lt-ltb node count h))

  -- whatever the plan, a node past it has the empty part
  past_empty : count ≤ node → part_by v kinds count node ≡ between count count
  past_empty h = go v
    where
      go : (v : Checked) → part_by v kinds count node ≡ between count count
      go (Ok _) = ap (λ b. part_if b kinds count node) (le-ltb node count h)
      go (Err r) = refl

-- the arrays of a plan that passes have one length
pub same_length : (s : List ℕ) (choices : Choices) (kinds operands : List ℕ) {a : Answer SawReport} {r : SawReport} → SawChecks s choices kinds operands a → a ≡ Ok r → length kinds ≡ length operands
same_length s choices kinds operands c e = let t = c.tree _ e in
    ap length t.1.drawn.kinds_are ∙ kinds_length t.0 ∙ sym (operands_length t.0) ∙ sym (ap length t.1.drawn.operands_are)

-- a part, and where it lies
pub part_lies : (bytes : ℕ) (array : Bor (List ℕ)) (p q : Part) (o : ℕ) → p ≡ q → o ≡ p.first * bytes + array.ref_ptr.1
    → (take (p.past - p.first) (drop p.first array.now) ≡ take (q.past - q.first) (drop q.first array.now)) × (◌≡◌ {A = ℕ × ℕ} (array.ref_ptr.0, o) (array.ref_ptr.0, q.first * bytes + array.ref_ptr.1))
part_lies bytes array p q o e h = (ap (λ (p : Part). take (p.past - p.first) (drop p.first array.now)) e, ap (λ x. (array.ref_ptr.0, x)) (h ∙ ap (λ (p : Part). p.first * bytes + array.ref_ptr.1) e))

-- an empty part is the one at the array's end
at_end : (bytes : ℕ) (array r : Bor (List ℕ)) (p : Part) → p ≡ between (length array.now) (length array.now) → IsPart bytes p array r → AtEnd bytes array r
at_end bytes array r p e i =
    let n = length array.now in
    let z : n - n ≡ 0 = omega arith in
    let q = subst (λ p. IsPart bytes p array r) e i in
    (q.0 ∙ ap (λ m. take m (drop n array.now)) z, q.1)

module _ (s : List ℕ) (choices : Choices) (kinds operands : List ℕ) (node : ℕ) where
  abbrev verdict : Checked
  verdict = verdict_of (saw_answer s choices kinds operands)

  -- the part of a node of a passed plan, in either array, is its tree's
  pub part_tree : SawPasses s choices → (t : Tree laid.Piece) → PlanOf (saw_job s choices) t kinds operands → node < node_count t → (array : List ℕ) → length array ≡ node_count t
      → node_part s choices kinds operands array node ≡ between node (node + node_count (tree_at t node))
  part_tree b t p h array n =
      sym (part_at verdict kinds (length array) node ((check_met s choices kinds operands refl).1.1.0.passes b t p) (omega (arith, n, h)) (sym (end_tree t node h) ∙ sym (ap (λ ks. end_of ks node) p.drawn.kinds_are)))

  -- a part that is the node's is what the contract promises
  module _ (bytes : ℕ) (array r : Bor (List ℕ)) (g : Node → ℕ) (drawn : (t : Tree laid.Piece) → PlanOf (saw_job s choices) t kinds operands → array.now ≡ listed g t) (i : IsPart bytes (node_part s choices kinds operands array.now node) array r) where
    pub handed : HandsBack bytes (λ t. listed g t) s choices kinds operands node array r
    handed = record {
      part_is = i;
      blind = λ z o. subst (λ (a : Answer SawReport). IsPart bytes (part_by (verdict_of a) kinds (length array.now) node) array r) (same_answer choices s z o kinds operands) i;
      tree = λ b t p h. (
          let q = subst (λ p. IsPart bytes p array r) (part_tree b t p h array.now (ap length (drawn t p) ∙ listed_length g t)) i in
          let l : node + node_count (tree_at t node) - node ≡ node_count (tree_at t node) = omega arith in
          (q.0 ∙ ap₂ (λ m l. take m (drop node l)) l (drawn t p) ∙ own_entries g t node h, q.1)
          );
      refused = λ x e. at_end bytes array r _ (sym (part_refused verdict kinds (length array.now) node (ap verdict_of e))) i;
      past = λ h. at_end bytes array r _ (past_empty verdict kinds (length array.now) node h) i;
    }
