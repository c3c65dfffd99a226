-- The checks of a node case by case, and the nodes that pass them: those that fit.
use Rattle.node.proofs.Prelude.{◌≡◌, ◌∙◌, refl, sym, ap, ap₂, Bool, true, false, not, ◌&&◌, List, ℕ, ◌+◌, ◌-◌, ◌≤◌, ◌<◌, arith, T, leb, ltb, eqb, get_or, lt-leb, le-ltb, eqb-true, eqb-false, leb-false, ltb-false, not-false, Rect, side, Direction, Length, Width, Node, Waste, Piece, Turned, Cut, kind_of, operand_of, fits_in, Job, laid, MayLie, next, first_refusal, refuse_when, PieceNumber, AgainstGrain, Operand, Misfit, Excess, outside, next_passed, cons_passed, node_of, most_kind, unnumbered, against_grain, misplaced, misfit, excess, node_checks, lying_as, laying, passed, Checked}
use Rattle.cutting.specs.Pieces as laid

-- a kind and an operand by the node that they are
data Read (k o : ℕ) : Node → Type 0 where
  is_waste : k ≡ 0 → Read k o Waste
  is_piece : k ≡ 1 → Read k o (Piece o)
  is_length : k ≡ 2 → Read k o (Cut Length o)
  is_width : k ≡ 3 → Read k o (Cut Width o)
  is_turned : 4 ≤ k → Read k o (Turned o)

read : (k o : ℕ) → Read k o (node_of k o)
read k o = go (eqb k 0) refl (eqb k 1) refl (eqb k 2) refl (eqb k 3) refl
  where
    go : (x : Bool) → eqb k 0 ≡ x → (y : Bool) → eqb k 1 ≡ y → (z : Bool) → eqb k 2 ≡ z → (u : Bool) → eqb k 3 ≡ u → Read k o (node_of k o)
    go true e y f z g u h = rw e (is_waste (eqb-true k 0 e))
    go false e true f z g u h = rw (e, f) (is_piece (eqb-true k 1 f))
    go false e false f true g u h = rw (e, f, g) (is_length (eqb-true k 2 g))
    go false e false f false g true h = rw (e, f, g, h) (is_width (eqb-true k 3 h))
    go false e false f false g false h = let a = eqb-false k 0 e in let b = eqb-false k 1 f in let c = eqb-false k 2 g in let d = eqb-false k 3 h in rw (e, f, g, h) (is_turned (omega arith))

waste_read : {k o : ℕ} {n : Node} → Read k o n → n ≡ Waste → k ≡ 0
waste_read (is_waste e) p = e
waste_read (is_piece e) p = cc
waste_read (is_length e) p = cc
waste_read (is_width e) p = cc
waste_read (is_turned h) p = cc

-- kind 0 is waste
pub waste_kind : (k o : ℕ) → node_of k o ≡ Waste → k ≡ 0
waste_kind k o p = waste_read (read k o) p

module _ (J : Job) (c : List ℕ) (r : Rect) (k : ℕ) where
  -- waste has check 14 alone
  pub waste_checks : (o : ℕ) → first_refusal (node_checks J c r k 0 o) ≡ refuse_when (not (eqb o 0)) (Operand k)
  unfolding first_refusal
  waste_checks o = let e : ltb (most_kind J.turning) 0 ≡ false = le-ltb (most_kind J.turning) 0 (omega arith) in simp e (sym (next_passed _))

  module _ (kind o : ℕ) (h : kind ≤ most_kind J.turning) where
    known : ltb (most_kind J.turning) kind ≡ false
    known = le-ltb (most_kind J.turning) kind h

    -- a cut has check 14 alone
    pub cut_checks : (d : Direction) (x : ℕ) → node_of kind o ≡ Cut d x → first_refusal (node_checks J c r k kind o) ≡ refuse_when (outside 1 (side d r - J.kerf - 1) x) (Operand k)
    unfolding first_refusal
    cut_checks d x e = simp (known, e) (sym (next_passed _))

    -- a piece has 13, 36, 15 and 16
    piece_checks : (b : Bool) (i : ℕ) → node_of kind o ≡ laying b i → first_refusal (node_checks J c r k kind o)
        ≡ next (refuse_when (leb J.count i) (PieceNumber k)) (next (refuse_when (b && J.grain i) (AgainstGrain k)) (next (refuse_when (not (fits_in (lying_as b (J.size i)) r)) (Misfit k)) (refuse_when (leb (J.demand i) (get_or c i 0)) (Excess k))))
    unfolding first_refusal
    piece_checks false i e = simp (known, e)
        (ap (λ v. next (refuse_when (leb J.count i) (PieceNumber k)) (next (refuse_when (not (fits_in (J.size i) r)) (Misfit k)) v)) (sym (next_passed (refuse_when (leb (J.demand i) (get_or c i 0)) (Excess k)))))
    piece_checks true i e = simp (known, e)
        (ap (λ v. next (refuse_when (leb J.count i) (PieceNumber k)) (next (refuse_when (J.grain i) (AgainstGrain k)) (next (refuse_when (not (fits_in (laid.quarter (J.size i)) r)) (Misfit k)) v))) (sym (next_passed (refuse_when (leb (J.demand i) (get_or c i 0)) (Excess k)))))

    module _ (b : Bool) (i : ℕ) (e : node_of kind o ≡ laying b i) where
      pub piece_verdict : {p g m x : Checked} → p ≡ refuse_when (leb J.count i) (PieceNumber k) → g ≡ refuse_when (b && J.grain i) (AgainstGrain k) → m ≡ refuse_when (not (fits_in (lying_as b (J.size i)) r)) (Misfit k)
          → x ≡ refuse_when (leb (J.demand i) (get_or c i 0)) (Excess k) → first_refusal (node_checks J c r k kind o) ≡ next p (next g (next m x))
      piece_verdict pe ge me xe = piece_checks b i e ∙ sym (λ j. next (pe j) (next (ge j) (next (me j) (xe j))))

      pub piece_passes : i < J.count → (b && J.grain i) ≡ false → fits_in (lying_as b (J.size i)) r ≡ true → get_or c i 0 < J.demand i → first_refusal (node_checks J c r k kind o) ≡ passed
      piece_passes n g f d = piece_checks b i e ∙ simp (lt-leb J.count i n, g, f, lt-leb (J.demand i) (get_or c i 0) d)

-- a position in a cut's range, and one that is not outside it
inside : (s k x : ℕ) → 1 ≤ x → x + k < s → outside 1 (s - k - 1) x ≡ false
inside s k x h l = simp (le-ltb x 1 h, le-ltb (s - k - 1) x (omega arith))

pub inside_range : (s k x : ℕ) → outside 1 (s - k - 1) x ≡ false → (1 ≤ x) × (x + k < s)
inside_range s k x e = go (ltb x 1) refl (ltb (s - k - 1) x) refl e
  where
    go : (a : Bool) → ltb x 1 ≡ a → (b : Bool) → ltb (s - k - 1) x ≡ b → outside 1 (s - k - 1) x ≡ false → (1 ≤ x) × (x + k < s)
    go true p b q f = let z : ◌≡◌ {A = Bool} true false = simp p at f in absurd (let u : ◌≡◌ {A = ℕ} 0 1 = cc in let w : ⊥ = omega arith in w)
    go false p true q f = let z : ◌≡◌ {A = Bool} true false = simp (p, q) at f in absurd (let u : ◌≡◌ {A = ℕ} 0 1 = cc in let w : ⊥ = omega arith in w)
    go false p false q f = let h = ltb-false x 1 p in let l = ltb-false (s - k - 1) x q in (omega arith, omega arith)

-- a node is known by its kind and operand
pub node_back : (n : Node) → node_of (kind_of n) (operand_of n) ≡ n
node_back Waste = refl
node_back (Piece i) = refl
node_back (Turned i) = refl
node_back (Cut Length x) = refl
node_back (Cut Width x) = refl

-- a node's kind and operand
abbrev pub pair_of : Node → ℕ × ℕ
pair_of n = (kind_of n, operand_of n)

-- what the checks ask of a piece: it may lie, it fits as it lies, and its kind has a copy left
abbrev pub PieceFits : Job → List ℕ → Rect → laid.Piece → Type 0
PieceFits J c r p = MayLie J p × (fits_in (laid J p) r ≡ true) × (get_or c (laid.kind p) 0 < J.demand (laid.kind p))

-- what they ask of a node
abbrev pub NodeFits : Job → List ℕ → Rect → Node → Type 0
NodeFits J c r Waste = Unit {0}
NodeFits J c r (Piece i) = PieceFits J c r (laid.upright i)
NodeFits J c r (Turned i) = PieceFits J c r (laid.turned i)
NodeFits J c r (Cut d x) = (1 ≤ x) × (x + J.kerf < side d r)

-- a turned piece is a kind of node only where pieces may be turned
turned_kind : (b : Bool) → T b → 4 ≤ most_kind b
turned_kind true t = omega arith
turned_kind false t = absurd t

kind_turned : (b : Bool) (k : ℕ) → 4 ≤ k → k ≤ most_kind b → (k ≡ 4) × T b
kind_turned true k h l = (omega arith, tt)
kind_turned false k h l = absurd (omega arith)

least_kind : (b : Bool) → 3 ≤ most_kind b
least_kind true = omega arith
least_kind false = omega arith

cut_kind : (b : Bool) (d : Direction) (x : ℕ) → kind_of (Cut d x) ≤ most_kind b
cut_kind b Length x = omega (arith, least_kind b)
cut_kind b Width x = omega (arith, least_kind b)

-- a kind may be turned where it does not keep its grain and the job's pieces may be turned
turns_free : (g t : Bool) → T (not g && t) → (g ≡ false) × T t
turns_free true t h = absurd h
turns_free false t h = (refl, h)

free_turns : (g t : Bool) → g ≡ false → T t → T (not g && t)
free_turns g t e h = rw e h

-- such a node passes
pub node_passes : (J : Job) (c : List ℕ) (r : Rect) (k : ℕ) (n : Node) → NodeFits J c r n → first_refusal (node_checks J c r k (kind_of n) (operand_of n)) ≡ passed
node_passes J c r k Waste h = waste_checks J c r k 0
node_passes J c r k (Piece i) h = piece_passes J c r k 1 i (omega (arith, least_kind J.turning)) false i refl h.0.0 refl h.1 h.2
node_passes J c r k (Turned i) h =
    let f = turns_free (J.grain i) J.turning h.0.2 in
    piece_passes J c r k 4 i (turned_kind J.turning f.1) true i refl h.0.0 f.0 h.1 h.2
node_passes J c r k (Cut d x) h = cut_checks J c r k (kind_of (Cut d x)) x (cut_kind J.turning d x) d x (node_back (Cut d x)) ∙ ap (λ b. refuse_when b (Operand k)) (inside (side d r) J.kerf x h.0 h.1)

-- and only such a node
node_read : (J : Job) (c : List ℕ) (r : Rect) (k o : ℕ) (n : Node) → Read k o n → ltb (most_kind J.turning) k ≡ false → unnumbered J n ≡ false → against_grain J.grain n ≡ false → misplaced J.kerf r n o ≡ false → misfit J r n ≡ false → excess J c n ≡ false
    → ((k, o) ≡ pair_of n) × NodeFits J c r n
node_read J c r k o Waste (is_waste e) a b u d f g = (ap₂ (λ x y. (x, y)) e (eqb-true o 0 (not-false (eqb o 0) d)), tt)
node_read J c r k o (Piece i) (is_piece e) a b u d f g =
    let left = leb-false (J.demand o) (get_or c o 0) g in
    (ap (λ x. (x, o)) e, ((leb-false J.count o b, omega (arith, left)), not-false (fits_in (J.size o) r) f, left))
node_read J c r k o (Cut Length x) (is_length e) a b u d f g = (ap (λ x. (x, o)) e, inside_range r.0 J.kerf o d)
node_read J c r k o (Cut Width x) (is_width e) a b u d f g = (ap (λ x. (x, o)) e, inside_range r.1 J.kerf o d)
node_read J c r k o (Turned i) (is_turned h) a b u d f g =
    let e = kind_turned J.turning k h (ltb-false (most_kind J.turning) k a) in
    let left = leb-false (J.demand o) (get_or c o 0) g in
    (ap (λ x. (x, o)) e.0, ((leb-false J.count o b, omega (arith, left), free_turns (J.grain o) J.turning u e.1), not-false (fits_in (laid J (laid.turned o)) r) f, left))

pub node_passed : (J : Job) (c : List ℕ) (r : Rect) (at k o : ℕ) → first_refusal (node_checks J c r at k o) ≡ passed
    → ((k, o) ≡ pair_of (node_of k o)) × NodeFits J c r (node_of k o)
node_passed J c r at k o p =
    let e = cons_passed _ _ _ p in
    let f = cons_passed _ _ _ e.1 in
    let g = cons_passed _ _ _ f.1 in
    let h = cons_passed _ _ _ g.1 in
    let i = cons_passed _ _ _ h.1 in
    let j = cons_passed _ _ _ i.1 in
    node_read J c r k o (node_of k o) (read k o) e.0 f.0 g.0 h.0 i.0 j.0
