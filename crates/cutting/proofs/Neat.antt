-- Used sizes and neat trees: the used size lies within the rectangle; the neat tree is a guillotine tree on it with the same pieces, no more
-- nodes and stages and no idle cut, and is its own neat tree.
use Rattle.cutting.proofs.Prelude.{◌≡◌, refl, sym, ◌∙◌, ap, ap₂, subst, List, List-as-Memᴰ, ℕ, zero, suc, ◌+◌, ◌-◌, ◌*◌, ◌≤◌, ◌<◌, max, arith, Direction, Length, Width, Rect, side, part, Tree, waste, piece, cut, beyond, total, piece_count, IdleFree, Guillotine, Piece, upright, turned, ◌⊑◌, sized, Solid, saw, change, stages_below, stages, preorder, node_count, Job, laid, GuillotineTree, pieces, SolidKinds, joined, remaining, used, neat, used_of, neat_of}
use Rattle.cutting.proofs.Preorder.{count_cut}
use Rattle.cutting.proofs.Saws.{saw_cut, cut_saw}
use Rattle.cutting.proofs.Enlarge.{enlarge}
use Rattle.cutting.proofs.Pieces.{fits_in_true, true_fits_in, units_enlarge}
use Rattle.cutting.proofs.Stages.{change_same, change_below, stages_below_ge}
use Rattle.cutting.proofs.Idle.{pieceless_total}
use Rattle.cutting.proofs.Members.{members_solid}
use Rattle.cutting.proofs.Job.{guillotine_plain, plain_guillotine}

-- what holds of the parts of a cut holds of what remains of it
module _ {P : Type 0} (d : Direction) (x : ℕ) (a b : Tree P) where
  remaining_total : (f : P → ℕ) (m n : ℕ) → (m ≡ 0 → total f a ≡ 0) → (n ≡ 0 → total f b ≡ 0) → total f (remaining d m n x a b) ≡ total f a + total f b
  unfolding total
  remaining_total f zero n i j = omega (arith, i refl)
  remaining_total f (suc m) zero i j = omega (arith, j refl)
  remaining_total f (suc m) (suc n) i j = refl

  remaining_stages : (c : Direction) (m n : ℕ) → stages_below c (remaining d m n x a b) ≤ change c d + max 1 (max (stages_below d a) (stages_below d b))
  unfolding stages_below
  remaining_stages c zero n = omega (arith, change_below c d b)
  remaining_stages c (suc m) zero = omega (arith, change_below c d a)
  remaining_stages c (suc m) (suc n) = omega arith

  remaining_idle : (m n : ℕ) → piece_count a ≡ m → IdleFree a → IdleFree b → IdleFree (remaining d m n x a b)
  remaining_idle zero n e p q = q
  remaining_idle (suc m) zero e p q = p
  remaining_idle (suc m) (suc n) e p q = (omega (arith, e), p, q)

module _ {P : Type 0} (k : ℕ) (size : P → Rect) where
  none_total : (f : P → ℕ) (t : Tree P) → piece_count t ≡ 0 → total f t ≡ 0
  none_total f t e = omega (arith, pieceless_total f t (omega (arith, e)))

  -- the same total of anything: the same profit, and the same copies of every kind
  pub neat_total : (f : P → ℕ) (t : Tree P) → total f (neat k size t) ≡ total f t
  unfolding neat total
  neat_total f waste = refl
  neat_total f (piece p) = refl
  neat_total f (cut d x a b) = remaining_total d _ (neat k size a) (neat k size b) f (piece_count a) (piece_count b)
      (λ e. neat_total f a ∙ none_total f a e) (λ e. neat_total f b ∙ none_total f b e) ∙ ap₂ ◌+◌ (neat_total f a) (neat_total f b)

  -- a tree without a piece uses nothing, and its neat tree is waste
  pub used_none : (t : Tree P) → piece_count t ≡ 0 → used k size t ≡ (0, 0)
  unfolding used total
  used_none waste e = refl
  used_none (piece p) e = absurd (omega (arith, e))
  used_none (cut d x a b) e = let z : piece_count a ≡ 0 = omega (arith, e) in
      ap (λ n. joined k d n (piece_count b) (used k size a) (used k size b)) z ∙ used_none b (omega (arith, e))

  pub neat_waste : (t : Tree P) → piece_count t ≡ 0 → neat k size t ≡ waste
  unfolding neat total
  neat_waste waste e = refl
  neat_waste (piece p) e = absurd (omega (arith, e))
  neat_waste (cut d x a b) e = let z : piece_count a ≡ 0 = omega (arith, e) in
      ap (λ n. remaining d n (piece_count b) (side d (used k size a)) (neat k size a) (neat k size b)) z ∙ neat_waste b (omega (arith, e))

  -- no more stages
  neat_below : (t : Tree P) (c : Direction) → stages_below c (neat k size t) ≤ stages_below c t
  unfolding neat stages_below
  neat_below waste c = omega arith
  neat_below (piece p) c = omega arith
  neat_below (cut d x a b) c =
      omega (arith, remaining_stages d (side d (used k size a)) (neat k size a) (neat k size b) c (piece_count a) (piece_count b), neat_below a d, neat_below b d)

  pub neat_stages : (t : Tree P) → stages (neat k size t) ≤ stages t
  unfolding stages stages_below neat
  neat_stages waste = omega arith
  neat_stages (piece p) = omega arith
  neat_stages (cut d x a b) = omega (arith, stages_below_ge (neat k size (cut d x a b)) d, neat_below (cut d x a b) d, change_same d)

  -- no idle cut
  pub neat_idle : (t : Tree P) → IdleFree (neat k size t)
  unfolding neat
  neat_idle waste = tt
  neat_idle (piece p) = tt
  neat_idle (cut d x a b) = remaining_idle d _ (neat k size a) (neat k size b) (piece_count a) (piece_count b) (neat_total _ a) (neat_idle a) (neat_idle b)

  module _ (d : Direction) (x : ℕ) (a b : Tree P) where
    remaining_used : (m n : ℕ) → piece_count a ≡ m → piece_count b ≡ n → used k size (remaining d m n x a b) ≡ joined k d m n (used k size a) (used k size b)
    unfolding used
    remaining_used zero n i j = refl
    remaining_used (suc m) zero i j = refl
    remaining_used (suc m) (suc n) i j = λ l. joined k d (i l) (j l) (used k size a) (used k size b)

    remaining_neat : (m n : ℕ) → piece_count a ≡ m → piece_count b ≡ n → neat k size a ≡ a → neat k size b ≡ b → x ≡ side d (used k size a)
        → neat k size (remaining d m n x a b) ≡ remaining d m n x a b
    unfolding neat
    remaining_neat zero n i j p q e = q
    remaining_neat (suc m) zero i j p q e = p
    remaining_neat (suc m) (suc n) i j p q e = λ l. remaining d (i l) (j l) (sym e l) (p l) (q l)

  -- the same used size
  pub neat_used : (t : Tree P) → used k size (neat k size t) ≡ used k size t
  unfolding neat used
  neat_used waste = refl
  neat_used (piece p) = refl
  neat_used (cut d x a b) = remaining_used d _ (neat k size a) (neat k size b) (piece_count a) (piece_count b) (neat_total _ a) (neat_total _ b)
      ∙ ap₂ (joined k d (piece_count a) (piece_count b)) (neat_used a) (neat_used b)

  -- neatening again gives the same tree
  pub neat_again : (t : Tree P) → neat k size (neat k size t) ≡ neat k size t
  unfolding neat
  neat_again waste = refl
  neat_again (piece p) = refl
  neat_again (cut d x a b) = remaining_neat d (side d (used k size a)) (neat k size a) (neat k size b) (piece_count a) (piece_count b)
      (neat_total _ a) (neat_total _ b) (neat_again a) (neat_again b) (sym (ap (side d) (neat_used a)))

-- every piece of a tree is in the list
abbrev pub AllIn : {P : Type 0} → List P → Tree P → Type 0
AllIn ps waste = Unit {0}
AllIn ps (piece p) = List-as-Memᴰ p ps
AllIn ps (cut d x a b) = AllIn ps a × AllIn ps b

module _ {P : Type 0} (ps : List P) (price : P → ℕ) (size : P → Rect) (k : ℕ) where
  -- as the pieces of a guillotine tree are
  pub all_in : (t : Tree P) (r : Rect) → Guillotine (sized ps price size) (saw k) r t → AllIn ps t
  unfolding sized
  all_in waste r g = tt
  all_in (piece p) r g = g.0
  all_in (cut d x a b) r g = (all_in a (part d x r) g.1, all_in b (beyond (saw k) d x r) g.2)

  -- the used size of a cut lies within the rectangle
  joined_within : (d : Direction) (m n : ℕ) (u v r : Rect) (x : ℕ) → x + k < side d r → u ⊑ part d x r → v ⊑ beyond (saw k) d x r → joined k d m n u v ⊑ r
  unfolding saw
  joined_within Length zero n u v r x l p q = omega arith
  joined_within Length (suc m) zero u v r x l p q = omega arith
  joined_within Length (suc m) (suc n) u v r x l p q = omega arith
  joined_within Width zero n u v r x l p q = omega arith
  joined_within Width (suc m) zero u v r x l p q = omega arith
  joined_within Width (suc m) (suc n) u v r x l p q = omega arith

  -- and so does a tree's
  pub used_within : (t : Tree P) (r : Rect) → Guillotine (sized ps price size) (saw k) r t → used k size t ⊑ r
  unfolding used sized
  used_within waste r g = omega arith
  used_within (piece p) r g = true_fits_in (size p) r g.1
  used_within (cut d x a b) r g =
      joined_within d (piece_count a) (piece_count b) (used k size a) (used k size b) r x (cut_saw k d (side d r) x g.0).1
      (used_within a (part d x r) g.1) (used_within b (beyond (saw k) d x r) g.2)

  module _ (solid : Solid ps size) where
    abbrev On : Rect → Tree P → Type 0
    On r t = Guillotine (sized ps price size) (saw k) r t

    -- a tree on its used size, where it holds a piece
    abbrev Snug : ℕ → Rect → Tree P → Type 0
    Snug n u t = 0 < n → (0 < u.0) × (0 < u.1) × On u t

    larger : (t : Tree P) (q r : Rect) → q ⊑ r → On q t → On r t
    larger = enlarge (sized ps price size) (saw k) (units_enlarge ps price size solid k)

    joined_snug : (d : Direction) (m n : ℕ) (u v : Rect) (a b : Tree P) → Snug m u a → Snug n v b → Snug (m + n) (joined k d m n u v) (remaining d m n (side d u) a b)
    unfolding saw
    joined_snug d zero n u v a b p q e = q (omega arith)
    joined_snug d (suc m) zero u v a b p q e = p (omega arith)
    joined_snug Length (suc m) (suc n) u v a b p q e =
        let s = p (omega arith) in
        let t = q (omega arith) in (
          omega (arith, s.0),
          omega (arith, s.1),
          (
            saw_cut k Length (u.0 + k + v.0) u.0 (omega (arith, s.0)) (omega (arith, t.0)),
            larger a u (u.0, max u.1 v.1) (omega arith) s.2,
            larger b v (u.0 + k + v.0 - u.0 - k, max u.1 v.1) (omega arith) t.2,
          ),
        )
    joined_snug Width (suc m) (suc n) u v a b p q e =
        let s = p (omega arith) in
        let t = q (omega arith) in (
          omega (arith, s.0),
          omega (arith, s.1),
          (
            saw_cut k Width (u.1 + k + v.1) u.1 (omega (arith, s.1)) (omega (arith, t.1)),
            larger a u (max u.0 v.0, u.1) (omega arith) s.2,
            larger b v (max u.0 v.0, u.1 + k + v.1 - u.1 - k) (omega arith) t.2,
          ),
        )

    neat_snug : (t : Tree P) → AllIn ps t → Snug (piece_count t) (used k size t) (neat k size t)
    unfolding total used neat sized
    neat_snug waste g e = absurd (omega (arith, e))
    neat_snug (piece p) g e = let z = solid p g in (z.0, z.1, (g, fits_in_true (size p) (size p) (omega arith)))
    neat_snug (cut d x a b) g e = joined_snug d (piece_count a) (piece_count b) (used k size a) (used k size b) (neat k size a) (neat k size b)
        (neat_snug a g.0) (neat_snug b g.1) e

    -- what holds a piece uses something
    pub used_some : (t : Tree P) (r : Rect) → On r t → 0 < piece_count t → 0 < (used k size t).0
    used_some t r g e = (neat_snug t (all_in t r g) e).0

    -- the neat tree is a guillotine tree on every rectangle that the used size fits, wherever the tree's own cuts stand
    pub neat_fits : (t : Tree P) (r : Rect) → AllIn ps t → used k size t ⊑ r → On r (neat k size t)
    neat_fits t r g u = go (piece_count t) refl
      where
        go : (n : ℕ) → piece_count t ≡ n → On r (neat k size t)
        go zero e = subst (On r) (sym (neat_waste k size t e)) tt
        go (suc n) e = larger (neat k size t) (used k size t) r u (neat_snug t g (omega (arith, e))).2

    -- so it is one on the tree's own rectangle
    pub neat_guillotine : (t : Tree P) (r : Rect) → On r t → On r (neat k size t)
    neat_guillotine t r g = neat_fits t r (all_in t r g) (used_within t r g)

module _ (d : Direction) (x : ℕ) (a b : Tree Piece) where
  remaining_nodes : (m n : ℕ) → node_count (remaining d m n x a b) ≤ 1 + node_count a + node_count b
  remaining_nodes zero n = omega arith
  remaining_nodes (suc m) zero = omega arith
  remaining_nodes (suc m) (suc n) = omega (arith, count_cut d x a b)

  remaining_count : (m n : ℕ) → (0 < m → node_count a + 1 ≡ 2 * piece_count a) → (0 < n → node_count b + 1 ≡ 2 * piece_count b)
      → 0 < m + n → node_count (remaining d m n x a b) + 1 ≡ 2 * piece_count (remaining d m n x a b)
  unfolding total
  remaining_count zero n i j e = j (omega arith)
  remaining_count (suc m) zero i j e = i (omega arith)
  remaining_count (suc m) (suc n) i j e = omega (arith, i (omega arith), j (omega arith), count_cut d x a b)

module _ (J : Job) where
  -- no more nodes
  pub neat_nodes : (t : Tree Piece) → node_count (neat_of J t) ≤ node_count t
  unfolding neat
  neat_nodes waste = omega arith
  neat_nodes (piece p) = omega arith
  neat_nodes (cut d x a b) =
      omega (arith, remaining_nodes d (side d (used_of J a)) (neat_of J a) (neat_of J b) (piece_count a) (piece_count b), neat_nodes a, neat_nodes b, count_cut d x a b)

  -- a neat tree with a piece has no waste: its nodes are one less than twice its pieces
  own_count : (t : Tree Piece) → 0 < piece_count t → node_count (neat_of J t) + 1 ≡ 2 * piece_count (neat_of J t)
  unfolding neat total node_count preorder
  own_count waste e = absurd (omega (arith, e))
  own_count (piece (upright i)) e = refl
  own_count (piece (turned i)) e = refl
  own_count (cut d x a b) e = remaining_count d (side d (used_of J a)) (neat_of J a) (neat_of J b) (piece_count a) (piece_count b) (own_count a) (own_count b) e

  pub neat_count : (t : Tree Piece) → 0 < piece_count t → node_count (neat_of J t) + 1 ≡ 2 * piece_count t
  neat_count t e = own_count t e ∙ ap (λ n. 2 * n) (neat_total J.kerf (laid J) _ t)

  -- the neat plan is a guillotine tree on the same rectangle
  pub neat_on : SolidKinds J → (t : Tree Piece) (l w : ℕ) → GuillotineTree J l w t → GuillotineTree J l w (neat_of J t)
  unfolding pieces
  neat_on solid t l w g = guillotine_plain J (neat_of J t) (l, w) (neat_guillotine _ _ (laid J) J.kerf (members_solid J solid) t (l, w) (plain_guillotine J t (l, w) g))

  -- a used size lies within the rectangle
  pub used_on : (t : Tree Piece) (l w : ℕ) → GuillotineTree J l w t → used_of J t ⊑ (l, w)
  unfolding pieces
  used_on t l w g = used_within _ _ (laid J) J.kerf t (l, w) (plain_guillotine J t (l, w) g)

  -- and is nothing exactly where the tree holds no piece
  pub used_piece : SolidKinds J → (t : Tree Piece) (l w : ℕ) → GuillotineTree J l w t → 0 < piece_count t → 0 < (used_of J t).0
  unfolding pieces
  used_piece solid t l w g e = used_some _ _ (laid J) J.kerf (members_solid J solid) t (l, w) (plain_guillotine J t (l, w) g) e
