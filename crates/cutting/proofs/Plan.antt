-- The plan behind the bound in plain words: as the saw cuts it, it is a guillotine tree within the share that earns the figure, and its
-- recursion reads figures of the widened job alone.
use Rattle.cutting.proofs.Prelude.{◌≡◌, refl, sym, ◌∙◌, ap, ap₂, subst, ◌&&◌, ℕ, ◌+◌, ◌-◌, ◌≤◌, ◌<◌, add-sub_cancel, arith, T, eqb, Direction, Length, Width, first, Rect, side, part, Tree, waste, piece, cut, Saw, Shares, Proper, Monotone, total, IdleFree, Guillotine, Within, figure, Piece, kind, ◌⊑◌, fits_in, sized, saw, saw_written, Choice, as_waste, as_piece, as_cut, or_waste, or_length, or_piece, or_zero, cut_earns, first_cut, choice, follow, written, sawn, Job, laid, GuillotineTree, OnPlate, profit, weight_of, widened, capacity, ordered, members, pieces, by_kind, figure_under, figure_of, bound_of, normal_side, lossless_plan, plan_of, bound_plan, pair_earns, first_pair, plan_choice, plan_after, SolidKinds}
use Rattle.cutting.proofs.Lists.{first_cong, mem_pairs}
use Rattle.cutting.proofs.Choice.{Earns, written_earns, written_eq}
use Rattle.cutting.proofs.Idle.{written_idle}
use Rattle.cutting.proofs.Saws.{saw_cut}
use Rattle.cutting.proofs.Transfer.{recut}
use Rattle.cutting.proofs.Weights.{within_weight, by_weight_monotone}
use Rattle.cutting.proofs.Reduction.{CutsAt, saw_written_cuts, cuts_proper}
use Rattle.cutting.proofs.Sawn.{sawn_total, sawn_idle, sawn_tree}
use Rattle.cutting.proofs.Members.{members_solid, laid_widened, widened_above, widened_solid}
use Rattle.cutting.proofs.Job.{guillotine_plain}
use Rattle.cutting.proofs.Table.{sides_suffice, positions_above, figure_saw}

-- the saw of the written plan
abbrev pub plan_saw : Job → Saw
plan_saw J = saw_written (normal_side J)

-- the plan without loss after a choice: the second part of a cut is the true remainder
abbrev pub lossless_after : {S : Type 0} → Job → Shares Piece S → Rect → Choice Piece S → Tree Piece
lossless_after J H r as_waste = waste
lossless_after J H r (as_piece p) = piece p
lossless_after J H r (as_cut d x q) = cut d x (lossless_plan J H (part d x r) q.0) (lossless_plan J H (part d (side d r - x) r) q.1)

module _ (J : Job) where
  cuts_at : CutsAt (normal_side J) (plan_saw J)
  cuts_at = saw_written_cuts (normal_side J) (sides_suffice J).additive

  plan_proper : Proper (plan_saw J)
  plan_proper = cuts_proper (normal_side J) (plan_saw J) cuts_at

  module _ {S : Type 0} (H : Shares Piece S) (r : Rect) (c : S) where
    -- the plan without loss is a tree of the saw's cuts within the share, and earns its figure
    lossless_earns : Earns (pieces J) (plan_saw J) H r c (lossless_plan J H r c)
    unfolding lossless_plan
    lossless_earns = written_earns (pieces J) (plan_saw J) H plan_proper r c

    -- it has no idle cut
    lossless_idle : IdleFree (lossless_plan J H r c)
    unfolding lossless_plan
    lossless_idle = written_idle (pieces J) (plan_saw J) H plan_proper r c

    -- it is a guillotine tree of a job cut without loss
    pub lossless_tree : J.kerf ≡ 0 → GuillotineTree J r.0 r.1 (lossless_plan J H r c)
    unfolding saw saw_written
    lossless_tree e =
        let t = lossless_plan J H r c in
        let g : Guillotine (pieces J) (saw 0) r t = recut (pieces J) (plan_saw J) (saw 0) (λ d n x m. (let u = cuts_at.units d n x m in (saw_cut 0 d n x u.0 (omega arith), omega arith))) t r lossless_earns.0 in
        guillotine_plain J t r (subst (λ k. Guillotine (pieces J) (saw k) r t) (sym e) g)

module _ {S : Type 0} (J : Job) (H : Shares Piece S) (mono : Monotone H) (solid : SolidKinds J) where
  -- the figures of its saw are those of the job, on the plate
  plan_figure : (r : Rect) (c : S) → r ⊑ J.plate → figure (pieces J) (plan_saw J) H r c ≡ figure_under J H r.0 r.1 c
  plan_figure r c on = sym (figure_saw J H mono solid (plan_saw J) (cuts_at J) r c on)

  module _ (r : Rect) (c : S) (on : r ⊑ J.plate) where
    -- a cut at a position of the plan's saw has both parts on the plate
    pair_plain : (d : Direction) → first_cut (pieces J) (plan_saw J) H d r c ≡ first_pair J H d r.0 r.1 c
    unfolding first_cut first_pair saw_written
    pair_plain d = first_cong _ _ _ (λ u m. test d u ((cuts_at J).units d (side d r) u.0 (mem_pairs u _ _ m).0))
      where
        whole : figure (pieces J) (plan_saw J) H r c ≡ figure_under J H r.0 r.1 c
        whole = plan_figure r c on

        test : (d : Direction) (u : ℕ × (S × S)) → (1 ≤ u.0) × (u.0 < side d r) × (u.0 + (plan_saw J).rest d (side d r) u.0 ≤ side d r)
            → cut_earns (pieces J) (plan_saw J) H d r c u ≡ pair_earns J H d r.0 r.1 c u
        test Length u k = ap₂ eqb (ap₂ ◌+◌ (plan_figure (u.0, r.1) u.1.0 (omega arith)) (plan_figure (r.0 - u.0, r.1) u.1.1 (omega arith))) whole
        test Width u k = ap₂ eqb (ap₂ ◌+◌ (plan_figure (r.0, u.0) u.1.0 (omega arith)) (plan_figure (r.0, r.1 - u.0) u.1.1 (omega arith))) whole

    -- so the choice reads figures of the job
    choice_plain : choice (pieces J) (plan_saw J) H r c ≡ plan_choice J H r.0 r.1 c
    unfolding choice plan_choice pieces sized
    choice_plain = λ i. or_zero (eqb (plan_figure r c on i) 0)
        (or_piece (first (λ p. (fits_in (laid J p) r && H.admits c p) && eqb (J.price (kind p)) (plan_figure r c on i)) (members J))
        (or_length (pair_plain Length i) (or_waste (pair_plain Width i))))

    follow_plain : (u : Choice Piece S) → follow (pieces J) (plan_saw J) H (written (pieces J) (plan_saw J) H) r u ≡ lossless_after J H r u
    unfolding lossless_plan saw_written
    follow_plain as_waste = refl
    follow_plain (as_piece p) = refl
    follow_plain (as_cut d x q) = refl

    -- the plan without loss, from the choice at a rectangle and a share downward
    pub lossless_recursion : lossless_plan J H r c ≡ lossless_after J H r (plan_choice J H r.0 r.1 c)
    unfolding lossless_plan
    lossless_recursion = written_eq (pieces J) (plan_saw J) H (plan_proper J) r c
        ∙ follow_plain (choice (pieces J) (plan_saw J) H r c) ∙ ap (lossless_after J H r) choice_plain

-- a plan of the widened job, as the saw cuts it
module _ (J : Job) (solid : SolidKinds J) (t : Tree Piece) (r : Rect) (g : Guillotine (pieces (widened J)) (plan_saw (widened J)) r t) where
  above : (d : Direction) (x : ℕ) → 0 < x → T (normal_side (widened J) d x) → J.kerf < x
  above d = positions_above (widened J) d J.kerf (widened_above J solid)

  -- is a guillotine tree
  pub sawn_plain : GuillotineTree J (r.0 - J.kerf) (r.1 - J.kerf) (sawn J.kerf r t)
  unfolding pieces members ordered
  sawn_plain = guillotine_plain J (sawn J.kerf r t) (r.0 - J.kerf, r.1 - J.kerf)
      (sawn_tree (members J) (λ p. J.price (kind p)) (laid J) (laid (widened J)) (members_solid J solid) J.kerf (laid_widened J) (normal_side (widened J)) above t r g)

  -- and has the same pieces
  pub sawn_same : (f : Piece → ℕ) → total f (sawn J.kerf r t) ≡ total f t
  unfolding pieces members ordered
  sawn_same f = sawn_total (members J) (λ p. J.price (kind p)) (laid J) (laid (widened J)) (members_solid J solid) J.kerf (laid_widened J) (normal_side (widened J)) above f t r g

  -- and no idle cut where the plan has none
  sawn_free : IdleFree t → IdleFree (sawn J.kerf r t)
  unfolding pieces members ordered
  sawn_free = sawn_idle (members J) (λ p. J.price (kind p)) (laid J) (laid (widened J)) (members_solid J solid) J.kerf (laid_widened J) (normal_side (widened J)) above t r g

module _ {S : Type 0} (J : Job) (H : Shares Piece S) (mono : Monotone H) (solid : SolidKinds J) where
  -- the widened job
  abbrev wide : Job
  wide = widened J

  module _ (l w : ℕ) (s : S) (on_length : l ≤ wide.plate.0) (on_width : w ≤ wide.plate.1) where
    -- the plan from a rectangle of the widened job and a share is a guillotine tree, has the pieces of a tree of the widened job within the
    -- share and earns the figure
    pub plan_within : GuillotineTree J (l - J.kerf) (w - J.kerf) (plan_of J H l w s)
        × ((t : Tree Piece) × Guillotine (pieces wide) (plan_saw wide) (l, w) t × Within H s t × ((f : Piece → ℕ) → total f (plan_of J H l w s) ≡ total f t))
        × (profit J (plan_of J H l w s) ≡ figure_under wide H l w s)
    unfolding plan_of pieces sized
    plan_within =
        let e = lossless_earns wide H (l, w) s in
        let t = lossless_plan wide H (l, w) s in
        let same = sawn_same J solid t (l, w) e.0 in
        (sawn_plain J solid t (l, w) e.0, (t, e.0, e.1, same), same (λ p. J.price (kind p)) ∙ (e.2 ∙ plan_figure wide H mono (widened_solid J solid) (l, w) s (on_length, on_width)))

    sawn_after : (u : Choice Piece S) → sawn J.kerf (l, w) (lossless_after wide H (l, w) u) ≡ plan_after J H l w u
    unfolding plan_of sawn
    sawn_after as_waste = refl
    sawn_after (as_piece p) = refl
    sawn_after (as_cut Length x q) = refl
    sawn_after (as_cut Width x q) = refl

    -- the plan, from the choice at a rectangle and a share downward
    pub plan_recursion : plan_of J H l w s ≡ plan_after J H l w (plan_choice wide H l w s)
    unfolding plan_of
    plan_recursion = ap (sawn J.kerf (l, w)) (lossless_recursion wide H mono (widened_solid J solid) (l, w) s (on_length, on_width)) ∙ sawn_after (plan_choice wide H l w s)

  -- no plan has an idle cut
  pub plan_idle : (l w : ℕ) (s : S) → IdleFree (plan_of J H l w s)
  unfolding plan_of
  plan_idle l w s = sawn_free J solid (lossless_plan wide H (l, w) s) (l, w) (lossless_earns wide H (l, w) s).0 (lossless_idle wide H (l, w) s)

module _ (J : Job) (weight : ℕ → ℕ) (solid : SolidKinds J) where
  -- under weights it weighs at most the share
  pub plan_tree : (l w c : ℕ) → l ≤ (widened J).plate.0 → w ≤ (widened J).plate.1
      → GuillotineTree J (l - J.kerf) (w - J.kerf) (plan_of J (by_kind weight) l w c) × (weight_of weight (plan_of J (by_kind weight) l w c) ≤ c)
      × (profit J (plan_of J (by_kind weight) l w c) ≡ figure_of (widened J) weight l w c)
  unfolding figure_of
  plan_tree l w c on_length on_width =
      let e = plan_within J (by_kind weight) (by_weight_monotone _) solid l w c on_length on_width in
      (e.0, rw (e.1.3 (λ p. weight (kind p))) (within_weight (λ p. weight (kind p)) e.1.0 c e.1.2), e.2)

  -- the plan behind the bound is a guillotine tree on the plate, weighs at most the capacity and earns the bound
  pub plan_bound : OnPlate J (bound_plan J weight) × (weight_of weight (bound_plan J weight) ≤ capacity J weight) × (profit J (bound_plan J weight) ≡ bound_of J weight)
  plan_bound =
      let e = plan_tree (widened J).plate.0 (widened J).plate.1 (capacity J weight) (omega arith) (omega arith) in
      (rw (add-sub_cancel J.plate.0 J.kerf, add-sub_cancel J.plate.1 J.kerf) at e.0, e.1, e.2)
