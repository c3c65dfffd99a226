-- Laws of the figure that the table's loops read, for a job cut without loss: a larger share or rectangle gives no less, two parts no more
-- than the whole, a piece that may lie, fits and weighs at most the share no more than the figure, and no side of 0 gives anything.
use Rattle.cutting.proofs.Prelude.{◌≡◌, refl, ◌∙◌, ℕ, ◌+◌, ◌-◌, ◌≤◌, ℕ_discrete, arith, Direction, Length, Width, Rect, side, part, piece, cut, total, figure, Piece, kind, sized, saw, Job, laid, MayLie, members, pieces, by_kind, figure_of, SolidKinds}
use Rattle.cutting.proofs.Exact.{figure_upper, figure_attained}
use Rattle.cutting.proofs.Saws.{saw_cut, saw_proper}
use Rattle.cutting.proofs.Enlarge.{side_part, Enlarges, figure_mono, figure_degenerate}
use Rattle.cutting.proofs.Pieces.{fits_in_true, units_enlarge}
use Rattle.cutting.proofs.Weights.{within_weight, weight_within}
use Rattle.cutting.proofs.Members.{lie_member, members_solid}

module _ (J : Job) (weight : ℕ → ℕ) where
  -- the weight of a piece
  abbrev heavy : Piece → ℕ
  heavy p = weight (kind p)

  -- the figure of a rectangle
  abbrev F : Rect → ℕ → ℕ
  F r c = figure (pieces J) (saw 0) (by_kind weight) r c

  share_law : (r : Rect) (c e : ℕ) → c ≤ e → F r c ≤ F r e
  share_law r c e h =
      let t = figure_attained (pieces J) (saw 0) (by_kind weight) (saw_proper 0) r c in
      omega (arith, t.3, figure_upper (pieces J) (saw 0) (by_kind weight) (saw_proper 0) t.0 r e t.1 (weight_within heavy t.0 e (omega (arith, within_weight heavy t.0 c t.2))))

  -- a larger share gives no less
  pub figure_share : (l w c e : ℕ) → c ≤ e → figure_of J weight l w c ≤ figure_of J weight l w e
  unfolding figure_of
  figure_share l w c e h = share_law (l, w) c e h

  -- a piece alone
  pub figure_single : (p : Piece) (l w c : ℕ) → MayLie J p → (laid J p).0 ≤ l → (laid J p).1 ≤ w → weight (kind p) ≤ c → J.price (kind p) ≤ figure_of J weight l w c
  unfolding figure_of pieces sized total
  figure_single p l w c h a b m = figure_upper (pieces J) (saw 0) (by_kind weight) (saw_proper 0) (piece p) (l, w) c (lie_member J p h, fits_in_true (laid J p) (l, w) (a, b)) (weight_within heavy (piece p) c m)

  cut_law : (d : Direction) (r : Rect) (x y k m : ℕ) → 1 ≤ x → 1 ≤ y → x + y ≡ side d r → F (part d x r) k + F (part d y r) m ≤ F r (k + m)
  unfolding total saw
  cut_law d r x y k m p q e =
      let t = figure_attained (pieces J) (saw 0) (by_kind weight) (saw_proper 0) (part d x r) k in
      let u = figure_attained (pieces J) (saw 0) (by_kind weight) (saw_proper 0) (part d y r) m in
      let z : side d r - x - 0 ≡ y = omega arith in
      omega (
        arith,
        t.3,
        u.3,
        figure_upper (pieces J) (saw 0) (by_kind weight) (saw_proper 0) (cut d x t.0 u.0) r (k + m) (saw_cut 0 d (side d r) x p (omega arith), t.1, rw z u.1)
            (weight_within heavy (cut d x t.0 u.0) (k + m) (omega (arith, within_weight heavy t.0 k t.2, within_weight heavy u.0 m u.2))),
      )

  module _ (solid : SolidKinds J) where
    enlarges : Enlarges (pieces J) (saw 0)
    unfolding pieces
    enlarges = units_enlarge (members J) (λ p. J.price (kind p)) (laid J) (members_solid J solid) 0

    -- a larger rectangle gives no less
    pub figure_larger : (l w l' w' c : ℕ) → l ≤ l' → w ≤ w' → figure_of J weight l w c ≤ figure_of J weight l' w' c
    unfolding figure_of
    figure_larger l w l' w' c h g = figure_mono (pieces J) (saw 0) enlarges (by_kind weight) (l, w) (l', w') c (h, g)

    parts_law : (d : Direction) (r : Rect) (x y k m : ℕ) → x + y ≡ side d r → part d (side d r) r ≡ r → F (part d x r) k + F (part d y r) m ≤ F r (k + m)
    parts_law d r x y k m e same = go (ℕ_discrete x 0) (ℕ_discrete y 0)
      where
        none : (z n : ℕ) → z ≡ 0 → F (part d z r) n ≡ 0
        none z n h = figure_degenerate (pieces J) (saw 0) enlarges (by_kind weight) d (part d z r) n (side_part d z r ∙ h)

        whole : (z n : ℕ) → z ≡ side d r → n ≤ k + m → F (part d z r) n ≤ F r (k + m)
        whole z n h l = rw (h, same) (share_law r n (k + m) l)

        go : Dec (x ≡ 0) → Dec (y ≡ 0) → F (part d x r) k + F (part d y r) m ≤ F r (k + m)
        go (yes a) b = omega (arith, none x k a, whole y m (omega arith) (omega arith))
        go (no a) (yes b) = omega (arith, none y m b, whole x k (omega arith) (omega arith))
        go (no a) (no b) = cut_law d r x y k m (omega arith) (omega arith) e

    -- two lengths, or two widths, give no more than their sum
    pub figure_lengths : (x y w k m : ℕ) → figure_of J weight x w k + figure_of J weight y w m ≤ figure_of J weight (x + y) w (k + m)
    unfolding figure_of
    figure_lengths x y w k m = parts_law Length (x + y, w) x y k m refl refl

    pub figure_widths : (l x y k m : ℕ) → figure_of J weight l x k + figure_of J weight l y m ≤ figure_of J weight l (x + y) (k + m)
    unfolding figure_of
    figure_widths l x y k m = parts_law Width (l, x + y) x y k m refl refl

    -- a rectangle without length or without width has figure 0
    pub figure_no_length : (w c : ℕ) → figure_of J weight 0 w c ≡ 0
    unfolding figure_of
    figure_no_length w c = figure_degenerate (pieces J) (saw 0) enlarges (by_kind weight) Length (0, w) c refl

    pub figure_no_width : (l c : ℕ) → figure_of J weight l 0 c ≡ 0
    unfolding figure_of
    figure_no_width l c = figure_degenerate (pieces J) (saw 0) enlarges (by_kind weight) Width (l, 0) c refl
