-- The recursion is well defined: its equation, by induction over the half perimeter.
use Rattle.cutting.proofs.Prelude.{◌≡◌, refl, ◌∙◌, ap, ap₂, List-as-Memᴰ, ℕ, zero, suc, ◌+◌, ◌<◌, max, arith, Direction, Length, Width, greatest, Rect, side, part, Pieces, Saw, Shares, beyond, Proper, half_perimeter, leaf, best, step, after, figure}
use Rattle.cutting.proofs.Greatest.{greatest_cong}

-- both parts of a cut are smaller
pub smaller : (C : Saw) → Proper C → (d : Direction) (r : Rect) (x : ℕ) → List-as-Memᴰ x (C.cuts d (side d r))
    → (half_perimeter (part d x r) < half_perimeter r) × (half_perimeter (beyond C d x r) < half_perimeter r)
smaller C proper Length r x m = let h = proper Length r.0 x m in omega arith
smaller C proper Width r x m = let h = proper Width r.1 x m in omega arith

module _ {P S : Type 0} (K : Pieces P) (C : Saw) (H : Shares P S) (proper : Proper C) where
  -- a step reads its figure at smaller rectangles only
  step_cong : (F G : Rect → S → ℕ) (r : Rect) (s : S) → ((q : Rect) (u : S) → half_perimeter q < half_perimeter r → F q u ≡ G q u)
      → step K C H F r s ≡ step K C H G r s
  unfolding step best
  step_cong F G r s h = ap₂ (λ a b. max (leaf K H r s) (max a b)) (same Length) (same Width)
    where
      same : (d : Direction) → best C H F d r s ≡ best C H G d r s
      same d = greatest_cong _ _ (C.cuts d (side d r)) (λ x m.
          (let l = smaller C proper d r x m in
          greatest_cong _ _ (H.splits d s) (λ q k. ap₂ ◌+◌ (h (part d x r) q.0 l.0) (h (beyond C d x r) q.1 l.1))))

  enough : (n k : ℕ) (r : Rect) (s : S) → half_perimeter r < n → half_perimeter r < k → after K C H n r s ≡ after K C H k r s
  unfolding after
  enough zero k r s h g = absurd (omega arith)
  enough (suc n) zero r s h g = absurd (omega arith)
  enough (suc n) (suc k) r s h g = step_cong (after K C H n) (after K C H k) r s (λ q u c. enough n k q u (omega arith) (omega arith))

  -- the recursion's equation
  pub figure_eq : (r : Rect) (s : S) → figure K C H r s ≡ step K C H (figure K C H) r s
  unfolding figure after
  figure_eq r s = step_cong (after K C H (half_perimeter r)) (figure K C H) r s
      (λ q u c. enough (half_perimeter r) (suc (half_perimeter q)) q u c (omega arith))

-- the figure reads of the pieces what one alone gives, and of the shares how they are divided
module _ {P P' S : Type 0} (K : Pieces P) (K' : Pieces P') (C : Saw) (H : Shares P S) (H' : Shares P' S) (leaves : (r : Rect) (s : S) → leaf K H r s ≡ leaf K' H' r s)
    (splits : (d : Direction) (s : S) → H.splits d s ≡ H'.splits d s) where
  best_same : (F G : Rect → S → ℕ) → ((r : Rect) (s : S) → F r s ≡ G r s) → (d : Direction) (r : Rect) (s : S) → best C H F d r s ≡ best C H' G d r s
  unfolding best
  best_same F G h d r s = greatest_cong _ _ (C.cuts d (side d r))
      (λ x m. (greatest_cong _ _ (H.splits d s) (λ q k. ap₂ ◌+◌ (h (part d x r) q.0) (h (beyond C d x r) q.1))
      ∙ ap (greatest (λ q. G (part d x r) q.0 + G (beyond C d x r) q.1)) (splits d s)))

  after_same : (n : ℕ) (r : Rect) (s : S) → after K C H n r s ≡ after K' C H' n r s
  unfolding after step
  after_same zero r s = refl
  after_same (suc n) r s = ap₂ max (leaves r s) (ap₂ max (best_same (after K C H n) (after K' C H' n) (after_same n) Length r s)
      (best_same (after K C H n) (after K' C H' n) (after_same n) Width r s))

  pub figure_same : (r : Rect) (s : S) → figure K C H r s ≡ figure K' C H' r s
  unfolding figure
  figure_same r s = after_same (suc (half_perimeter r)) r s
