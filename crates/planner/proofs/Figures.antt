-- The figure of the promises is that of the theory, and the sentences about figures hold of every sound system.
use Rattle.planner.proofs.Prelude.{◌≡◌, refl, sym, ◌∙◌, ap, ℕ, zero, suc, ◌+◌, ◌-◌, max, sub-zero, Direction, Length, Width, range, greatest, Rect, Tree, Shares, Monotone, Within, Piece, sized, saw, Job, GuillotineTree, widened, pieces, SolidKinds, figure_eq, saw_proper, widened_solid, share_figure, floor_under, single, divided, step, after, figure, System, Recursion, Floors, FiguresMost}
use Rattle.cutting.specs.Figure as old

module _ {S : Type 0} (J : Job) (H : Shares Piece S) where
  -- the cuts of one direction over the same figures
  pub divided_is : (F : ℕ → ℕ → S → ℕ) (G : Rect → S → ℕ) → ((l w : ℕ) (s : S) → F l w s ≡ G (l, w) s) → (d : Direction) (l w : ℕ) (s : S) → divided J H F d l w s ≡ old.best (saw 0) H G d (l, w) s
  unfolding old.best saw
  divided_is F G h Length l w s = λ i. greatest (λ x. greatest (λ q. h x w q.0 i + (h (l - x) w q.1 ∙ ap (λ z. G (z, w) q.1) (sym (sub-zero (l - x)))) i) (H.splits Length s)) (range 1 (sym (sub-zero (l - 1)) i))
  divided_is F G h Width l w s = λ i. greatest (λ x. greatest (λ q. h l x q.0 i + (h l (w - x) q.1 ∙ ap (λ z. G (l, z) q.1) (sym (sub-zero (w - x)))) i) (H.splits Width s)) (range 1 (sym (sub-zero (w - 1)) i))

  pub single_is : (l w : ℕ) (s : S) → single J H l w s ≡ old.leaf (pieces J) H (l, w) s
  unfolding single old.leaf pieces sized
  single_is l w s = refl

  -- a step over the same figures
  step_is : (F : ℕ → ℕ → S → ℕ) (G : Rect → S → ℕ) → ((l w : ℕ) (s : S) → F l w s ≡ G (l, w) s) → (l w : ℕ) (s : S) → step J H F l w s ≡ old.step (pieces J) (saw 0) H G (l, w) s
  unfolding old.step
  step_is F G h l w s = λ i. max (single_is l w s i) (max (divided_is F G h Length l w s i) (divided_is F G h Width l w s i))

  after_is : (n l w : ℕ) (s : S) → after J H n l w s ≡ old.after (pieces J) (saw 0) H n (l, w) s
  unfolding after old.after
  after_is zero l w s = refl
  after_is (suc n) l w s = step_is (after J H n) (old.after (pieces J) (saw 0) H n) (after_is n) l w s

  pub figure_is : (l w : ℕ) (s : S) → figure J H l w s ≡ old.figure (pieces J) (saw 0) H (l, w) s
  unfolding figure old.figure
  figure_is l w s = after_is (suc (l + w)) l w s

  pub recursion : Recursion J H
  recursion l w s = figure_is l w s ∙ (figure_eq (pieces J) (saw 0) H (saw_proper 0) (l, w) s ∙ sym (step_is (figure J H) (old.figure (pieces J) (saw 0) H) figure_is l w s))

-- the trees within a share are those that its divisions admit
pub record Sound {S : Type 0} (J : Job) (Y : System S) : Type 0 where
  pub monotone : Monotone Y.shares
  pub enter : (t : Tree Piece) (l w : ℕ) (s : S) → Y.Share s → GuillotineTree J l w t → Y.Within s t → Within Y.shares s t
  pub leave : (t : Tree Piece) (l w : ℕ) (s : S) → Y.Share s → GuillotineTree J l w t → Within Y.shares s t → Y.Within s t

module _ {S : Type 0} (J : Job) (Y : System S) (solid : SolidKinds J) (sound : Sound J Y) where
  pub figures_most : FiguresMost J Y
  figures_most l w s h = rw (figure_is (widened J) Y.shares (l + J.kerf) (w + J.kerf) s)
      (share_figure J solid Y.shares sound.monotone (Y.Within s) l w s (λ t g a. sound.enter t l w s h g a) (λ t g a. sound.leave t l w s h g a))

  pub floors : Floors (widened J) Y.shares
  floors l w s a b = figure_is (widened J) Y.shares l w s ∙ (floor_under (widened J) Y.shares sound.monotone (widened_solid J solid) l w s a b ∙ sym (figure_is (widened J) Y.shares _ _ s))
