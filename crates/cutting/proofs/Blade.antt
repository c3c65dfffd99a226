-- The blade's width: trees that lose k at each cut are trees of the same pieces with k added to every side, cut without loss.
use Rattle.cutting.proofs.Prelude.{◌≡◌, refl, List, List-as-Memᴰ, ℕ, ◌+◌, ◌-◌, ◌≤◌, ◌<◌, add-sub_cancel, sub-zero, arith, Direction, Rect, Shares, Monotone, figure, wider, sized, Solid, saw}
use Rattle.cutting.proofs.Saws.{saw_cut, cut_saw, saw_proper}
use Rattle.cutting.proofs.Transfer.{through, CutImage, cut_image, Transfer, figure_transfer}
use Rattle.cutting.proofs.Pieces.{fits_in_true, true_fits_in, units_enlarge}

-- a map by which two parts and the blade between them come to no more than the whole takes a blade's cuts to cuts without loss
adding_image : (k : ℕ) (φ : ℕ → ℕ) → ((a b : ℕ) → φ a + φ b ≤ φ (a + k + b)) → (d : Direction) (n x : ℕ) → List-as-Memᴰ x ((saw k).cuts d n)
    → CutImage (saw k) (saw 0) (λ e. φ) d n x
unfolding saw
adding_image k φ adds d n x m =
    let h = cut_saw k d n x m in
    let e : x + k + (n - x - k) ≡ n = omega arith in
    let l : φ x + φ (n - x - k) ≤ φ n = rw e at (adds x (n - x - k)) in
    cut_image (saw k) (saw 0) (λ e. φ) d n x l (λ a b. (saw_cut 0 d (φ n) (φ x) a (omega arith), omega arith))

narrow_sum : (k n x : ℕ) → x < n → x - k + (n - x - 0 - k) ≤ n - k
narrow_sum k n x h = rw sub-zero (omega arith)

narrow_cut : (k n x : ℕ) → k < x → x + k < n → x - k + k < n - k
narrow_cut k n x h l = omega arith

narrow_rest : (k n x : ℕ) → k < x → x + k < n → n - x - 0 - k ≤ n - k - (x - k) - k
narrow_rest k n x h l =
    let e : n - k - (x - k) ≡ n - x = omega arith in
    rw (e, sub-zero) (omega arith)

module _ {P S : Type 0} (ps : List P) (price : P → ℕ) (size wide : P → Rect) (solid : Solid ps size) (k : ℕ) (widens : (p : P) → wide p ≡ wider k (size p))
    (H : Shares P S) (mono : Monotone H) where
  wide_solid : Solid ps wide
  wide_solid p m = let h = solid p m in rw (widens p) (omega arith)

  -- a tree without loss goes to one that loses k at each cut
  narrow : (plate : Rect) → Transfer (sized ps price wide) (sized ps price size) (saw 0) (saw k) (λ d n. n - k) plate
  unfolding sized saw
  narrow plate = record {
    prices = λ p. refl;
    places = λ p q h i t. (i, fits_in_true (size p) (through (λ d n. n - k) q) (let l = true_fits_in (wider k (size p)) q (rw (widens p) at t) in omega arith));
    images = λ d n x m. (let h = cut_saw 0 d n x m in
        cut_image (saw 0) (saw k) (λ d n. n - k) d n x (narrow_sum k n x (omega arith))
        (λ a b. (saw_cut k d (n - k) (x - k) a (narrow_cut k n x (omega arith) (omega arith)), narrow_rest k n x (omega arith) (omega arith))));
  }

  -- and the other way
  widen : (plate : Rect) → Transfer (sized ps price size) (sized ps price wide) (saw k) (saw 0) (λ d n. n + k) plate
  unfolding sized
  widen plate = record {
    prices = λ p. refl;
    places = λ p q h i t. (i, rw (widens p) (fits_in_true (wider k (size p)) (wider k q) (let l = true_fits_in (size p) q t in omega arith)));
    images = adding_image k (λ n. n + k) (λ a b. omega arith);
  }

  -- the figure with a blade k wide is the figure with k added to every side
  pub blade_figure : (r : Rect) (s : S) → figure (sized ps price size) (saw k) H r s ≡ figure (sized ps price wide) (saw 0) H (wider k r) s
  blade_figure r s =
      let e : through (λ d n. n - k) (wider k r) ≡ r = λ i. (add-sub_cancel r.0 k i, add-sub_cancel r.1 k i) in
      omega (
        arith,
        figure_transfer _ _ (saw k) (saw 0) H (λ d n. n + k) r (widen r) (units_enlarge ps price wide wide_solid 0) (saw_proper k) mono r s (omega arith),
        rw e at (figure_transfer _ _ (saw 0) (saw k) H (λ d n. n - k) (wider k r) (narrow (wider k r)) (units_enlarge ps price size solid k) (saw_proper 0) mono (wider k r) s (omega arith)),
      )
