-- The written plan has no idle cut: a cut is chosen only where the figure is above 0, and what earns something holds a piece.
use Rattle.cutting.proofs.Prelude.{◌≡◌, refl, sym, subst, Bool, true, false, ℕ, zero, suc, ◌≤◌, ◌<◌, dec_lt, arith, eqb, Rect, part, Tree, waste, piece, cut, Pieces, Saw, Shares, beyond, Proper, total, Guillotine, piece_count, IdleFree, half_perimeter, figure, Choice, as_waste, as_piece, as_cut, or_zero, choice, follow, written}
use Rattle.cutting.proofs.Tests.{eqb_positive}
use Rattle.cutting.proofs.Recursion.{smaller}
use Rattle.cutting.proofs.Choice.{written_earns, written_eq}

module _ {P : Type 0} (f : P → ℕ) where
  -- a tree without a piece earns nothing
  pub pieceless_total : (t : Tree P) → piece_count t ≤ 0 → total f t ≤ 0
  unfolding total
  pieceless_total waste h = omega arith
  pieceless_total (piece p) h = absurd (omega (arith, h))
  pieceless_total (cut d x a b) h = omega (arith, pieceless_total a (omega (arith, h)), pieceless_total b (omega (arith, h)))

  -- so a tree that earns something holds one
  earning_piece : (t : Tree P) → 0 < total f t → 1 ≤ piece_count t
  earning_piece t h = go (dec_lt 0 (piece_count t))
    where
      go : Dec (0 < piece_count t) → 1 ≤ piece_count t
      go (yes l) = omega (arith, l)
      go (no l) = absurd (omega (arith, h, pieceless_total t (omega (arith, l))))

module _ {P S : Type 0} (K : Pieces P) (C : Saw) (H : Shares P S) (proper : Proper C) where
  -- a choice that is a cut, where the figure n is above 0
  abbrev Cuts : ℕ → Choice P S → Type 0
  Cuts n as_waste = Unit {0}
  Cuts n (as_piece p) = Unit {0}
  Cuts n (as_cut d x q) = 0 < n

  cuts_any : (n : ℕ) (c : Choice P S) → 0 < n → Cuts n c
  cuts_any n as_waste h = tt
  cuts_any n (as_piece p) h = tt
  cuts_any n (as_cut d x q) h = h

  cuts_zero : (n : ℕ) (b : Bool) (c : Choice P S) → eqb n 0 ≡ b → Cuts n (or_zero b c)
  cuts_zero n true c e = tt
  cuts_zero n false c e = cuts_any n c (eqb_positive n e)

  choice_positive : (r : Rect) (s : S) → Cuts (figure K C H r s) (choice K C H r s)
  unfolding choice
  choice_positive r s = cuts_zero (figure K C H r s) (eqb (figure K C H r s) 0) _ refl

  follow_idle : (r : Rect) (s : S) (c : Choice P S) → Cuts (figure K C H r s) c → written K C H r s ≡ follow K C H (written K C H) r c
      → ((q : Rect) (u : S) → half_perimeter q < half_perimeter r → IdleFree (written K C H q u)) → IdleFree (follow K C H (written K C H) r c)
  unfolding total
  follow_idle r s as_waste p e f = tt
  follow_idle r s (as_piece x) p e f = tt
  follow_idle r s (as_cut d x q) p e f =
      let w = written_earns K C H proper r s in
      let g = subst (Guillotine K C r) e w.0 in
      let l = smaller C proper d r x g.0 in
      let h : 1 ≤ piece_count (written K C H r s) = earning_piece K.price (written K C H r s) (omega (arith, w.2, p)) in
      (subst (λ t. 1 ≤ piece_count t) e h, f (part d x r) q.0 l.0, f (beyond C d x r) q.1 l.1)

  written_within : (n : ℕ) (r : Rect) (s : S) → half_perimeter r < n → IdleFree (written K C H r s)
  written_within zero r s h = absurd (omega arith)
  written_within (suc n) r s h =
      let e = written_eq K C H proper r s in
      subst IdleFree (sym e) (follow_idle r s (choice K C H r s) (choice_positive r s) e (λ q u l. written_within n q u (omega arith)))

  -- the written plan has no idle cut
  pub written_idle : (r : Rect) (s : S) → IdleFree (written K C H r s)
  written_idle r s = written_within (suc (half_perimeter r)) r s (omega arith)
