-- A written plan of the widened pieces, as the saw cuts it: it is a tree of the pieces themselves that loses the blade's width at each cut,
-- and has the same pieces, since a part no larger than the blade's width holds none.
use Rattle.cutting.proofs.Prelude.{◌≡◌, refl, ap, ap₂, Bool, true, false, List, List-as-Memᴰ, ℕ, ◌+◌, ◌-◌, ◌≤◌, ◌<◌, arith, ltb-true, ltb-false, T, Direction, Length, Width, Rect, side, part, Tree, waste, piece, cut, total, IdleFree, Proper, Guillotine, wider, ◌⊑◌, sized, Solid, saw, saw_written, cut_remains, or_first, sawn}
use Rattle.cutting.proofs.Floor.{floor_le}
use Rattle.cutting.proofs.Saws.{saw_cut, cut_written}
use Rattle.cutting.proofs.Enlarge.{part_within, side_part, enlarge}
use Rattle.cutting.proofs.Transfer.{through, through_side, through_part}
use Rattle.cutting.proofs.Pieces.{fits_in_true, true_fits_in, units_enlarge}
use Rattle.cutting.proofs.Ceiling.{none_fits}

-- what lies beyond a cut that remains is above the blade's width
remains_above : (k n : ℕ) → cut_remains k n ≡ true → k < n
remains_above k n e = ltb-true k n e

left_out : (k n : ℕ) → cut_remains k n ≡ false → n ≤ k
left_out k n e = ltb-false k n e

sawn_first : (k n x : ℕ) → k < x → k < n - x → x - k + k < n - k
sawn_first k n x h l = omega arith

sawn_rest : (k n x : ℕ) → k < x → k < n - x → n - k - (x - k) - k ≡ n - x - k
sawn_rest k n x h l = let e : n - k - (x - k) ≡ n - x = omega arith in rw e refl

module _ {P : Type 0} (ps : List P) (price : P → ℕ) (size wide : P → Rect) (solid : Solid ps size) (k : ℕ) (widens : (p : P) → wide p ≡ wider k (size p))
    (N : Direction → ℕ → Bool) (above : (d : Direction) (x : ℕ) → 0 < x → T (N d x) → k < x) where
  -- a cut of the plan: above the blade's width, and below the side
  plan_cut : (d : Direction) (n x : ℕ) → List-as-Memᴰ x ((saw_written N).cuts d n) → (k < x) × (x < n)
  plan_cut d n x m = let h = cut_written N d n x m in omega (arith, h.0, h.1, above d x h.0 h.2, floor_le (N d) n)

  plan_proper : Proper (saw_written N)
  unfolding saw_written
  plan_proper d n x m = let h = plan_cut d n x m in omega arith

  -- a part no larger than the blade's width holds no piece
  no_piece : (f : P → ℕ) (d : Direction) (t : Tree P) (r : Rect) → side d r ≤ k → Guillotine (sized ps price wide) (saw_written N) r t → total f t ≡ 0
  no_piece f d t r h g = none_fits ps price wide (saw_written N) plan_proper f r (λ p m l. absurd (small d p m l h)) t r (omega arith) g
    where
      small : (d : Direction) (p : P) → List-as-Memᴰ p ps → wide p ⊑ r → side d r ≤ k → ⊥
      small Length p m l h = let z = solid p m in omega (arith, ap (λ u. u.0) (widens p))
      small Width p m l h = let z = solid p m in omega (arith, ap (λ u. u.1) (widens p))

  -- the plan as the saw cuts it has the same pieces
  pub sawn_total : (f : P → ℕ) (t : Tree P) (r : Rect) → Guillotine (sized ps price wide) (saw_written N) r t → total f (sawn k r t) ≡ total f t
  unfolding sawn total saw_written
  sawn_total f waste r g = refl
  sawn_total f (piece p) r g = refl
  sawn_total f (cut d x a b) r g = go (cut_remains k (side d r - x)) refl (sawn_total f a (part d x r) g.1) (sawn_total f b (part d (side d r - x) r) g.2)
    where
      A : Tree P
      A = sawn k (part d x r) a

      B : Tree P
      B = sawn k (part d (side d r - x) r) b

      go : (c : Bool) → cut_remains k (side d r - x) ≡ c → total f A ≡ total f a → total f B ≡ total f b → total f (or_first c d (x - k) A B) ≡ total f a + total f b
      go true e u v = ap₂ ◌+◌ u v
      go false e u v =
          let l : side d (part d (side d r - x) r) ≤ k = rw (side_part d (side d r - x) r) (left_out k (side d r - x) e) in
          omega (arith, u, no_piece f d b (part d (side d r - x) r) l g.2)

  -- and no idle cut where the plan has none
  pub sawn_idle : (t : Tree P) (r : Rect) → Guillotine (sized ps price wide) (saw_written N) r t → IdleFree t → IdleFree (sawn k r t)
  unfolding sawn saw_written
  sawn_idle waste r g f = tt
  sawn_idle (piece p) r g f = tt
  sawn_idle (cut d x a b) r g f = go (cut_remains k (side d r - x)) (sawn_idle a (part d x r) g.1 f.1) (sawn_idle b (part d (side d r - x) r) g.2 f.2)
    where
      A : Tree P
      A = sawn k (part d x r) a

      B : Tree P
      B = sawn k (part d (side d r - x) r) b

      go : (c : Bool) → IdleFree A → IdleFree B → IdleFree (or_first c d (x - k) A B)
      go true u v = (omega (arith, f.0, sawn_total (λ p. 1) a (part d x r) g.1, sawn_total (λ p. 1) b (part d (side d r - x) r) g.2), u, v)
      go false u v = u

  -- both sides less the blade's width
  abbrev pub narrowed : Rect → Rect
  narrowed r = through (λ d n. n - k) r

  -- and is a tree that loses the blade's width at each cut
  pub sawn_tree : (t : Tree P) (r : Rect) → Guillotine (sized ps price wide) (saw_written N) r t → Guillotine (sized ps price size) (saw k) (narrowed r) (sawn k r t)
  unfolding sawn sized saw saw_written
  sawn_tree waste r g = tt
  sawn_tree (piece p) r g =
      (g.0, fits_in_true (size p) (narrowed r) (let l = true_fits_in (wide p) r g.1 in omega (arith, ap (λ u. u.0) (widens p), ap (λ u. u.1) (widens p))))
  sawn_tree (cut d x a b) r g = go (cut_remains k (side d r - x)) refl
      (rw (through_part (λ d n. n - k) d x r) at (sawn_tree a (part d x r) g.1))
      (rw (through_part (λ d n. n - k) d (side d r - x) r) at (sawn_tree b (part d (side d r - x) r) g.2))
    where
      A : Tree P
      A = sawn k (part d x r) a

      B : Tree P
      B = sawn k (part d (side d r - x) r) b

      h : (k < x) × (x < side d r)
      h = plan_cut d (side d r) x g.0

      go : (c : Bool) → cut_remains k (side d r - x) ≡ c → Guillotine (sized ps price size) (saw k) (part d (x - k) (narrowed r)) A
          → Guillotine (sized ps price size) (saw k) (part d (side d r - x - k) (narrowed r)) B → Guillotine (sized ps price size) (saw k) (narrowed r) (or_first c d (x - k) A B)
      go true e u v =
          let l = remains_above k (side d r - x) e in (
            rw (through_side (λ d n. n - k) d r) (saw_cut k d (side d r - k) (x - k) (omega (arith, h.0)) (sawn_first k (side d r) x h.0 l)),
            u,
            rw (through_side (λ d n. n - k) d r, sawn_rest k (side d r) x h.0 l) v,
          )
      go false e u v = enlarge (sized ps price size) (saw k) (units_enlarge ps price size solid k) A (part d (x - k) (narrowed r)) (narrowed r)
          (part_within d (x - k) (narrowed r) (narrowed r) (omega arith) (rw (through_side (λ d n. n - k) d r) (omega (arith, h.1)))) u
