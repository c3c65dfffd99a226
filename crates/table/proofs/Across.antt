-- Laws of a job's figures over an order of states: states above, longer sides, two parts, single kinds, the ceiling, and half of the cuts.
use Rattle.table.proofs.Prelude.{◌≡◌, Bool, ◌&&◌, ℕ, ◌+◌, ◌-◌, ◌*◌, ◌/◌, ◌≤◌, ◌<◌, max, mul-le-mul_right, ℕ_discrete, arith, T, Direction, Length, Width, range, only, filter, greatest, Rect, side, part, leaf, best, step, figure, Piece, kind, fits_in, sized, saw, saw_half, Job, laid, MayLie, members, pieces, normal_side, normal_floor, InTableRange, figure_eq, leaf_ge, best_ge, step_ge, saw_cut, saw_proper, fits_in_true, figure_area, half_figure, lie_member, member_kind, members_solid, table_solid, sides_suffice, by_state, Order, figure_at}
use Rattle.table.proofs.Covered.{Joins, more_along}
use Rattle.table.proofs.Shares.{state_split, by_state_monotone, by_state_symmetric, figure_above}

module _ (J : Job) (le : ℕ → ℕ → Bool) (own : ℕ → ℕ) where
  -- the figure of a rectangle with one side given as x and the other as o
  abbrev pub across : Direction → ℕ → ℕ → ℕ → ℕ
  across Length o x s = figure_at J le own x o s
  across Width o x s = figure_at J le own o x s

module _ (J : Job) (le : ℕ → ℕ → Bool) (own : ℕ → ℕ) (order : Order le) (fit : InTableRange J) where
  -- the state of a piece
  abbrev at : Piece → ℕ
  at p = own (kind p)

  -- a state above gives no less
  pub state_above : (l w t s : ℕ) → T (le t s) → figure_at J le own l w t ≤ figure_at J le own l w s
  unfolding figure_at
  state_above l w t s h = figure_above le order at (pieces J) (saw 0) (saw_proper 0) (l, w) t s h

  -- no figure is above the area times the greatest price
  pub state_ceiling : (l w s : ℕ) → figure_at J le own l w s ≤ l * w * 1000000
  unfolding figure_at pieces
  state_ceiling l w s = figure_area (members J) (λ p. J.price (kind p)) (laid J) (members_solid J (table_solid J fit)) 0 (by_state le at) 1000000
      (λ p m. fit.prices (kind p) (member_kind J p m)) (l, w) s

  -- so none is above 1,020,000,000 for each unit of its width
  pub state_low : (l w s : ℕ) → l ≤ 1020 → figure_at J le own l w s ≤ w * 1020000000
  state_low l w s h = omega (arith, state_ceiling l w s, mul-le-mul_right {m = l} {n = 1020} w h)

  -- a piece that fits and whose state is below earns no more than the figure
  pub piece_most : (q : Piece) (l w s : ℕ) → MayLie J q → (laid J q).0 ≤ l → (laid J q).1 ≤ w → T (le (own (kind q)) s) → J.price (kind q) ≤ figure_at J le own l w s
  unfolding figure_at pieces sized step by_state
  piece_most q l w s h u v m = omega (
    arith,
    leaf_ge (pieces J) (saw 0) (by_state le at) q (l, w) s (lie_member J q h) (fits_in_true (laid J q) (l, w) (u, v)) m,
    figure_eq (pieces J) (saw 0) (by_state le at) (saw_proper 0) (l, w) s,
  )

  cut_most : (d : Direction) (r : Rect) (x k m : ℕ) → 1 ≤ x → x < side d r → T (le k (k + m))
      → figure (pieces J) (saw 0) (by_state le at) (part d x r) k + figure (pieces J) (saw 0) (by_state le at) (part d (side d r - x - 0) r) m
      ≤ figure (pieces J) (saw 0) (by_state le at) r (k + m)
  unfolding saw
  cut_most d r x k m p q c = omega (
    arith,
    best_ge (pieces J) (saw 0) (by_state le at) (figure (pieces J) (saw 0) (by_state le at)) d r (k + m) x (k, m) (saw_cut 0 d (side d r) x p (omega arith)) (state_split le order at d k m c),
    step_ge (pieces J) (saw 0) (by_state le at) (figure (pieces J) (saw 0) (by_state le at)) d r (k + m),
    figure_eq (pieces J) (saw 0) (by_state le at) (saw_proper 0) r (k + m),
  )

  -- a cut between two parts gives no more than the whole
  whole : (d : Direction) (o x y k m : ℕ) → 1 ≤ x → 1 ≤ y → T (le k (k + m)) → across J le own d o x k + across J le own d o y m ≤ across J le own d o (x + y) (k + m)
  unfolding figure_at
  whole Length o x y k m p q c = let e : x + y - x - 0 ≡ y = omega arith in rw e at (cut_most Length (x + y, o) x k m p (omega arith) c)
  whole Width o x y k m p q c = let e : x + y - x - 0 ≡ y = omega arith in rw e at (cut_most Width (o, x + y) x k m p (omega arith) c)

  pub no_side : (d : Direction) (o s : ℕ) → across J le own d o 0 s ≡ 0
  no_side Length o s = omega (arith, state_ceiling 0 o s)
  no_side Width o s = omega (arith, state_ceiling o 0 s)

  pub across_above : (d : Direction) (o x t s : ℕ) → T (le t s) → across J le own d o x t ≤ across J le own d o x s
  across_above Length o x t s h = state_above x o t s h
  across_above Width o x t s h = state_above o x t s h

  pub two_parts : (d : Direction) (o x y k m : ℕ) → T (le k (k + m)) → across J le own d o x k + across J le own d o y m ≤ across J le own d o (x + y) (k + m)
  two_parts d o x y k m c = go (ℕ_discrete x 0) (ℕ_discrete y 0)
    where
      go : Dec (x ≡ 0) → Dec (y ≡ 0) → across J le own d o x k + across J le own d o y m ≤ across J le own d o (x + y) (k + m)
      go (yes e) z = let f : 0 + y ≡ y = omega arith in rw (e, f) (omega (arith, no_side d o k, across_above d o y m (k + m) (order.other k m c)))
      go (no n) (yes e) = let f : x + 0 ≡ x = omega arith in rw (e, f) (omega (arith, no_side d o m, across_above d o x k (k + m) c))
      go (no n) (no u) = whole d o x y k m (omega arith) (omega arith) c

  -- so the figures along a side join
  pub across_joins : (d : Direction) (o : ℕ) → Joins le (across J le own d o)
  across_joins d o = record { above = across_above d o; parts = two_parts d o }

  -- a longer side gives no less
  pub more_side : (d : Direction) (o x y s : ℕ) → x ≤ y → across J le own d o x s ≤ across J le own d o y s
  more_side d o = more_along le order (across J le own d o) (across_joins d o)

  -- the recursion over cuts at normal positions up to half of a side, the remainder counted down to a normal position
  pub state_half : (l w s : ℕ) → l ≤ J.plate.0 → w ≤ J.plate.1 → figure_at J le own l w s ≡
      max (greatest (λ q. only (fits_in (laid J q) (l, w) && le (own (kind q)) s) (J.price (kind q))) (members J))
      (max (greatest (λ x. greatest (λ q. across J le own Length w x q.0 + across J le own Length w (normal_floor J Length (l - x)) q.1) ((by_state {P = Piece} le at).splits Length s))
      (filter (normal_side J Length) (range 1 (l / 2))))
      (greatest (λ x. greatest (λ q. across J le own Width l x q.0 + across J le own Width l (normal_floor J Width (w - x)) q.1) ((by_state {P = Piece} le at).splits Width s))
      (filter (normal_side J Width) (range 1 (w / 2)))))
  unfolding figure_at step leaf best pieces sized saw_half by_state
  state_half l w s h k = half_figure (members J) (λ p. J.price (kind p)) (laid J) (members_solid J (table_solid J fit)) (by_state le at) (by_state_monotone le order at)
      J.plate (normal_side J) (sides_suffice J) (by_state_symmetric le order at) (l, w) s (h, k)
