-- The figures of the blocks over an order of states: a state above, larger sides, two parts along the block's direction, one stage fewer,
-- what makes a cell of a block complete; over one weight they are the blocks of the scope. And the layout of the blocks.
use Rattle.table.proofs.Prelude.{◌≡◌, sym, ◌∙◌, ap, Bool, ◌&&◌, List, ℕ, zero, suc, ◌+◌, ◌-◌, ◌*◌, ◌/◌, ◌≤◌, ◌<◌, max, mul-le-mul_right, ℕ_discrete, arith, T, leb, get_or, Direction, Length, Width, range, only, filter, greatest, Rect, side, part, Shares, leaf, best, figure, Piece, kind, ◌⊑◌, fits_in, sized, saw, saw_half, other, staged, Job, laid, MayLie, members, pieces, by_kind, normal_side, normal_floor, block, InTableRange, leaf_ge, best_ge, figure_upper, figure_attained, figure_within, saw_cut, saw_proper, Enlarges, figure_mono, fits_in_true, units_enlarge, figure_area, lie_member, member_kind, members_solid, table_solid, within_weight, weight_within, staged_within, within_staged, staged_fewer, staged_eq, staged_none, staged_half, block_figure, sides_suffice, Positions, block_number, Half, remainder, by_state, Order, block_at}
use Rattle.table.proofs.Figures.{entry_side}
use Rattle.table.proofs.Shares.{state_split, within_above, by_state_monotone, by_state_symmetric}
use Rattle.table.proofs.Weighed.{one_within, within_one}
use Rattle.table.proofs.Covered.{Joins}
use Rattle.table.proofs.Complete.{half_le}

module _ (J : Job) (le : ℕ → ℕ → Bool) (own : ℕ → ℕ) where
  -- the figure of a block, its first cuts in direction e, where a rectangle has x on its side d and o on the other
  abbrev pub sided : Direction → ℕ → Direction → ℕ → ℕ → ℕ → ℕ
  sided e k Length o x s = block_at J le own k e x o s
  sided e k Width o x s = block_at J le own k e o x s

module _ (J : Job) (le : ℕ → ℕ → Bool) (own : ℕ → ℕ) (order : Order le) (fit : InTableRange J) where
  -- shares of the states
  abbrev H : Shares Piece ℕ
  H = by_state le (λ p. own (kind p))

  enlarges : Enlarges (pieces J) (saw 0)
  unfolding pieces
  enlarges = units_enlarge (members J) (λ p. J.price (kind p)) (laid J) (members_solid J (table_solid J fit)) 0

  -- a state above gives no less
  pub block_above : (k : ℕ) (d : Direction) (l w t s : ℕ) → T (le t s) → block_at J le own k d l w t ≤ block_at J le own k d l w s
  unfolding block_at
  block_above k d l w t s h =
      let f = figure_attained (pieces J) (saw 0) (staged H) (saw_proper 0) (l, w) (d, k, t) in
      let v = staged_within H f.0 d k t f.2 in
      omega (arith, f.3, figure_upper (pieces J) (saw 0) (staged H) (saw_proper 0) f.0 (l, w) (d, k, s) f.1 (within_staged H f.0 d k s v.0 (within_above le order (λ p. own (kind p)) f.0 t s h v.1)))

  -- larger sides give no less
  pub block_larger : (k : ℕ) (d : Direction) (l w l' w' s : ℕ) → l ≤ l' → w ≤ w' → block_at J le own k d l w s ≤ block_at J le own k d l' w' s
  unfolding block_at
  block_larger k d l w l' w' s h g = figure_mono (pieces J) (saw 0) enlarges (staged H) (l, w) (l', w') (d, k, s) (h, g)

  -- nor does one stage more, the other direction first
  pub block_prior : (k : ℕ) (d : Direction) (l w s : ℕ) → block_at J le own k (other d) l w s ≤ block_at J le own (suc k) d l w s
  unfolding block_at
  block_prior k d l w s = staged_fewer (pieces J) (saw 0) H (saw_proper 0) d k (l, w) s

  -- no figure is above the area times the greatest price
  pub block_ceiling : (k : ℕ) (d : Direction) (l w s : ℕ) → block_at J le own k d l w s ≤ l * w * 1000000
  unfolding block_at pieces
  block_ceiling k d l w s = figure_area (members J) (λ p. J.price (kind p)) (laid J) (members_solid J (table_solid J fit)) 0 (staged H) 1000000
      (λ p m. fit.prices (kind p) (member_kind J p m)) (l, w) (d, k, s)

  -- so none is above 1,020,000,000 for each unit of its width
  pub block_low : (k : ℕ) (d : Direction) (l w s : ℕ) → l ≤ 1020 → block_at J le own k d l w s ≤ w * 1020000000
  block_low k d l w s h = omega (arith, block_ceiling k d l w s, mul-le-mul_right {m = l} {n = 1020} w h)

  -- without a stage no cut, whichever direction is asked for
  pub block_uncut : (d : Direction) (l w s : ℕ) → block_at J le own 0 d l w s ≡ greatest (λ p. only (fits_in (laid J p) (l, w) && le (own (kind p)) s) (J.price (kind p))) (members J)
  unfolding block_at leaf pieces sized by_state
  block_uncut d l w s = staged_none (pieces J) (saw 0) H (saw_proper 0) d (l, w) s

  -- a piece that fits and whose state is below
  pub block_single : (d : Direction) (q : Piece) (l w s : ℕ) → MayLie J q → (laid J q).0 ≤ l → (laid J q).1 ≤ w → T (le (own (kind q)) s) → J.price (kind q) ≤ block_at J le own 0 d l w s
  unfolding block_at pieces sized by_state
  block_single d q l w s h u v m = omega (
    arith,
    leaf_ge (pieces J) (saw 0) H q (l, w) s (lie_member J q h) (fits_in_true (laid J q) (l, w) (u, v)) m,
    staged_none (pieces J) (saw 0) H (saw_proper 0) d (l, w) s,
  )

  cut_most : (k : ℕ) (d : Direction) (r : Rect) (x t u : ℕ) → 1 ≤ x → x < side d r → T (le t (t + u))
      → figure (pieces J) (saw 0) (staged H) (part d x r) (d, suc k, t) + figure (pieces J) (saw 0) (staged H) (part d (side d r - x - 0) r) (d, suc k, u) ≤ figure (pieces J) (saw 0) (staged H) r (d, suc k, t + u)
  unfolding saw
  cut_most k d r x t u p q c = omega (
    arith,
    best_ge (pieces J) (saw 0) H (λ q v. figure (pieces J) (saw 0) (staged H) q (d, suc k, v)) d r (t + u) x (t, u) (saw_cut 0 d (side d r) x p (omega arith)) (state_split le order (λ (p : Piece). own (kind p)) d t u c),
    staged_eq (pieces J) (saw 0) H (saw_proper 0) d k r (t + u),
  )

  -- along a side
  pub sided_above : (e : Direction) (k : ℕ) (d : Direction) (o x t s : ℕ) → T (le t s) → sided J le own e k d o x t ≤ sided J le own e k d o x s
  sided_above e k Length o x t s h = block_above k e x o t s h
  sided_above e k Width o x t s h = block_above k e o x t s h

  pub sided_larger : (e : Direction) (k : ℕ) (d : Direction) (o o' x x' s : ℕ) → o ≤ o' → x ≤ x' → sided J le own e k d o x s ≤ sided J le own e k d o' x' s
  sided_larger e k Length o o' x x' s h g = block_larger k e x o x' o' s g h
  sided_larger e k Width o o' x x' s h g = block_larger k e o x o' x' s h g

  pub sided_prior : (k : ℕ) (d : Direction) (o x s : ℕ) → sided J le own (other d) k d o x s ≤ sided J le own d (suc k) d o x s
  sided_prior k Length o x s = block_prior k Length x o s
  sided_prior k Width o x s = block_prior k Width o x s

  sided_none : (e : Direction) (k : ℕ) (d : Direction) (o s : ℕ) → sided J le own e k d o 0 s ≡ 0
  sided_none e k Length o s = omega (arith, block_ceiling k e 0 o s)
  sided_none e k Width o s = omega (arith, block_ceiling k e o 0 s)

  whole : (k : ℕ) (d : Direction) (o x y t u : ℕ) → 1 ≤ x → 1 ≤ y → T (le t (t + u)) → sided J le own d (suc k) d o x t + sided J le own d (suc k) d o y u ≤ sided J le own d (suc k) d o (x + y) (t + u)
  unfolding block_at
  whole k Length o x y t u p q c = let e : x + y - x - 0 ≡ y = omega arith in rw e at (cut_most k Length (x + y, o) x t u p (omega arith) c)
  whole k Width o x y t u p q c = let e : x + y - x - 0 ≡ y = omega arith in rw e at (cut_most k Width (o, x + y) x t u p (omega arith) c)

  -- the figures of a block join along the block's direction
  pub sided_joins : (k : ℕ) (d : Direction) (o : ℕ) → Joins le (sided J le own d (suc k) d o)
  sided_joins k d o = record { above = sided_above d (suc k) d o; parts = λ x y t u c. parts x y t u c (ℕ_discrete x 0) (ℕ_discrete y 0) }
    where
      parts : (x y t u : ℕ) → T (le t (t + u)) → Dec (x ≡ 0) → Dec (y ≡ 0) → sided J le own d (suc k) d o x t + sided J le own d (suc k) d o y u ≤ sided J le own d (suc k) d o (x + y) (t + u)
      parts x y t u c (yes e) z = let f : 0 + y ≡ y = omega arith in rw (e, f) (omega (arith, sided_none d (suc k) d o t, sided_above d (suc k) d o y u (t + u) (order.other t u c)))
      parts x y t u c (no n) (yes e) = let f : x + 0 ≡ x = omega arith in rw (e, f) (omega (arith, sided_none d (suc k) d o u, sided_above d (suc k) d o x t (t + u) c))
      parts x y t u c (no n) (no m) = whole k d o x y t u (omega arith) (omega arith) c

  half_best : (k : ℕ) (d : Direction) (r : Rect) (s : ℕ) → r ⊑ J.plate → figure (pieces J) (saw 0) (staged H) r (d, suc k, s)
      ≡ max (figure (pieces J) (saw 0) (staged H) r (other d, k, s)) (best (saw_half (normal_side J)) H (λ q u. figure (pieces J) (saw 0) (staged H) q (d, suc k, u)) d r s)
  unfolding pieces
  half_best k d r s on = staged_half (members J) (λ p. J.price (kind p)) (laid J) (members_solid J (table_solid J fit)) H (by_state_monotone le order (λ p. own (kind p))) (by_state_symmetric le order (λ p. own (kind p)))
      J.plate (normal_side J) (sides_suffice J) d k r s on

  -- the same along a side
  half_side : (k : ℕ) (d : Direction) (o x s : ℕ) → o ≤ side (other d) J.plate → x ≤ side d J.plate → sided J le own d (suc k) d o x s
      ≡ max (sided J le own (other d) k d o x s)
      (greatest (λ y. greatest (λ q. sided J le own d (suc k) d o y q.0 + sided J le own d (suc k) d o (normal_floor J d (x - y)) q.1) ((by_state {P = Piece} le (λ p. own (kind p))).splits d s)) (filter (normal_side J d) (range 1 (x / 2))))
  unfolding block_at best saw_half
  half_side k Length o x s h g = half_best k Length (x, o) s (g, h)
  half_side k Width o x s h g = half_best k Width (o, x) s (h, g)

  -- a cell of a block is complete: the other direction's with one stage fewer and the cuts up to half of its side give it its figure
  module _ (k : ℕ) (d : Direction) (count : ℕ) (positions floors : List ℕ) (given : Positions J d count positions floors) (o a half_end s g : ℕ) (ha : a < count)
      (on : o ≤ side (other d) J.plate) (half : Half positions a half_end) (prior : sided J le own (other d) k d o (get_or positions a 0) s ≤ g)
      (cuts : (i : ℕ) → 1 ≤ i → i < half_end → (e m : ℕ) → T (le e (e + m)) → e + m ≡ s → sided J le own d (suc k) d o (get_or positions i 0) e + sided J le own d (suc k) d o (get_or positions (remainder positions floors a i) 0) m ≤ g) where
    pub block_complete : sided J le own d (suc k) d o (get_or positions a 0) s ≤ g
    block_complete = omega (
      arith,
      half_side k d o (get_or positions a 0) s on (entry_side J d count positions floors fit given a ha),
      half_le J le order fit d count positions floors given (sided J le own d (suc k) d o) (sided_joins k d o) own a half_end s g ha half cuts,
    )

-- over one weight the blocks are the scope's
pub block_one : (J : Job) (weight : ℕ → ℕ) (k : ℕ) (d : Direction) (l w c : ℕ) → block_at J leb weight k d l w c ≡ block J weight k d l w c
unfolding block_at
block_one J weight k d l w c =
    let heavy : Piece → ℕ = λ p. weight (kind p) in
    figure_within (pieces J) (saw 0) (saw_proper 0) (staged (by_state leb heavy)) (staged (by_kind weight)) (l, w) (d, k, c) (d, k, c)
    (λ t h. (let v = staged_within (by_state leb heavy) t d k c h in within_staged (by_kind weight) t d k c v.0 (weight_within heavy t c (one_within heavy t c v.1))))
    (λ t h. (let v = staged_within (by_kind weight) t d k c h in within_staged (by_state leb heavy) t d k c v.0 (within_one heavy t c (within_weight heavy t c v.1))))
    ∙ sym (block_figure J weight k d l w c)

-- a block up to the limit is one of 2n + 1
pub block_number_below : (n k : ℕ) (d : Direction) → k ≤ n → block_number k d < 2 * n + 1
block_number_below n k Length h = omega arith
block_number_below n k Width h = omega arith

-- a block's source comes before it
pub block_number_source : (k : ℕ) (d : Direction) → block_number k (other d) < block_number (suc k) d
block_number_source k Length = omega arith
block_number_source k Width = omega arith

-- blocks of the same number hold the same figures: from stage 1 on each has a number of its own
pub block_number_apart : (J : Job) (le : ℕ → ℕ → Bool) (own : ℕ → ℕ) → Order le → InTableRange J → (k m : ℕ) (d e : Direction) → block_number k d ≡ block_number m e → block_at J le own k d ≡ block_at J le own m e
block_number_apart J le own order fit zero zero d e h = λ i l w s. (block_uncut J le own order fit d l w s ∙ sym (block_uncut J le own order fit e l w s)) i
block_number_apart J le own order fit zero (suc m) Length Length h = absurd (omega arith)
block_number_apart J le own order fit zero (suc m) Length Width h = absurd (omega arith)
block_number_apart J le own order fit zero (suc m) Width Length h = absurd (omega arith)
block_number_apart J le own order fit zero (suc m) Width Width h = absurd (omega arith)
block_number_apart J le own order fit (suc k) zero Length Length h = absurd (omega arith)
block_number_apart J le own order fit (suc k) zero Length Width h = absurd (omega arith)
block_number_apart J le own order fit (suc k) zero Width Length h = absurd (omega arith)
block_number_apart J le own order fit (suc k) zero Width Width h = absurd (omega arith)
block_number_apart J le own order fit (suc k) (suc m) Length Length h = ap (λ k. block_at J le own k Length) (omega arith)
block_number_apart J le own order fit (suc k) (suc m) Length Width h = absurd (omega arith)
block_number_apart J le own order fit (suc k) (suc m) Width Length h = absurd (omega arith)
block_number_apart J le own order fit (suc k) (suc m) Width Width h = ap (λ k. block_at J le own k Width) (omega arith)
