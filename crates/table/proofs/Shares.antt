-- The shares of an order of states are monotone and symmetric, so what holds of figures in general holds of theirs.
use Rattle.table.proofs.Prelude.{◌≡◌, sym, ap, Bool, List-as-Memᴰ, ℕ, suc, ◌+◌, ◌-◌, ◌≤◌, arith, T, Direction, range, filter, Rect, Tree, waste, piece, cut, Pieces, Saw, Proper, Within, Monotone, Symmetric, figure, range_mem, map_mem, mem_map, filter_mem, mem_filter, figure_upper, figure_attained, by_state, Order}

module _ {P : Type 0} (le : ℕ → ℕ → Bool) (order : Order le) (own : P → ℕ) where
  -- a state is divided into any two that sum to it without a carry
  pub split_state : (d : Direction) (s : ℕ) (q : ℕ × ℕ) → List-as-Memᴰ q ((by_state le own).splits d s) → T (le q.0 s) × (q.0 + q.1 ≡ s)
  unfolding by_state
  split_state d s q m =
      let k = mem_map (λ t. (t, s - t)) q (filter (λ t. le t s) (range 0 (suc s))) m in
      let f = mem_filter (λ t. le t s) (range 0 (suc s)) k.1 in
      let a : k.0 ≡ q.0 = sym (ap (λ u. u.0) k.2) in
      (rw a at f.1, omega (arith, ap (λ u. u.0) k.2, ap (λ u. u.1) k.2, order.less k.0 s f.1))

  pub state_split : (d : Direction) (t u : ℕ) → T (le t (t + u)) → List-as-Memᴰ (t, u) ((by_state le own).splits d (t + u))
  unfolding by_state
  state_split d t u h =
      let e : u ≡ t + u - t = omega arith in
      let m = map_mem {B = ℕ × ℕ} (λ x. (x, t + u - x)) (filter_mem (λ x. le x (t + u)) (range 0 (suc (t + u))) (range_mem 0 (suc (t + u)) t (omega arith) (omega arith)) h) in
      rw (← e) at m

  -- what is within a state is within every state above
  pub within_above : (tree : Tree P) (t s : ℕ) → T (le t s) → Within (by_state le own) t tree → Within (by_state le own) s tree
  unfolding by_state
  within_above waste t s h w = tt
  within_above (piece p) t s h w = order.chain (own p) t s w h
  within_above (cut d x a b) t s h w =
      let q = split_state d t w.0 w.1 in
      let l = order.less t s h in
      let u : w.0.0 + (w.0.1 + (s - t)) ≡ s = omega arith in
      let v : t + (s - t) ≡ s = omega arith in
      let o : T (le w.0.1 t) = rw q.1 at (order.other w.0.0 w.0.1 (rw q.1 q.0)) in
      let k : T (le w.0.1 (w.0.1 + (s - t))) = order.first w.0.1 t (s - t) o (rw v h) in
      ((w.0.0, w.0.1 + (s - t)), rw u at (state_split d w.0.0 (w.0.1 + (s - t)) (rw u (order.chain w.0.0 t s q.0 h))), w.2, within_above b w.0.1 (w.0.1 + (s - t)) k w.3)

  pub by_state_monotone : Monotone (by_state {P = P} le own)
  by_state_monotone d s q m tree =
      let k = split_state d s q m in
      (λ w. within_above tree q.0 s k.0 w, λ w. within_above tree q.1 s (rw k.1 at (order.other q.0 q.1 (rw k.1 k.0))) w)

  pub by_state_symmetric : Symmetric (by_state {P = P} le own)
  by_state_symmetric d s q m =
      let k = split_state d s q m in
      let e : q.1 + q.0 ≡ s = omega (arith, k.1) in
      rw e at (state_split d q.1 q.0 (rw e (rw k.1 at (order.other q.0 q.1 (rw k.1 k.0)))))

  module _ (K : Pieces P) (C : Saw) (proper : Proper C) where
    -- a state above gives no less
    pub figure_above : (r : Rect) (t s : ℕ) → T (le t s) → figure K C (by_state le own) r t ≤ figure K C (by_state le own) r s
    figure_above r t s h =
        let e = figure_attained K C (by_state le own) proper r t in
        omega (arith, figure_upper K C (by_state le own) proper e.0 r s e.1 (within_above e.0 t s h e.2))
