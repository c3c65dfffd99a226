-- One weight: plain numbers are an order of states, a tree is within a share exactly if it weighs no more, and the figures over this order
-- are those by weight.
use Rattle.table.proofs.Prelude.{◌≡◌, ℕ, ◌+◌, ◌-◌, ◌≤◌, arith, leb, leb→le, le→leb, Tree, waste, piece, cut, total, Within, saw, Piece, kind, Job, pieces, by_kind, figure_of, figure_within, saw_proper, within_weight, weight_within, by_state, Order, figure_at}
use Rattle.table.proofs.Shares.{split_state, state_split}

pub plain_order : Order leb
plain_order = record {
  same = λ s. le→leb s s (omega arith);
  chain = λ t u s h k. le→leb t s (omega (arith, leb→le t u h, leb→le u s k));
  less = leb→le;
  other = λ t u h. le→leb u (t + u) (omega arith);
  first = λ t s u h k. le→leb t (t + u) (omega arith);
  sums = λ t s u h k. le→leb (t + u) (s + u) (omega (arith, leb→le t s h));
  least = λ s. le→leb 0 s (omega arith);
}

module _ {P : Type 0} (w : P → ℕ) where
  -- what is within a share weighs no more
  pub one_within : (t : Tree P) (s : ℕ) → Within (by_state leb w) s t → total w t ≤ s
  unfolding by_state total
  one_within waste s h = omega arith
  one_within (piece p) s h = leb→le (w p) s h
  one_within (cut d x a b) s h = omega (arith, (split_state leb plain_order w d s h.0 h.1).1, one_within a h.0.0 h.2, one_within b h.0.1 h.3)

  pub within_one : (t : Tree P) (s : ℕ) → total w t ≤ s → Within (by_state leb w) s t
  unfolding by_state total
  within_one waste s h = tt
  within_one (piece p) s h = le→leb (w p) s h
  within_one (cut d x a b) s h =
      let e : total w a + (s - total w a) ≡ s = omega arith in (
        (total w a, s - total w a),
        rw e at (state_split leb plain_order w d (total w a) (s - total w a) (le→leb (total w a) (total w a + (s - total w a)) (omega arith))),
        within_one a (total w a) (omega arith),
        within_one b (s - total w a) (omega arith),
      )

-- the figures of the scope
pub figure_one : (J : Job) (weight : ℕ → ℕ) (l w c : ℕ) → figure_at J leb weight l w c ≡ figure_of J weight l w c
unfolding figure_at figure_of
figure_one J weight l w c =
    let heavy : Piece → ℕ = λ p. weight (kind p) in
    figure_within (pieces J) (saw 0) (saw_proper 0) (by_state leb heavy) (by_kind weight) (l, w) c c (λ t h. weight_within heavy t c (one_within heavy t c h)) (λ t h. within_one heavy t c (within_weight heavy t c h))
