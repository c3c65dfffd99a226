-- What the plan's choice at a rectangle and a share is: waste, a piece that may lie, or a cut at a normal position in its range with a
-- division of the share.
use Rattle.cutting.proofs.Prelude.{◌≡◌, sym, ◌∙◌, ap, Bool, true, false, Option, List, List-as-Memᴰ, ℕ, suc, ◌-◌, ◌≤◌, ◌<◌, arith, T, eqb, Direction, Length, Width, range, filter, pairs, side, Shares, Piece, by_state, Choice, as_waste, as_piece, as_cut, or_waste, or_length, or_piece, or_zero, Job, members, figure_under, normal_side, normal_floor, laid_earns, pair_earns, first_pair, plan_choice}
use Rattle.cutting.proofs.Lists.{mem_range, mem_filter, mem_map, mem_pairs}
use Rattle.cutting.proofs.Search.{Found, found, missing, first_found}
use Rattle.cutting.proofs.Floor.{floor_le}

module _ {S : Type 0} (J : Job) (H : Shares Piece S) (l w : ℕ) (c : S) where
  -- a piece that may lie; a cut in range, a division of the cell's share, and a normal position
  abbrev pub Sound : Choice Piece S → Type 0
  Sound as_waste = Unit {0}
  Sound (as_piece p) = List-as-Memᴰ p (members J)
  Sound (as_cut d x q) = (1 ≤ x) × (x < side d (l, w)) × List-as-Memᴰ q (H.splits d c) × T (normal_side J d x)

  cuts : Direction → List ℕ
  cuts d = filter (normal_side J d) (range 1 (normal_floor J d (side d (l, w)) - 1))

  pair_sound : (d : Direction) (u : ℕ × (S × S)) → List-as-Memᴰ u (pairs (cuts d) (H.splits d c)) → Sound (as_cut d u.0 u.1)
  unfolding cuts
  pair_sound d u m =
      let p = mem_pairs u (cuts d) (H.splits d c) m in
      let y = mem_filter (normal_side J d) (range 1 (normal_floor J d (side d (l, w)) - 1)) p.0 in
      let x = mem_range 1 (normal_floor J d (side d (l, w)) - 1) u.0 y.0 in
      (x.0, omega (arith, floor_le (normal_side J d) (side d (l, w))), p.1, y.1)

  found_sound : (z : Bool) {o : Option Piece} {i j : Option (ℕ × (S × S))} → Found (laid_earns J H l w c) (members J) o → Found (pair_earns J H Length l w c) (pairs (cuts Length) (H.splits Length c)) i → Found (pair_earns J H Width l w c) (pairs (cuts Width) (H.splits Width c)) j
      → Sound (or_zero z (or_piece o (or_length i (or_waste j))))
  found_sound true e f g = tt
  found_sound false (found m t) f g = m
  found_sound false (missing e) (found {x = u} m t) g = pair_sound Length u m
  found_sound false (missing e) (missing n) (found {x = u} m t) = pair_sound Width u m
  found_sound false (missing e) (missing n) (missing k) = tt

  -- a choice is sound
  pub choice_sound : Sound (plan_choice J H l w c)
  unfolding plan_choice first_pair cuts
  choice_sound = found_sound (eqb (figure_under J H l w c) 0) (first_found _ _) (first_found _ _) (first_found _ _)

-- a division of a state: a state no greater, and the rest
pub state_division : {P : Type 0} (le : ℕ → ℕ → Bool) (own : P → ℕ) (d : Direction) (s : ℕ) (q : ℕ × ℕ) → List-as-Memᴰ q ((by_state le own).splits d s) → (q.0 ≤ s) × (q.1 ≡ s - q.0)
unfolding by_state
state_division le own d s q m =
    let k = mem_map (λ t. (t, s - t)) q (filter (λ t. le t s) (range 0 (suc s))) m in
    let f = mem_filter (λ t. le t s) (range 0 (suc s)) k.1 in
    let e : q.0 ≡ k.0 = ap (λ q. q.0) k.2 in
    (omega (arith, mem_range 0 (suc s) k.0 f.0), ap (λ q. q.1) k.2 ∙ ap (λ t. s - t) (sym e))
