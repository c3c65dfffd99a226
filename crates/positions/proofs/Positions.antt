-- The map of remainders: the last entry not above a length is that of the length before, or the next one; in the list of normal
-- positions, read back from an array, it is the largest normal position not above the length.
use Rattle.positions.proofs.Prelude.{◌≡◌, sym, ◌∙◌, ap, List, ℕ, suc, ◌+◌, ◌≤◌, ◌<◌, add-one, arith, length, get_or, take, get_or-take, length-take-le, Direction, side, Job, normal_positions, normal_floor, positions_first, positions_rise, positions_some, positions_floor, Rising, LastUpTo, Floors}

module _ (J : Job) (d : Direction) (positions : List ℕ) (n : ℕ) (h : n ≤ length positions) (e : take n positions ≡ normal_positions J d) where
  count_is : length (normal_positions J d) ≡ n
  count_is = sym (ap length e) ∙ length-take-le n positions h

  entry_is : (i : ℕ) → i < n → get_or (normal_positions J d) i 0 ≡ get_or positions i 0
  entry_is i l = ap (λ xs. get_or xs i 0) (sym e) ∙ get_or-take n positions i 0 l

  -- the list has an entry, begins with 0 and rises
  pub positions_rising : (1 ≤ n) × Rising positions n
  positions_rising =
      let p : 1 ≤ n = omega (arith, positions_some J d, count_is) in
      (p, (sym (entry_is 0 p) ∙ positions_first J d, λ i l. omega (arith, positions_rise J d i (i + 1) (omega arith) (omega (arith, count_is)), entry_is i (omega arith), entry_is (i + 1) l)))

  -- the last entry not above x is the largest normal position not above it
  pub floor_found : (x i : ℕ) → x ≤ side d J.plate → LastUpTo positions n x i → get_or positions i 0 ≡ normal_floor J d x
  floor_found x i l f =
      sym (entry_is i f.within) ∙ sym (positions_floor J d i x l (omega (arith, count_is, f.within)) (omega (arith, entry_is i f.within, f.not_above))
      (λ k. (let m : suc i < n = omega (arith, count_is) in rw (entry_is (suc i) m) (rw add-one at (f.next_above (omega arith))))))

  -- the map read back: at each length it names the largest normal position not above it
  pub floors_found : (floors : List ℕ) → Floors positions n (side d J.plate + 1) floors → (x : ℕ) → x ≤ side d J.plate
      → (get_or floors x 0 < length (normal_positions J d)) × (get_or (normal_positions J d) (get_or floors x 0) 0 ≡ normal_floor J d x)
  floors_found floors f x l =
      let last = f x (omega arith) in
      (omega (arith, count_is, last.within), entry_is (get_or floors x 0) last.within ∙ floor_found x (get_or floors x 0) l last)
