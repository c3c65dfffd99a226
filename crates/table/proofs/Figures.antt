-- The normal positions of a side and their floors as the fills are lent them: what serves for cuts.
use Rattle.table.proofs.Prelude.{◌≡◌, sym, ◌∙◌, ap, List, ℕ, ◌-◌, ◌≤◌, ◌<◌, ℕ_discrete, dec_le, arith, T, length, get_or, length-take, get_or-take, Direction, Length, Width, side, Job, normal_side, InTableRange, floor_le, positions_entry, positions_rise, positions_normal, position, Positions, Axis}

-- a side of a plate in range
side_range : (J : Job) (d : Direction) → InTableRange J → side d J.plate ≤ 1020
side_range J Length h = h.plate_length.1
side_range J Width h = h.plate_width.1

module _ (J : Job) (d : Direction) (count : ℕ) (positions floors : List ℕ) (fit : InTableRange J) (given : Positions J d count positions floors) where
  -- an entry of the list is a normal position
  pub entry_is : (i : ℕ) → i < count → get_or positions i 0 ≡ position J d i
  entry_is i h = sym (get_or-take count positions i 0 h) ∙ ap (λ xs. get_or xs i 0) given.listed

  pub entry_side : (i : ℕ) → i < count → get_or positions i 0 ≤ side d J.plate
  entry_side i h = omega (arith, entry_is i h, (positions_normal J d i (omega (arith, given.counted))).1)

  -- the list and its floors serve for cuts
  pub positions_axis : Axis positions floors count
  positions_axis = record {
    listed = omega (arith, length-take count positions, ap length given.listed, given.counted);
    rise = λ i j h l. omega (arith, entry_is i (omega arith), entry_is j l, positions_rise J d i j h (omega (arith, given.counted)));
    side = λ b h. (omega (arith, entry_side b h, side_range J d fit), omega (arith, entry_side b h, given.mapped));
    floored = λ b x h l.
        (let f = given.floored x (omega (arith, entry_side b h)) in
        let m : get_or floors x 0 < count = omega (arith, f.0, given.counted) in
        (m, omega (arith, f.1, entry_is (get_or floors x 0) m, floor_le (normal_side J d) x)));
  }

  -- no normal position lies between two entries
  pub between : (x a : ℕ) → a < count → T (normal_side J d x) → x < get_or positions a 0 → x ≤ get_or positions (a - 1) 0
  between x a h t l =
      let f = positions_entry J d x (omega (arith, entry_side a h)) t in
      let e = entry_is f.0 (omega (arith, f.1, given.counted)) in
      go f.0 (omega (arith, f.1, given.counted)) (e ∙ f.2) (dec_le a f.0) (ℕ_discrete a f.0) (ℕ_discrete f.0 (a - 1))
    where
      go : (i : ℕ) → i < count → get_or positions i 0 ≡ x → Dec (a ≤ i) → Dec (a ≡ i) → Dec (i ≡ a - 1) → x ≤ get_or positions (a - 1) 0
      go i q e (yes u) (yes v) w = absurd (omega (arith, ap (λ i. get_or positions i 0) v))
      go i q e (yes u) (no v) w = absurd (omega (arith, positions_axis.rise a i (omega arith) q))
      go i q e (no u) v (yes w) = omega (arith, ap (λ i. get_or positions i 0) w)
      go i q e (no u) v (no w) = omega (arith, positions_axis.rise i (a - 1) (omega arith) (omega arith))
