-- The cuts of a side up to its half: the search for the first entry past it, and the parts of each cut.
use Rattle.table.proofs.Prelude.{◌≡◌, ap, List, ℕ, ◌+◌, ◌-◌, ◌*◌, ◌≤◌, ◌<◌, ℕ_discrete, dec_le, arith, below_more, get_or, HalfReady, Half, remainder, Cuts, Axis}

-- an entry up to half of entry b is not entry b
pub half_below : (positions : List ℕ) (b half_end : ℕ) → half_end ≤ b → 0 < get_or positions b 0 → 2 * get_or positions half_end 0 ≤ get_or positions b 0 → half_end < b
half_below positions b half_end h p l = go (ℕ_discrete half_end b)
  where
    go : Dec (half_end ≡ b) → half_end < b
    go (yes e) = absurd (omega (arith, rw e at l))
    go (no e) = omega arith

-- one more entry up to half of entry b
pub half_more : (positions : List ℕ) (b half_end : ℕ) → ((i : ℕ) → 1 ≤ i → i < half_end → 2 * get_or positions i 0 ≤ get_or positions b 0) → 2 * get_or positions half_end 0 ≤ get_or positions b 0
    → (i : ℕ) → 1 ≤ i → i < half_end + 1 → 2 * get_or positions i 0 ≤ get_or positions b 0
half_more positions b half_end w l i h m = below_more (λ i. 1 ≤ i → 2 * get_or positions i 0 ≤ get_or positions b 0) half_end (λ i m h. w i h m) (λ h. l) i m h

module _ (positions floors : List ℕ) (count : ℕ) (axis : Axis positions floors count) where
  -- a cut up to half of an entry and its remainder are no more than the entry together
  parts_fit : (b half_end i : ℕ) → b < count → Half positions b half_end → 1 ≤ i → i < half_end → (remainder positions floors b i < count) × (get_or positions i 0 + get_or positions (remainder positions floors b i) 0 ≤ get_or positions b 0)
  parts_fit b half_end i h half l m =
      let f = axis.floored b (get_or positions b 0 - get_or positions i 0) h (omega arith) in
      (f.0, omega (arith, f.1, half.within i l m))

  -- so both parts are earlier entries
  pub half_cuts : (b half_end : ℕ) → b < count → Half positions b half_end → Cuts positions floors b half_end
  half_cuts b half_end h half = record {
    least = half.least;
    most = half.most;
    listed = omega (arith, axis.listed);
    mapped = (axis.side b h).1;
    part = λ i l m. omega (arith, half.within i l m);
    earlier = λ i l m. go i l m (dec_le b (remainder positions floors b i));
  }
    where
      go : (i : ℕ) → 1 ≤ i → i < half_end → Dec (b ≤ remainder positions floors b i) → remainder positions floors b i < b
      go i l m (no n) = omega arith
      go i l m (yes n) = absurd (same (ℕ_discrete b (remainder positions floors b i)))
        where
          fit : (remainder positions floors b i < count) × (get_or positions i 0 + get_or positions (remainder positions floors b i) 0 ≤ get_or positions b 0)
          fit = parts_fit b half_end i h half l m

          same : Dec (b ≡ remainder positions floors b i) → ⊥
          same (yes e) = omega (arith, fit.1, ap (λ j. get_or positions j 0) e, axis.rise 0 i (omega arith) (omega (arith, half.most)))
          same (no e) = omega (arith, fit.1, axis.rise b (remainder positions floors b i) (omega arith) fit.0)

  -- and no more than the entry together
  pub half_parts : (b half_end i : ℕ) → b < count → Half positions b half_end → 1 ≤ i → i < half_end → (remainder positions floors b i < b) × (get_or positions i 0 + get_or positions (remainder positions floors b i) 0 ≤ get_or positions b 0)
  half_parts b half_end i h half l m = ((half_cuts b half_end h half).earlier i l m, (parts_fit b half_end i h half l m).1)

  -- what the search for the half of an entry asks
  pub half_ready : (from b : ℕ) → 1 ≤ from → from ≤ b → b < count → ((i : ℕ) → 1 ≤ i → i < from → b < count → 2 * get_or positions i 0 ≤ get_or positions b 0) → HalfReady positions from b
  half_ready from b h l m w = record { least = h; most = l; listed = omega (arith, axis.listed); some = omega (arith, axis.rise 0 b (omega arith) m); within = λ i u v. w i u v m }

  -- the half found for one entry serves the next
  pub half_next : (b half_end : ℕ) → Half positions b half_end → (i : ℕ) → 1 ≤ i → i < half_end → b + 1 < count → 2 * get_or positions i 0 ≤ get_or positions (b + 1) 0
  half_next b half_end half i l m h = omega (arith, half.within i l m, axis.rise b (b + 1) (omega arith) h)

-- the index of the remainder's floor, as the code reads it
pub remainder_is : (positions floors : List ℕ) (a i whole part y : ℕ) → whole ≡ get_or positions a 0 → part ≡ get_or positions i 0 → y ≡ get_or floors (whole - part) 0 → y ≡ remainder positions floors a i
remainder_is positions floors a i whole part y e f g = cc
