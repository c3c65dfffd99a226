-- One array with the floors of both sides: its two parts, and what it holds after each was written.
use Rattle.storage.proofs.Prelude.{◌≡◌, sym, ◌∙◌, ap, List, ◌++◌, ℕ, ◌+◌, ◌-◌, ◌≤◌, ◌<◌, arith, length, take, drop, length-drop, length-append, List·getD-append, length-take-le, take-append_seam, drop-append_seam, Floors, TableSize, second_floors, SidesMapped}

module _ (xs : List ℕ) (e : length xs ≡ 2042) where
  -- either part has 1,021 entries
  pub first_part : length (take 1021 xs) ≡ 1021
  first_part = length-take-le 1021 xs (omega (arith, e))

  pub second_part : length (take (length xs - 1021) (drop 1021 xs)) ≡ 1021
  second_part = ap length (second_floors xs) ∙ omega (arith, e, length-drop 1021 xs)

floors_front : (list : List ℕ) (n m : ℕ) (xs ys : List ℕ) → m ≤ length xs → Floors list n m xs → Floors list n m (xs ++ ys)
floors_front list n m xs ys h f x l = rw (List·getD-append xs ys 0 x (omega arith)) (f x l)

-- the array after the first part was written, and after the second was
abbrev pub half_written : List ℕ → List ℕ → List ℕ
half_written old first = first ++ drop 1021 old

abbrev pub written : List ℕ → List ℕ → List ℕ
written whole second = take 1021 whole ++ (second ++ drop (length whole - 1021) (drop 1021 whole))

module _ (old first : List ℕ) (e : length old ≡ 2042) (a : length first ≡ length (take 1021 old)) where
  pub half_length : length (half_written old first) ≡ 2042
  half_length = length-append first (drop 1021 old) ∙ omega (arith, e, a, first_part old e, length-drop 1021 old)

  -- the floors of the lengths were written to the first part, then those of the widths to the second
  pub sides_mapped : (g : TableSize) (lengths widths second : List ℕ)
      → length second ≡ length (take (length (half_written old first) - 1021) (drop 1021 (half_written old first)))
      → length (written (half_written old first) second) ≡ length (half_written old first) → g.length < 1021 → g.width < 1021
      → Floors lengths g.rows (g.length + 1) first → Floors widths g.columns (g.width + 1) second
      → SidesMapped g lengths widths (written (half_written old first) second)
  sides_mapped g lengths widths second b s l w f h =
      let whole = half_written old first in
      let rest = second ++ drop (length whole - 1021) (drop 1021 whole) in
      let n : length first ≡ 1021 = a ∙ first_part old e in
      let m : length second ≡ 1021 = b ∙ second_part whole half_length in
      let front : take 1021 whole ≡ first = ap (λ k. take k whole) (sym n) ∙ take-append_seam first (drop 1021 old) in
      let back : drop 1021 (first ++ rest) ≡ rest = ap (λ k. drop k (first ++ rest)) (sym n) ∙ drop-append_seam first rest in
      record {
        entries = s ∙ half_length;
        lengths_mapped = rw front (floors_front lengths g.rows (g.length + 1) first rest (omega arith) f);
        widths_mapped = rw (front, back) (floors_front widths g.columns (g.width + 1) second (drop (length whole - 1021) (drop 1021 whole)) (omega arith) h);
      }
