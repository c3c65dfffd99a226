-- Laws of written runs: nothing written yet, one word more; of the words past the table; of cells that lie one after the other; and of
-- the array with the floors of both sides.
use Rattle.table.proofs.Prelude.{◌≡◌, refl, sym, ◌∙◌, List, ℕ, ◌+◌, ◌-◌, ◌*◌, ◌≤◌, ◌<◌, not-suc-le-zero, mul-le-mul_right, arith, below_more, length, get_or, set, take, drop, length-drop, get_or-set_same, get_or-set_other, get_or-drop, ext_get_or, take_all, Kept, Outside, Run}

pub outside_none : (at end : ℕ) (xs : List ℕ) → Outside at end xs xs
outside_none at end xs = record { before = λ i h. refl; after = λ i h. refl }

-- nothing written yet
pub run_none : (f : ℕ → ℕ) (at : ℕ) (xs : List ℕ) → Run f at 0 xs xs
run_none f at xs = record { here = λ j h. absurd (not-suc-le-zero h); rest = outside_none at (at + 0) xs }

-- one word more
pub run_more : (f : ℕ → ℕ) (at j : ℕ) (old xs : List ℕ) (v : ℕ) → at + j < length xs → v ≡ f j → Run f at j old xs → Run f at (j + 1) old (set xs (at + j) v)
run_more f at j old xs v l e w = record {
  here = below_more (λ k. get_or (set xs (at + j) v) (at + k) 0 ≡ f k) j (λ k h. get_or-set_other xs (at + j) (at + k) v 0 (λ z. omega arith) ∙ w.here k h) (get_or-set_same xs (at + j) v 0 l ∙ e);
  rest = record {
    before = λ i h. get_or-set_other xs (at + j) i v 0 (λ z. omega arith) ∙ w.rest.before i h;
    after = λ i h. get_or-set_other xs (at + j) i v 0 (λ z. omega arith) ∙ w.rest.after i (omega arith);
  };
}

-- a cell lies before the next one
pub cell_before : (b columns words : ℕ) → b < columns → b * words + words ≤ columns * words
cell_before b columns words h = omega (arith, mul-le-mul_right {m = b + 1} {n = columns} words (omega arith))

-- no word from m on has changed
pub words_past : (m : ℕ) (old new : List ℕ) → length new ≡ length old → ((i : ℕ) → m ≤ i → get_or new i 0 ≡ get_or old i 0) → Kept m old new
words_past m old new l f = (
  l,
  ext_get_or 0 (drop m new) (drop m old) (omega (arith, length-drop m new, length-drop m old)) (λ i h. get_or-drop m new i 0 ∙ f (m + i) (omega arith) ∙ sym (get_or-drop m old i 0)),
)

-- the floors of the widths, from entry 1,021 to the array's end
pub second_floors : (xs : List ℕ) → take (length xs - 1021) (drop 1021 xs) ≡ drop 1021 xs
second_floors xs = take_all (length xs - 1021) (drop 1021 xs) (omega (arith, length-drop 1021 xs))
