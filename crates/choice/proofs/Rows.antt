-- The rows of a filled table in one direction: the row of index i holds the figures of the rectangle whose side in that direction is the
-- i-th normal position, and whose other side stays.
use Rattle.choice.proofs.Prelude.{◌≡◌, sym, ◌∙◌, ap, ap₂, Bool, List, ℕ, suc, ◌+◌, ◌*◌, ◌≤◌, ◌<◌, mul-le-mul, mul-le-mul_right, arith, length, get_or, Direction, Length, Width, most_wide_figure, Rect, side, part, Shares, Piece, kind, Job, figure_under, normal_side, normal_floor, InTableRange, floor_le, table_solid, figure_ceiling, positions_rise, positions_normal, positions_length, positions_floor, floor_under, position_count, position, words_needed, word, Listed, Mapped, by_state, figure_at, by_state_monotone, CutSearch, Row, Searchable, Tabled}

-- the words from one row to the next, and the word where row 0 begins; a and b are the indexes of the tabled length and width
abbrev pub stride_of : ℕ → ℕ → Direction → ℕ
stride_of columns q Length = columns * (q + 1)
stride_of columns q Width = q + 1

abbrev pub base_of : ℕ → ℕ → Direction → ℕ → ℕ → ℕ
base_of columns q Length a b = b * (q + 1)
base_of columns q Width a b = a * (columns * (q + 1))

-- the shares of the states
abbrev pub shares_of : (ℕ → ℕ → Bool) → (ℕ → ℕ) → Shares Piece ℕ
shares_of le own = by_state le (λ p. own (kind p))

-- the figure of a rectangle
abbrev pub rect_figure : Job → (ℕ → ℕ → Bool) → (ℕ → ℕ) → Rect → ℕ → ℕ
rect_figure J le own r c = figure_under J (shares_of le own) r.0 r.1 c

-- an index in reach
word_below : (p r n a b k : ℕ) → a < p → b < r → k < n → (a * r + b) * n + k < p * r * n
word_below p r n a b k h g l =
    let u : (a + 1) * r ≤ p * r = mul-le-mul_right r (omega arith) in
    let v : (a * r + b + 1) * n ≤ p * r * n = mul-le-mul_right n (omega arith) in
    omega arith

-- a normal position is its own floor
position_floor : (J : Job) (d : Direction) (i : ℕ) → i < position_count J d → normal_floor J d (position J d i) ≡ position J d i
position_floor J d i h = positions_floor J d i (position J d i) (positions_normal J d i h).1 h (omega arith) (λ g. positions_rise J d i (suc i) (omega arith) g)

-- no figure on the plate is above 1,040,400,000,000
figure_most : (J : Job) (le : ℕ → ℕ → Bool) (own : ℕ → ℕ) → InTableRange J → (r : Rect) (c : ℕ) → r.0 ≤ J.plate.0 → r.1 ≤ J.plate.1 → rect_figure J le own r c ≤ most_wide_figure
figure_most J le own h r c a b =
    let x : r.0 ≤ 1020 = omega (arith, h.plate_length) in
    let y : r.1 ≤ 1020 = omega (arith, h.plate_width) in
    omega (arith, figure_ceiling J (shares_of le own) (table_solid J h) h.prices r.0 r.1 c, mul-le-mul x y)

module _ {J : Job} {le : ℕ → ℕ → Bool} {own : ℕ → ℕ} {columns q : ℕ} {normal_lengths normal_widths length_floors width_floors table : List ℕ} (t : Tabled J le own columns q normal_lengths normal_widths length_floors width_floors table)
    (l w : ℕ) (on_length : l ≤ J.plate.0) (on_width : w ≤ J.plate.1) where
  -- the indexes of the tabled length and width
  abbrev pub a_of : ℕ
  a_of = get_or length_floors l 0

  abbrev pub b_of : ℕ
  b_of = get_or width_floors w 0

  -- the search in a direction for a cut of the rectangle at a share that earns a value
  abbrev pub search_for : Direction → List ℕ → ℕ → ℕ → CutSearch
  search_for d floors c v = record { side = side d (l, w); last = get_or floors (side d (l, w)) 0; stride = stride_of columns q d; base = base_of columns q d a_of b_of; share = c; value = v }

  -- the figure of a rectangle on the plate is that of its largest normal sides
  floored : (x y k : ℕ) → x ≤ J.plate.0 → y ≤ J.plate.1 → figure_under J (shares_of le own) x y k ≡ figure_under J (shares_of le own) (normal_floor J Length x) (normal_floor J Width y) k
  floored = floor_under J (shares_of le own) (by_state_monotone le t.order _) (table_solid J t.in_range)

  -- a row's word, and its figure
  row_cell : (d : Direction) (i k : ℕ) → i < position_count J d → k ≤ q
      → (i * stride_of columns q d + base_of columns q d a_of b_of + k < words_needed J q) × (get_or table (i * stride_of columns q d + base_of columns q d a_of b_of + k) 0 ≡ rect_figure J le own (part d (position J d i) (l, w)) k)
  unfolding figure_at
  row_cell Length i k h g =
      let m = t.widths_floored w on_width in
      let e : i * (columns * (q + 1)) + b_of * (q + 1) + k ≡ word J q i b_of k = rw t.columns_are (omega arith) in (
        rw e (word_below _ _ _ i b_of k h m.0 (omega arith)),
        ap (λ n. get_or table n 0) e ∙ t.figures i b_of k h m.0 (omega arith)
            ∙ sym (floored (position J Length i) w k (positions_normal J Length i h).1 on_width ∙ ap₂ (λ x y. figure_under J (shares_of le own) x y k) (position_floor J Length i h) (sym m.1)),
      )
  row_cell Width i k h g =
      let m = t.lengths_floored l on_length in
      let e : i * (q + 1) + a_of * (columns * (q + 1)) + k ≡ word J q a_of i k = rw t.columns_are (omega arith) in (
        rw e (word_below _ _ _ a_of i k m.0 h (omega arith)),
        ap (λ n. get_or table n 0) e ∙ t.figures a_of i k m.0 h (omega arith)
            ∙ sym (floored l (position J Width i) k on_length (positions_normal J Width i h).1 ∙ ap₂ (λ x y. figure_under J (shares_of le own) x y k) (sym m.1) (position_floor J Width i h)),
      )

  part_on : (d : Direction) (i : ℕ) → i < position_count J d → ((part d (position J d i) (l, w)).0 ≤ J.plate.0) × ((part d (position J d i) (l, w)).1 ≤ J.plate.1)
  part_on Length i h = ((positions_normal J Length i h).1, on_width)
  part_on Width i h = (on_length, (positions_normal J Width i h).1)

  -- a row's figures
  pub row_figure : (d : Direction) (i k : ℕ) → i < position_count J d → k ≤ q
      → get_or table (i * stride_of columns q d + base_of columns q d a_of b_of + k) 0 ≡ rect_figure J le own (part d (position J d i) (l, w)) k
  row_figure d i k h g = (row_cell d i k h g).1

  -- a row's words are there
  row_there : (d : Direction) (floors : List ℕ) (c v i : ℕ) → c ≤ q → i < position_count J d → Row table (search_for d floors c v) i
  row_there d floors c v i g h k m =
      let e = row_cell d i k h (omega arith) in
      let o = part_on d i h in
      (omega (arith, e.0, t.words_there), omega (arith, e.1, figure_most J le own t.in_range (part d (position J d i) (l, w)) k o.0 o.1))

  -- the row that a map gives for a length holds the figures of the rectangle with that length
  pub mapped_figure : (d : Direction) (floors : List ℕ) → Mapped J d floors → (n k : ℕ) → n ≤ side d J.plate → k ≤ q
      → get_or table (get_or floors n 0 * stride_of columns q d + base_of columns q d a_of b_of + k) 0 ≡ rect_figure J le own (part d n (l, w)) k
  mapped_figure Length floors mapped n k on g =
      let m = mapped n on in
      row_figure Length (get_or floors n 0) k m.0 g
      ∙ floored (position J Length (get_or floors n 0)) w k (positions_normal J Length (get_or floors n 0) m.0).1 on_width
      ∙ ap (λ x. figure_under J (shares_of le own) x (normal_floor J Width w) k) (position_floor J Length (get_or floors n 0) m.0 ∙ m.1) ∙ sym (floored n w k on on_width)
  mapped_figure Width floors mapped n k on g =
      let m = mapped n on in
      row_figure Width (get_or floors n 0) k m.0 g
      ∙ floored l (position J Width (get_or floors n 0)) k on_length (positions_normal J Width (get_or floors n 0) m.0).1
      ∙ ap (λ y. figure_under J (shares_of le own) (normal_floor J Length l) y k) (position_floor J Width (get_or floors n 0) m.0 ∙ m.1) ∙ sym (floored l n k on_length on)

  -- the word of the rectangle itself
  pub cell_there : (c : ℕ) → c ≤ q → a_of * (columns * (q + 1)) + b_of * (q + 1) + c < length table
  cell_there c h = omega (arith, (row_cell Length a_of c (t.lengths_floored l on_length).0 h).0, t.words_there)

  pub cell_figure : (c : ℕ) → c ≤ q → get_or table (a_of * (columns * (q + 1)) + b_of * (q + 1) + c) 0 ≡ figure_under J (shares_of le own) l w c
  cell_figure c h = mapped_figure Length length_floors t.lengths_floored l c on_length h

  -- a cut in one direction can be searched for
  pub searchable : (d : Direction) (positions floors : List ℕ) → Listed J d positions → Mapped J d floors → 1020 < length floors → (c v : ℕ) → c ≤ q → Searchable positions floors table (search_for d floors c v)
  searchable d positions floors listed mapped there c v h =
      let on : (side d (l, w) ≤ side d J.plate) × (side d J.plate ≤ 1020) = elim d as (λ k. (side k (l, w) ≤ side k J.plate) × (side k J.plate ≤ 1020)) [ Length ↦ (on_length, t.in_range.plate_length.1) | Width ↦ (on_width, t.in_range.plate_width.1) ] in
      let last = mapped (side d (l, w)) on.0 in
      record {
        mapped = omega (arith, on);
        shares = omega (arith, t.capacity_most);
        listed = λ i g. (omega (arith, listed.0, last.0), omega (arith, listed.1 i (omega (arith, last.0)), positions_rise J d i (get_or floors (side d (l, w)) 0) g last.0, last.1, floor_le (normal_side J d) (side d (l, w))));
        rows = λ i g. row_there d floors c v i h (omega (arith, last.0));
        remainders = λ x g. row_there d floors c v (get_or floors x 0) h (mapped x (omega (arith, on))).0;
      }

  -- no index, and no word where a row begins, is large
  pub cell_sizes : (a_of < 1022) × (b_of < 1022) × (columns * (q + 1) ≤ 4182016) × (a_of * (columns * (q + 1)) ≤ 4269838336) × (b_of * (q + 1) ≤ 4182016)
  cell_sizes =
      let a : a_of ≤ 1021 = omega (arith, (t.lengths_floored l on_length).0, positions_length J Length, t.in_range.plate_length) in
      let r : columns ≤ 1021 = omega (arith, t.columns_are, positions_length J Width, t.in_range.plate_width) in
      let b : b_of ≤ 1021 = omega (arith, (t.widths_floored w on_width).0, positions_length J Width, t.in_range.plate_width) in
      let n : q + 1 ≤ 4096 = omega (arith, t.capacity_most) in
      let s : columns * (q + 1) ≤ 4182016 = mul-le-mul r n in
      (omega arith, omega arith, s, mul-le-mul a s, mul-le-mul b n)
