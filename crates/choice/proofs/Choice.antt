-- The choice from a filled table: the two searches over the table answer the definition's searches over figures of the job.
use Rattle.choice.proofs.Prelude.{◌≡◌, refl, sym, ◌∙◌, ap, ap₂, Bool, true, false, ◌&&◌, Maybe, none, some, List, [], ◌∷◌, ◌++◌, map, map-map, map-append, ℕ, zero, suc, ◌+◌, ◌-◌, ◌*◌, ◌≤◌, ◌<◌, add-one, arith, eq-eqb, ne_eqb, eqb, length, get_or, take, drop, length-drop, length-map, ext_get_or, take_all, Direction, Length, Width, Node, Waste, Cut, range, filter, first, pairs, side, part, Piece, upright, or_waste, or_length, or_piece, or_zero, Job, figure_under, normal_side, normal_positions, normal_floor, pair_earns, first_pair, laid_earns, plan_choice, size_in, price_in, array_shares, through, mem_range, mem_pairs, range_length, range_entry, first_cong, first_map, first_filter, pairs_filter, plain_first, between_length, between_entry, normal_zero, TableSize, position_count, position, Listed, Mapped, size_job, by_state, under, Cell, Chosen, Place, Option, None, Some, piece_test, piece_found, pair_test, first_index, cut_found, or_width_cut, or_length_cut, length_search, width_search, cut_chosen, Searchable, Tabled, ChoiceInput, Inside, chosen_of, chosen_at}
use Rattle.choice.proofs.Rows.{shares_of, search_for, rect_figure, row_figure, mapped_figure, cell_figure, cell_there, cell_sizes, searchable}

-- an entry of a mapped list
module _ {A B : Type 0} where
  get_or_map_in : (f : A → B) (xs : List A) (i : ℕ) (d : B) (e : A) → i < length xs → get_or (map f xs) i d ≡ f (get_or xs i e)
  get_or_map_in f [] i d e h = absurd (omega arith)
  get_or_map_in f (x ∷ xs) zero d e h = refl
  get_or_map_in f (x ∷ xs) (suc i) d e h = get_or_map_in f xs i d e (omega arith)

pairs_map : {A B C D : Type 0} (g : A → C) (h : B → D) (xs : List A) (ys : List B) → pairs (map g xs) (map h ys) ≡ map (λ u. (g u.0, h u.1)) (pairs xs ys)
unfolding pairs
pairs_map g h [] ys = refl
pairs_map g h (x ∷ xs) ys =
    ap₂ ◌++◌ (map-map (λ y. (g x, y)) h ys ∙ sym (map-map (λ u. (g u.0, h u.1)) (λ y. (x, y)) ys)) (pairs_map g h xs ys)
    ∙ sym (map-append (λ u. (g u.0, h u.1)) (map (λ y. (x, y)) ys) (pairs xs ys))

-- a list from an entry on
pub rest_part : (n : ℕ) (xs : List ℕ) → take (length xs - n) (drop n xs) ≡ drop n xs
rest_part n xs = take_all (length xs - n) (drop n xs) (omega (arith, length-drop n xs))

-- the cuts of a side are the listed positions between the first and the side's own
cuts_listed : (J : Job) (d : Direction) (positions : List ℕ) (a n : ℕ) → Listed J d positions → a < position_count J d → position J d a ≡ normal_floor J d n
    → filter (normal_side J d) (range 1 (normal_floor J d n - 1)) ≡ map (λ i. get_or positions i 0) (range 1 (a - 1))
unfolding normal_positions
cuts_listed J d positions a n listed h e = ext_get_or 0 cuts (map (λ i. get_or positions i 0) (range 1 (a - 1))) (omega (arith, long, length-map (range 1 (a - 1)) (λ i. get_or positions i 0), range_length 1 (a - 1))) at
  where
    cuts : List ℕ
    cuts = filter (normal_side J d) (range 1 (normal_floor J d n - 1))

    long : length cuts ≡ a - 1
    long = rw (sym e) (between_length (normal_side J d) (normal_zero J d) (suc (side d J.plate)) a h)

    at : (j : ℕ) → j < length cuts → get_or cuts j 0 ≡ get_or (map (λ i. get_or positions i 0) (range 1 (a - 1))) j 0
    at j l =
        let g : suc j < a = omega (arith, long) in
        let k : get_or (range 1 (a - 1)) j 0 ≡ suc j = omega (arith, range_entry 1 (a - 1) j 0 (omega arith)) in
        rw (sym e) (between_entry (normal_side J d) (normal_zero J d) (suc (side d J.plate)) a j h g) ∙ sym (listed.1 (suc j) (omega arith))
        ∙ sym (get_or_map_in (λ i. get_or positions i 0) (range 1 (a - 1)) j 0 0 (omega (arith, range_length 1 (a - 1))) ∙ ap (λ i. get_or positions i 0) k)

pair_figures : (J : Job) (le : ℕ → ℕ → Bool) (own : ℕ → ℕ) (d : Direction) (l w c : ℕ) (u : ℕ × (ℕ × ℕ)) → pair_earns J (shares_of le own) d l w c u
    ≡ eqb (rect_figure J le own (part d u.0 (l, w)) u.1.0 + rect_figure J le own (part d (side d (l, w) - u.0) (l, w)) u.1.1) (rect_figure J le own (l, w) c)
pair_figures J le own Length l w c u = refl
pair_figures J le own Width l w c u = refl

-- the answer as the searches give it: waste where the value is 0, or the piece, or a cut
abbrev pub or_laid : Option Node → Chosen → Chosen
or_laid None r = r
or_laid (Some n) r = record { node = n; share = 0 }

abbrev pub or_none : Bool → Chosen → Chosen
or_none true r = record { node = Waste; share = 0 }
or_none false r = r

-- the cut of a pair of indexes
abbrev pair_of : List ℕ → ℕ → ℕ × ℕ → ℕ × (ℕ × ℕ)
pair_of positions c u = (get_or positions u.0 0, (u.1, c - u.1))

searched : (pieces normal_lengths normal_widths : List ℕ) (c : ℕ) (z : Bool) (o : Maybe ℕ) (i j : Maybe (ℕ × ℕ)) {n : Maybe Piece} {p s : Maybe (ℕ × (ℕ × ℕ))}
    → n ≡ through upright o → p ≡ through (pair_of normal_lengths c) i → s ≡ through (pair_of normal_widths c) j
    → chosen_of pieces (or_zero z (or_piece n (or_length p (or_waste s)))) ≡ or_none z (or_laid (piece_found pieces o) (or_length_cut (cut_found normal_lengths i) (or_width_cut (cut_found normal_widths j))))
searched pieces normal_lengths normal_widths c true o i j d e f = refl
searched pieces normal_lengths normal_widths c false (some k) i j d e f = rw d refl
searched pieces normal_lengths normal_widths c false none (some u) j d e f = rw (d, e) refl
searched pieces normal_lengths normal_widths c false none none (some v) d e f = rw (d, e, f) refl
searched pieces normal_lengths normal_widths c false none none none d e f = rw (d, e, f) refl

module _ {J : Job} {le : ℕ → ℕ → Bool} {own : ℕ → ℕ} {columns q : ℕ} {normal_lengths normal_widths length_floors width_floors table : List ℕ} (t : Tabled J le own columns q normal_lengths normal_widths length_floors width_floors table)
    (l w c : ℕ) (on_length : l ≤ J.plate.0) (on_width : w ≤ J.plate.1) (share : c ≤ q) where
  module _ (d : Direction) (positions floors : List ℕ) (listed : Listed J d positions) (mapped : Mapped J d floors) where
    on_side : side d (l, w) ≤ side d J.plate
    on_side = elim d as (λ k. side k (l, w) ≤ side k J.plate) [ Length ↦ on_length | Width ↦ on_width ]

    -- the figure of the whole
    abbrev whole : ℕ
    whole = rect_figure J le own (l, w) c

    -- the test of a pair reads the figures of its two parts
    pair_same : (i k : ℕ) → i < position_count J d → k ≤ c → (pair_earns J (shares_of le own) d l w c (pair_of positions c (i, k)) && le k c)
        ≡ pair_test le positions floors table (search_for t l w on_length on_width d floors c whole) (i, k)
    pair_same i k h g = ap (λ b. b && le k c) (pair_figures J le own d l w c (pair_of positions c (i, k)) ∙ ap₂ (λ a b. eqb (a + b) whole)
        (ap (λ x. rect_figure J le own (part d x (l, w)) k) (listed.1 i h) ∙ sym (row_figure t l w on_length on_width d i k h (omega arith)))
        (sym (mapped_figure t l w on_length on_width d floors mapped (side d (l, w) - get_or positions i 0) (c - k) (omega (arith, on_side)) (omega arith))))

    -- the search over indexes answers the definition's search
    pair_index : first_pair J (shares_of le own) d l w c ≡ through (pair_of positions c) (first_index le positions floors table (search_for t l w on_length on_width d floors c whole))
    unfolding first_pair first_index by_state
    pair_index =
        let a = get_or floors (side d (l, w)) 0 in
        let m = mapped (side d (l, w)) on_side in
        let e : c + 1 ≡ suc c = add-one c in
        let earns = pair_earns J (shares_of le own) d l w c in
        rw e (ap (λ xs. first earns (pairs xs (map (λ k. (k, c - k)) (filter (λ k. le k c) (range 0 (suc c)))))) (cuts_listed J d positions a (side d (l, w)) listed m.0 m.1)
        ∙ ap (first earns) (pairs_map (λ i. get_or positions i 0) (λ k. (k, c - k)) (range 1 (a - 1)) (filter (λ k. le k c) (range 0 (suc c))))
        ∙ first_map earns (pair_of positions c) (pairs (range 1 (a - 1)) (filter (λ k. le k c) (range 0 (suc c))))
        ∙ ap (λ us. through (pair_of positions c) (first (λ u. earns (pair_of positions c u)) us)) (pairs_filter (λ k. le k c) (range 1 (a - 1)) (range 0 (suc c)))
        ∙ ap (through (pair_of positions c)) (first_filter (λ u. earns (pair_of positions c u)) (λ u. le u.1 c) (pairs (range 1 (a - 1)) (range 0 (suc c))))
        ∙ ap (through (pair_of positions c)) (first_cong _ _ _ (λ u n.
        (let p = mem_pairs u (range 1 (a - 1)) (range 0 (suc c)) n in
        let i = mem_range 1 (a - 1) u.0 p.0 in
        let k = mem_range 0 (suc c) u.1 p.1 in
        pair_same u.0 u.1 (omega (arith, m.0)) (omega arith)))))

-- the ways out of the code, one for each search that ends it
exit_none : (z : Bool) (r : Chosen) → z ≡ true → or_none z r ≡ record { node = Waste; share = 0 }
exit_none z r e = rw e refl

module _ (z : Bool) (k : Option Node) where
  exit_piece : (r : Chosen) {n : Node} → z ≡ false → k ≡ Some n → or_none z (or_laid k r) ≡ record { node = n; share = 0 }
  exit_piece r e f = rw (e, f) refl

  exit_cut : (r : Chosen) → z ≡ false → k ≡ None → or_none z (or_laid k r) ≡ r
  exit_cut r e f = rw (e, f) refl

-- and out of the search for a cut
pub width_out : {f g : Option (ℕ × ℕ)} {x s : ℕ} → f ≡ None → g ≡ Some (x, s) → record { node = Cut Width x; share = s } ≡ or_length_cut f (or_width_cut g)
width_out e h = rw (e, h) refl

pub waste_out : {f g : Option (ℕ × ℕ)} → f ≡ None → g ≡ None → record { node = Waste; share = 0 } ≡ or_length_cut f (or_width_cut g)
waste_out e h = rw (e, h) refl

-- the searches that the choice makes at a cell of a value
module _ (le : ℕ → ℕ → Bool) (size : TableSize) (pieces normal_lengths normal_widths floors table : List ℕ) (cell : Cell) (value : ℕ) where
  -- the indexes of the tabled length and width
  abbrev pub row_of : ℕ
  row_of = get_or floors cell.sides.length 0

  abbrev pub column_of : ℕ
  column_of = get_or (drop 1021 floors) cell.sides.width 0

  abbrev pub piece_search : Maybe ℕ
  piece_search = first (piece_test le pieces cell value) (range 0 size.count)

  -- where the cell stands
  abbrev pub place_of : Place
  place_of = record { a = row_of; b = column_of; value = value }

  -- their answer: waste where the value is 0, or the piece, or the length cut, or the width cut
  abbrev pub answer : Chosen
  answer = or_none (eqb value 0) (or_laid (piece_found pieces piece_search) (cut_chosen le normal_lengths normal_widths floors table size cell place_of))

-- the answer is the choice
module _ {size : TableSize} {blocks : List ℕ} {d : ℕ} {pieces normal_lengths normal_widths floors table : List ℕ} (t : ChoiceInput size blocks d pieces normal_lengths normal_widths floors table) {cell : Cell} (at : Inside (size_job size pieces) size cell) where
  -- the plain job of the pieces
  abbrev N : Job
  N = size_job size pieces

  -- the order of the states
  abbrev le : ℕ → ℕ → Bool
  le = under blocks d

  answer_figure : answer le size pieces normal_lengths normal_widths floors table cell (figure_under N (array_shares le pieces) cell.sides.length cell.sides.width cell.share) ≡ chosen_at le size pieces cell
  unfolding plan_choice by_state
  answer_figure =
      let v = figure_under N (array_shares le pieces) cell.sides.length cell.sides.width cell.share in
      let pairs_of : (d : Direction) (positions floors : List ℕ) → Listed N d positions → Mapped N d floors → _ = pair_index t.tabled cell.sides.length cell.sides.width cell.share at.on_length at.on_width at.in_capacity in
      sym (searched pieces normal_lengths normal_widths cell.share (eqb v 0) (piece_search le size pieces normal_lengths normal_widths floors table cell v)
      (first_index le normal_lengths floors table (length_search size cell (place_of le size pieces normal_lengths normal_widths floors table cell v)))
      (first_index le normal_widths (drop 1021 floors) table (width_search size cell (place_of le size pieces normal_lengths normal_widths floors table cell v)))
      (plain_first (size.length, size.width) size.count (size_in pieces) (price_in pieces) (laid_earns N (array_shares le pieces) cell.sides.length cell.sides.width cell.share))
      (pairs_of Length normal_lengths floors t.tabled.lengths_are t.tabled.lengths_floored) (pairs_of Width normal_widths (drop 1021 floors) t.tabled.widths_are t.tabled.widths_floored))

  -- what the code multiplies and reads is in reach
  pub sizes : (get_or floors cell.sides.length 0 < 1022) × (get_or (drop 1021 floors) cell.sides.width 0 < 1022) × (size.columns * (size.capacity + 1) ≤ 4182016)
      × (get_or floors cell.sides.length 0 * (size.columns * (size.capacity + 1)) ≤ 4269838336) × (get_or (drop 1021 floors) cell.sides.width 0 * (size.capacity + 1) ≤ 4182016)
  sizes = cell_sizes t.tabled cell.sides.length cell.sides.width at.on_length at.on_width

  pub there : get_or floors cell.sides.length 0 * (size.columns * (size.capacity + 1)) + get_or (drop 1021 floors) cell.sides.width 0 * (size.capacity + 1) + cell.share < length table
  there = cell_there t.tabled cell.sides.length cell.sides.width at.on_length at.on_width cell.share at.in_capacity

  pub cuts_searchable : {a b : ℕ} (value : ℕ) → a ≡ get_or floors cell.sides.length 0 → b ≡ get_or (drop 1021 floors) cell.sides.width 0
      → Searchable normal_lengths floors table (length_search size cell (record { a = a; b = b; value = value })) × Searchable normal_widths (drop 1021 floors) table (width_search size cell (record { a = a; b = b; value = value }))
  cuts_searchable value e f = rw (e, f) (
    searchable t.tabled cell.sides.length cell.sides.width at.on_length at.on_width Length normal_lengths floors t.tabled.lengths_are t.tabled.lengths_floored (omega (arith, t.floors_there)) cell.share value at.in_capacity,
    searchable t.tabled cell.sides.length cell.sides.width at.on_length at.on_width Width normal_widths (drop 1021 floors) t.tabled.widths_are t.tabled.widths_floored (omega (arith, t.floors_there, length-drop 1021 floors)) cell.share value at.in_capacity,
  )

  -- the value of the cell
  abbrev pub word_at : ℕ
  word_at = get_or table (get_or floors cell.sides.length 0 * (size.columns * (size.capacity + 1)) + get_or (drop 1021 floors) cell.sides.width 0 * (size.capacity + 1) + cell.share) 0

  answer_choice : answer le size pieces normal_lengths normal_widths floors table cell word_at ≡ chosen_at le size pieces cell
  answer_choice = ap (λ v. answer le size pieces normal_lengths normal_widths floors table cell v) (cell_figure t.tabled cell.sides.length cell.sides.width at.on_length at.on_width cell.share at.in_capacity) ∙ answer_figure

  -- each way out of the code answers the choice
  module _ {a b value : ℕ} (e : a ≡ get_or floors cell.sides.length 0) (f : b ≡ get_or (drop 1021 floors) cell.sides.width 0)
      (v : value ≡ get_or table (a * (size.columns * (size.capacity + 1)) + b * (size.capacity + 1) + cell.share) 0) where
    word_is : value ≡ word_at
    word_is = v ∙ ap₂ (λ a b. get_or table (a * (size.columns * (size.capacity + 1)) + b * (size.capacity + 1) + cell.share) 0) e f

    pub none_chosen : value ≡ 0 → record { node = Waste; share = 0 } ≡ chosen_at le size pieces cell
    none_chosen z = sym (exit_none _ _ (eq-eqb word_at 0 (sym word_is ∙ z))) ∙ answer_choice

    module _ (z : value ≡ 0 → ⊥) where
      pub piece_chosen : {n : Node} → piece_found pieces (piece_search le size pieces normal_lengths normal_widths floors table cell value) ≡ Some n → record { node = n; share = 0 } ≡ chosen_at le size pieces cell
      piece_chosen k = sym (exit_piece _ _ _ (ne_eqb value 0 z) k) ∙ ap (λ v. answer le size pieces normal_lengths normal_widths floors table cell v) word_is ∙ answer_choice

      pub cut_taken : {r : Chosen} → piece_found pieces (piece_search le size pieces normal_lengths normal_widths floors table cell value) ≡ None
          → r ≡ cut_chosen le normal_lengths normal_widths floors table size cell (record { a = a; b = b; value = value }) → r ≡ chosen_at le size pieces cell
      cut_taken k c = rw (e, f) at c ∙ sym (exit_cut _ _ _ (ne_eqb value 0 z) k) ∙ ap (λ v. answer le size pieces normal_lengths normal_widths floors table cell v) word_is ∙ answer_choice
