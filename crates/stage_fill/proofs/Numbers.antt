-- The cells of the blocks by their numbers: each number is one cell's, one cell more is made, and what a cell finds before it.
use Rattle.stage_fill.proofs.Prelude.{◌≡◌, refl, sym, ◌∙◌, ap, ap₂, subst, ◌⊎◌, inl, ⊎_elim, List, ℕ, suc, ◌+◌, ◌-◌, ◌*◌, ◌/◌, ◌%◌, ◌≤◌, ◌<◌, mul-le-mul, mul-le-mul_right, mod-lt, div-add-mod', div-lt_iff_lt-mul, ℕ_discrete, dec_le, arith, leb, length, get_or, drop, Direction, Length, Width, most_wide_figure, most_pieces, other, Job, InTableRange, positions_first, positions_some, positions_length, position_count, block_number, Outside, Run, HalfReady, Axis, block_at, cell_before, half_ready, half_cuts, entry_is, entry_side, positions_axis, plain_order, sided, sided_above, block_above, block_low, block_ceiling, block_number_source, block_number_apart, Shape, Line, figure_in, note_in, held, Rises, Ready, Level, Levelled, CellsLent, Counted, figure_plain, note_plain, level_later, Block, Made, States, UncutReady, UncutSteps, LaterReady, LaterSteps, LineTo, block_start, cell_number, staged_tabled, Below, BlockLent, BlockMade}
use Rattle.stage_fill.proofs.Steps.{rises_same}
use Rattle.stage_fill.proofs.Making.{made_kept, made_swap, made_ready, Later, later_rest, later_made, later_level, Uncut, uncut_rest, uncut_made, uncut_level}

-- a number below n and a multiple of n are known by their sum
apart : (n x y u v : ℕ) → y < n → v < n → x * n + y ≡ u * n + v → (x ≡ u) × (y ≡ v)
apart n x y u v h l e = go (dec_le (x + 1) u) (dec_le (u + 1) x)
  where
    go : Dec (x + 1 ≤ u) → Dec (u + 1 ≤ x) → (x ≡ u) × (y ≡ v)
    go (yes a) b = absurd (omega (arith, cell_before x u n (omega arith)))
    go (no a) (yes b) = absurd (omega (arith, cell_before u x n (omega arith)))
    go (no a) (no b) = let z : x ≡ u = omega arith in (z, omega (arith, ap (λ x. x * n) z))

cell_apart : (J : Job) (k m : ℕ) (d e : Direction) (a b u v : ℕ) → a < position_count J Length → b < position_count J Width → u < position_count J Length → v < position_count J Width
    → cell_number J k d a b ≡ cell_number J m e u v → (block_number k d ≡ block_number m e) × (a ≡ u) × (b ≡ v)
cell_apart J k m d e a b u v ha hb hu hv q =
    let p = position_count J Length in
    let r = position_count J Width in
    let o = apart (p * r) (block_number k d) (a * r + b) (block_number m e) (u * r + v) (omega (arith, cell_before a p r ha)) (omega (arith, cell_before u p r hu)) q in
    let i = apart r a b u v hb hv o.1 in
    (o.0, i.0, i.1)

module _ {J : Job} (own : ℕ → ℕ) {normal_lengths normal_widths : List ℕ} {words m flat next : ℕ} {old new : List ℕ} (fit : InTableRange J) (below : Below J own normal_lengths normal_widths words m flat old)
    (k : ℕ) (d : Direction) (a b : ℕ) (ha : a < position_count J Length) (hb : b < position_count J Width) (number : cell_number J k d a b ≡ m)
    (made : Made words (m * words) (staged_tabled J own normal_lengths normal_widths k d a b) (staged_tabled J own normal_lengths normal_widths k d (a - 1) b) (staged_tabled J own normal_lengths normal_widths k d a (b - 1)) new)
    (kept : Outside (m * words) (m * words + words) old new) (levels : Levelled words flat next (staged_tabled J own normal_lengths normal_widths k d a b)) where
  -- one cell more
  pub below_more : Below J own normal_lengths normal_widths words (m + 1) next new
  below_more = record {
    most = levels.most;
    made = λ k' d' u v hu hv l. go_made k' d' u v hu hv l (ℕ_discrete (cell_number J k' d' u v) m);
    level = λ k' d' u v hu hv l. go_level k' d' u v hu hv l (ℕ_discrete (cell_number J k' d' u v) m);
  }
    where
      same : (k' : ℕ) (d' : Direction) (u v : ℕ) → u < position_count J Length → v < position_count J Width → cell_number J k' d' u v ≡ m → (block_at J leb own k d ≡ block_at J leb own k' d') × (a ≡ u) × (b ≡ v)
      same k' d' u v hu hv e =
          let z = cell_apart J k k' d d' a b u v ha hb hu hv (number ∙ sym e) in
          (block_number_apart J leb own plain_order fit k k' d d' z.0, z.1, z.2)

      go_made : (k' : ℕ) (d' : Direction) (u v : ℕ) → u < position_count J Length → v < position_count J Width → cell_number J k' d' u v < m + 1 → Dec (cell_number J k' d' u v ≡ m)
          → Made words (cell_number J k' d' u v * words) (staged_tabled J own normal_lengths normal_widths k' d' u v) (staged_tabled J own normal_lengths normal_widths k' d' (u - 1) v) (staged_tabled J own normal_lengths normal_widths k' d' u (v - 1)) new
      go_made k' d' u v hu hv l (no n) = made_kept (omega (arith, cell_before (cell_number J k' d' u v) m words (omega arith))) kept (below.made k' d' u v hu hv (omega arith))
      go_made k' d' u v hu hv l (yes e) =
          let z = same k' d' u v hu hv e in
          rw (e, ← z.1, ← z.2) (subst (λ (F : ℕ → ℕ → ℕ → ℕ). Made words (m * words) (F (get_or normal_lengths a 0) (get_or normal_widths b 0)) (F (get_or normal_lengths (a - 1) 0) (get_or normal_widths b 0)) (F (get_or normal_lengths a 0) (get_or normal_widths (b - 1) 0)) new) z.0 made)

      go_level : (k' : ℕ) (d' : Direction) (u v : ℕ) → u < position_count J Length → v < position_count J Width → cell_number J k' d' u v < m + 1 → Dec (cell_number J k' d' u v ≡ m)
          → Level words next (staged_tabled J own normal_lengths normal_widths k' d' u v)
      go_level k' d' u v hu hv l (no n) = level_later levels.more (below.level k' d' u v hu hv (omega arith))
      go_level k' d' u v hu hv l (yes e) =
          let z = same k' d' u v hu hv e in
          rw (← z.1, ← z.2) (subst (λ (F : ℕ → ℕ → ℕ → ℕ). Level words next (F (get_or normal_lengths a 0) (get_or normal_widths b 0))) z.0 levels.level)

-- a cell of zeros, where the figures are 0
zeros_made : {words x : ℕ} {f g h : ℕ → ℕ} {old new : List ℕ} → ((s : ℕ) → f s ≡ 0) → Run (λ j. 0) x words old new → Made words x f g h new
zeros_made f run = record {
  figures = λ s l. ap figure_in (run.here s l) ∙ (figure_plain 0 (omega arith) ∙ sym (f s));
  notes = λ k l. omega (arith, ap note_in (run.here k l), note_plain 0 (omega arith));
  ended = λ j k h l z. ap note_in (run.here k l) ∙ note_plain 0 (omega arith);
  sorted = λ j k h l z. absurd (omega (arith, ap note_in (run.here k l), note_plain 0 (omega arith)));
  first = λ s l. inl (omega (arith, f s));
  second = λ s l. inl (omega (arith, f s));
}

-- figures along a side of a plate in range can be added
sided_small : (J : Job) (own : ℕ → ℕ) → InTableRange J → (e : Direction) (k : ℕ) (d : Direction) (o x s : ℕ) → o ≤ 1020 → x ≤ 1020 → sided J leb own e k d o x s ≤ most_wide_figure
sided_small J own fit e k Length o x s h l = omega (arith, block_low J leb own plain_order fit k e x o s l)
sided_small J own fit e k Width o x s h l = omega (arith, block_low J leb own plain_order fit k e o x s h)

-- figures that are the same from a state on, as the words hold them
level_held : {words flat x : ℕ} {f g h : ℕ → ℕ} {xs : List ℕ} → Made words x f g h xs → Level words flat f → Level words flat (held xs x)
level_held {words} {flat} w level s h l = w.figures s l ∙ (level s h l ∙ sym (w.figures flat (omega arith)))

-- what the code of a later cell asks
pub later_ready : {J : Job} {own : ℕ → ℕ} {k : ℕ} {d : Direction} {count : ℕ} {positions floors : List ℕ} {o o' : ℕ} {line : Line} {source across words flat : ℕ} {xs : List ℕ} → Later J own k d count positions floors o o' line source across words xs
    → States words → o ≤ 1020 → line.stride ≤ line.at → line.at + words ≤ length xs → flat ≤ words → Level words flat (sided J leb own (other d) k d o (get_or positions line.index 0)) → Level words flat (sided J leb own d (suc k) d o (get_or positions (line.index - 1) 0))
    → LaterReady positions floors line source across words flat xs
later_ready {J} {own} {k} {d} {count} {positions} {floors} {o} {o'} {line} {source} {across} {words} {flat} {xs} spot states small fits room most level level' = record {
  states = states;
  fits = fits;
  starts = record { first_before = spot.before; second_before = rw along_word (spot.earlier (line.index - 1) (omega (arith, spot.inside))); room = room; most = most; first_level = level_held spot.from level; second_level = rw along_word (level_held along level') };
  source_ready = made_ready states.0 spot.before (rising (other d) k line.index) (λ s. low (other d) k line.index s spot.inside.1) spot.from;
  along_ready = rw along_word (reads (line.index - 1) (omega (arith, spot.inside)));
  across_before = spot.beside;
  source_rises = rises_same spot.from.figures (rising (other d) k line.index);
  along_rises = rw along_word (rises_same along.figures (rising d (suc k) (line.index - 1)));
  cuts = half_cuts positions floors count axis line.index line.half_end spot.inside.1 spot.half;
  ready = reads;
}
  where
    axis : Axis positions floors count
    axis = positions_axis J d count positions floors spot.fit spot.given

    along_word : line.at - line.stride ≡ line.base + (line.index - 1) * line.stride
    along_word =
        let e : line.index - 1 + 1 ≡ line.index = omega (arith, spot.inside.0) in
        let f : line.index * line.stride ≡ (line.index - 1) * line.stride + line.stride = sym (ap (λ a. a * line.stride) e) ∙ omega arith in
        omega (arith, spot.place)

    along : Made words (line.base + (line.index - 1) * line.stride) (sided J leb own d (suc k) d o (get_or positions (line.index - 1) 0)) (sided J leb own d (suc k) d o (get_or positions (line.index - 1 - 1) 0)) (sided J leb own d (suc k) d o' (get_or positions (line.index - 1) 0)) xs
    along = spot.cells (line.index - 1) (omega (arith, spot.inside))

    rising : (e : Direction) (k j : ℕ) → Rises leb words (sided J leb own e k d o (get_or positions j 0))
    rising e k j t s h l = sided_above J leb own plain_order spot.fit e k d o (get_or positions j 0) t s l

    low : (e : Direction) (k j s : ℕ) → j < count → sided J leb own e k d o (get_or positions j 0) s ≤ most_wide_figure
    low e k j s h = sided_small J own spot.fit e k d o (get_or positions j 0) s small (axis.side j h).0

    reads : (j : ℕ) → j < line.index → Ready xs (line.base + j * line.stride) words line.at
    reads j h = made_ready states.0 (spot.earlier j h) (rising d (suc k) j) (λ s. low d (suc k) j s (omega (arith, spot.inside.1))) (spot.cells j h)

-- a plate has few cells
pub few_cells : {J : Job} {normal_lengths length_floors normal_widths width_floors blocks : List ℕ} {d words length_count columns stride : ℕ} {xs : List ℕ} → CellsLent J normal_lengths length_floors normal_widths width_floors blocks d words xs → Counted J words length_count columns stride
    → length_count * columns ≤ 1042441
few_cells {J} {length_count = length_count} {columns = columns} lent counted =
    let x : length_count ≤ 1021 = omega (arith, counted.lengths, positions_length J Length, lent.range.plate_length.1) in
    let y : columns ≤ 1021 = omega (arith, counted.widths, positions_length J Width, lent.range.plate_width.1) in
    omega (arith, mul-le-mul x y)

-- cell i of a block: its entries, as the code finds them, and its number
module _ {J : Job} {own : ℕ → ℕ} {normal_lengths normal_widths floors : List ℕ} {shape : Shape} {block : Block} {i flat : ℕ} {xs : List ℕ} (lent : BlockLent J normal_lengths normal_widths floors shape block xs) (hi : i < shape.length_count * shape.columns)
    (below : Below J own normal_lengths normal_widths shape.words (block_start shape block + i) flat xs) where
  abbrev p : ℕ
  p = position_count J Length

  abbrev r : ℕ
  r = position_count J Width

  abbrev words : ℕ
  words = shape.words

  abbrev m : ℕ
  m = block_start shape block + i

  -- the figures of a cell
  abbrev G : ℕ → Direction → ℕ → ℕ → ℕ → ℕ
  G k d a b = staged_tabled J own normal_lengths normal_widths k d a b

  fit : InTableRange J
  fit = lent.lent.range

  states : States words
  states = (omega (arith, lent.lent.digits.states, lent.lent.digits.digits.some 0 (omega arith)), lent.lent.digits.most)

  pub some_columns : 1 ≤ shape.columns
  some_columns = omega (arith, lent.counted.widths, positions_some J Width)

  cells_are : shape.length_count * shape.columns ≡ p * r
  cells_are = ap₂ (λ x y. x * y) lent.counted.lengths lent.counted.widths

  -- the block has room, and so has the cell
  pub cell_room : m * words + words ≤ length xs
  cell_room = omega (
    arith,
    lent.room,
    cell_before m ((block_number block.stage block.first + 1) * (shape.length_count * shape.columns)) words (omega arith),
  )

  module _ (a b : ℕ) (ea : a ≡ i / shape.columns) (eb : b ≡ i % shape.columns) where
    in_length : a < p
    in_length = let h = (div-lt_iff_lt-mul {k = shape.columns} {x = i} {y = shape.length_count} some_columns).1 hi in omega (arith, lent.counted.lengths)

    in_width : b < r
    in_width = let h = mod-lt i {m = shape.columns} some_columns in omega (arith, lent.counted.widths)

    entries : a * r + b ≡ i
    entries = rw (ea, eb, ← lent.counted.widths) (div-add-mod' i shape.columns)

    number_is : (k : ℕ) (d : Direction) → block_number k d ≡ block_number block.stage block.first → cell_number J k d a b ≡ m
    number_is k d e = ap₂ (λ x y. x * y + (a * r + b)) e (sym cells_are) ∙ ap (λ x. block_start shape block + x) entries

    -- a cell without length, or without width, holds 0
    module _ (zero_side : (s : ℕ) → G block.stage block.first a b s ≡ 0) {new : List ℕ} (run : Run (λ j. 0) (m * words) words xs new) where
      pub zero_cell : Below J own normal_lengths normal_widths words (m + 1) flat new
      zero_cell = below_more own fit below block.stage block.first a b in_length in_width (number_is block.stage block.first refl) (zeros_made zero_side run) run.rest
          (record { more = omega arith; most = below.most; level = λ s h l. zero_side s ∙ sym (zero_side flat) })

    first_length : get_or normal_lengths 0 0 ≡ 0
    first_length = entry_is J Length p normal_lengths floors fit lent.lent.lengths 0 (positions_some J Length) ∙ positions_first J Length

    first_width : get_or normal_widths 0 0 ≡ 0
    first_width = entry_is J Width r normal_widths (drop 1021 floors) fit lent.lent.widths 0 (positions_some J Width) ∙ positions_first J Width

    pub no_length : a ≡ 0 → (s : ℕ) → G block.stage block.first a b s ≡ 0
    no_length z s = rw (z, first_length) (omega (arith, block_ceiling J leb own plain_order fit block.stage block.first 0 (get_or normal_widths b 0) s))

    pub no_width : b ≡ 0 → (s : ℕ) → G block.stage block.first a b s ≡ 0
    no_width z s = rw (z, first_width) (omega (arith, block_ceiling J leb own plain_order fit block.stage block.first (get_or normal_lengths a 0) 0 s))

    -- the cells before it in its block
    module _ (k : ℕ) (d : Direction) (number : cell_number J k d a b ≡ m) where
      abbrev N : ℕ
      N = block_number k d * (p * r)

      stride_is : shape.stride ≡ r * words
      stride_is = lent.counted.stride_is ∙ ap (λ c. c * words) lent.counted.widths

      shorter_number : (j : ℕ) → j < a → cell_number J k d j b < m
      shorter_number j h = omega (arith, number, cell_before j a r h, positions_some J Width)

      narrower_number : (j : ℕ) → j < b → cell_number J k d a j < m
      narrower_number j h = omega (arith, number)

      at_is : m * words ≡ N * words + a * (r * words) + b * words
      at_is = sym (ap (λ x. x * words) number) ∙ omega arith

      shorter_word : (j : ℕ) → cell_number J k d j b * words ≡ N * words + b * words + j * shape.stride
      shorter_word j = rw stride_is (omega arith)

      narrower_word : (j : ℕ) → cell_number J k d a j * words ≡ N * words + a * (r * words) + j * words
      narrower_word j = omega arith

      base_length : m * words - a * shape.stride ≡ N * words + b * words
      base_length = rw stride_is (omega (arith, at_is))

      base_width : m * words - b * words ≡ N * words + a * (r * words)
      base_width = omega (arith, at_is)

      fits_length : 1 ≤ a → shape.stride ≤ m * words
      fits_length h = rw stride_is (omega (arith, at_is, cell_before 0 a (r * words) h))

      fits_width : 1 ≤ b → words ≤ m * words
      fits_width h = omega (arith, at_is, cell_before 0 b words h)

      shorter_at : 1 ≤ a → m * words - shape.stride ≡ cell_number J k d (a - 1) b * words
      shorter_at h =
          let e : a - 1 + 1 ≡ a = omega arith in
          let f : a * (r * words) ≡ (a - 1) * (r * words) + r * words = sym (ap (λ a. a * (r * words)) e) ∙ omega arith in
          rw stride_is (omega (arith, at_is))

      narrower_at : 1 ≤ b → m * words - words ≡ cell_number J k d a (b - 1) * words
      narrower_at h =
          let e : b - 1 + 1 ≡ b = omega arith in
          let f : b * words ≡ (b - 1) * words + words = sym (ap (λ b. b * words) e) ∙ omega arith in
          omega (arith, at_is)

      before_at : (n : ℕ) → n < m → n * words + words ≤ m * words
      before_at n h = cell_before n m words h

      -- a cell of the same block is made
      at_length : (j : ℕ) → j < a → Made words (cell_number J k d j b * words) (G k d j b) (G k d (j - 1) b) (G k d j (b - 1)) xs
      at_length j h = below.made k d j b (omega (arith, in_length)) in_width (shorter_number j h)

      at_width : (j : ℕ) → j < b → Made words (cell_number J k d a j * words) (G k d a j) (G k d (a - 1) j) (G k d a (j - 1)) xs
      at_width j h = below.made k d a j in_length (omega (arith, in_width)) (narrower_number j h)

      length_low : (j : ℕ) → j < p → get_or normal_lengths j 0 ≤ 1020
      length_low j h = ((positions_axis J Length p normal_lengths floors fit lent.lent.lengths).side j h).0

      width_low : (j : ℕ) → j < r → get_or normal_widths j 0 ≤ 1020
      width_low j h = ((positions_axis J Width r normal_widths (drop 1021 floors) fit lent.lent.widths).side j h).0

      cell_rises : (u v : ℕ) → Rises leb words (G k d u v)
      cell_rises u v t s h l = block_above J leb own plain_order fit k d (get_or normal_lengths u 0) (get_or normal_widths v 0) t s l

      cell_small : (u v s : ℕ) → u < p → v < r → G k d u v s ≤ most_wide_figure
      cell_small u v s h l = omega (arith, block_low J leb own plain_order fit k d (get_or normal_lengths u 0) (get_or normal_widths v 0) s (length_low u h), width_low v l)

    -- a cell without a cut
    module _ (stage_none : block.stage ≡ 0) (la : 1 ≤ a) (lb : 1 ≤ b) where
      number_none : cell_number J 0 block.first a b ≡ m
      number_none = number_is 0 block.first (ap (λ k. block_number k block.first) (sym stage_none))

      pub uncut_spot : Uncut J own block.first p r normal_lengths floors normal_widths (drop 1021 floors) a b (m * words) shape.stride words xs
      uncut_spot = record {
        fit = fit;
        lengths = lent.lent.lengths;
        widths = lent.lent.widths;
        length_in = (la, in_length);
        width_in = (lb, in_width);
        above = rw (shorter_at 0 block.first number_none la) (before_at 0 block.first number_none _ (shorter_number 0 block.first number_none (a - 1) (omega arith)));
        beside = rw (narrower_at 0 block.first number_none lb) (before_at 0 block.first number_none _ (narrower_number 0 block.first number_none (b - 1) (omega arith)));
        shorter = rw (shorter_at 0 block.first number_none la) (at_length 0 block.first number_none (a - 1) (omega arith));
        narrower = rw (narrower_at 0 block.first number_none lb) (at_width 0 block.first number_none (b - 1) (omega arith));
      }

      shorter_level : Level words flat (G 0 block.first (a - 1) b)
      shorter_level = below.level 0 block.first (a - 1) b (omega (arith, in_length)) in_width (shorter_number 0 block.first number_none (a - 1) (omega arith))

      pub uncut_ready : shape.count ≤ most_pieces → UncutReady shape (m * words) flat xs
      uncut_ready few = record {
        one_digit = lent.one_digit;
        states = states;
        few = few;
        fits = (fits_length 0 block.first number_none la, fits_width 0 block.first number_none lb);
        starts = record {
          first_before = uncut_spot.above;
          second_before = uncut_spot.beside;
          room = cell_room;
          most = below.most;
          first_level = level_held uncut_spot.shorter shorter_level;
          second_level = level_held uncut_spot.narrower (below.level 0 block.first a (b - 1) in_length (omega (arith, in_width)) (narrower_number 0 block.first number_none (b - 1) (omega arith)));
        };
        shorter = made_ready states.0 uncut_spot.above (cell_rises 0 block.first number_none (a - 1) b) (λ s. cell_small 0 block.first number_none (a - 1) b s (omega (arith, in_length)) in_width) uncut_spot.shorter;
        narrower = made_ready states.0 uncut_spot.beside (cell_rises 0 block.first number_none a (b - 1)) (λ s. cell_small 0 block.first number_none a (b - 1) s in_length (omega (arith, in_width))) uncut_spot.narrower;
        shorter_rises = rises_same uncut_spot.shorter.figures (cell_rises 0 block.first number_none (a - 1) b);
        narrower_rises = rises_same uncut_spot.narrower.figures (cell_rises 0 block.first number_none a (b - 1));
      }

      pub uncut_cell : {next : ℕ} {new : List ℕ} → UncutSteps J own J.count words shape.stride (m * words) (get_or normal_lengths a 0) (get_or normal_widths b 0) flat next xs new
          → Below J own normal_lengths normal_widths words (m + 1) next new × Outside (m * words) (m * words + words) xs new
      uncut_cell steps = (below_more own fit below 0 block.first a b in_length in_width number_none (uncut_made uncut_spot steps) (uncut_rest uncut_spot steps) (uncut_level uncut_spot steps below.most shorter_level), uncut_rest uncut_spot steps)

    -- a later cell, whose block is that of stage k + 1 and direction d
    module _ (k : ℕ) (la : 1 ≤ a) (lb : 1 ≤ b) where
      source_number : (d : Direction) → cell_number J (suc k) d a b ≡ m → cell_number J k (other d) a b < m
      source_number d number = omega (arith, number, cell_before (block_number k (other d)) (block_number (suc k) d) (p * r) (block_number_source k d), cell_before 0 p r (positions_some J Length), positions_some J Width)

      source_made : (d : Direction) → cell_number J (suc k) d a b ≡ m → Made words (cell_number J k (other d) a b * words) (G k (other d) a b) (G k (other d) (a - 1) b) (G k (other d) a (b - 1)) xs
      source_made d number = below.made k (other d) a b in_length in_width (source_number d number)

      module _ (number : cell_number J (suc k) Length a b ≡ m) {line : Line} (to : LineTo normal_lengths (m * words) a shape.stride line) where
        word : (j : ℕ) → line.base + j * line.stride ≡ cell_number J (suc k) Length j b * words
        word j = ap₂ (λ x y. x + j * y) (to.base_is ∙ base_length (suc k) Length number) to.stride_is ∙ sym (shorter_word (suc k) Length number j)

        pub length_spot : Later J own k Length p normal_lengths floors (get_or normal_widths b 0) (get_or normal_widths (b - 1) 0) line (cell_number J k Width a b * words) (m * words - words) words xs
        length_spot = record {
          fit = fit;
          given = lent.lent.lengths;
          on = entry_side J Width r normal_widths (drop 1021 floors) fit lent.lent.widths b in_width;
          inside = rw to.index_is (la, in_length);
          half = rw to.index_is to.half;
          place = rw to.index_is (to.at_is ∙ (sym (ap (λ x. x * words) number) ∙ sym (word a)));
          before = rw to.at_is (before_at (suc k) Length number _ (source_number Length number));
          beside = rw (to.at_is, narrower_at (suc k) Length number lb) (before_at (suc k) Length number _ (narrower_number (suc k) Length number (b - 1) (omega arith)));
          earlier = λ j h. rw (to.at_is, word j) (before_at (suc k) Length number _ (shorter_number (suc k) Length number j (rw to.index_is at h)));
          from = rw to.index_is (source_made Length number);
          cells = λ j h. rw (word j) (at_length (suc k) Length number j (rw to.index_is at h));
          next_to = λ s h. rw (to.index_is, narrower_at (suc k) Length number lb) ((at_width (suc k) Length number (b - 1) (omega arith)).figures s h);
        }

        length_levels : Level words flat (G k Width a b) × Level words flat (G (suc k) Length (a - 1) b)
        length_levels = (below.level k Width a b in_length in_width (source_number Length number), below.level (suc k) Length (a - 1) b (omega (arith, in_length)) in_width (shorter_number (suc k) Length number (a - 1) (omega arith)))

        pub length_ready : LaterReady normal_lengths floors line (cell_number J k Width a b * words) (m * words - words) words flat xs
        length_ready = later_ready length_spot states (width_low (suc k) Length number b in_width) (rw (to.at_is, to.stride_is) (fits_length (suc k) Length number la)) (rw to.at_is cell_room) below.most (rw to.index_is length_levels.0) (rw to.index_is length_levels.1)

        pub length_cell : {next : ℕ} {new : List ℕ} → LaterSteps normal_lengths floors line (cell_number J k Width a b * words) (m * words - words) words flat next xs new
            → Below J own normal_lengths normal_widths words (m + 1) next new × Outside (m * words) (m * words + words) xs new
        length_cell {next} {new} steps =
            let rest : Outside (m * words) (m * words + words) xs new = rw to.at_is at (later_rest length_spot steps) in (
              below_more own fit below (suc k) Length a b in_length in_width number (rw (to.at_is, to.index_is) at (later_made length_spot steps)) rest
                  (rw to.index_is at (later_level length_spot steps below.most (rw to.index_is length_levels.1))),
              rest,
            )

      module _ (number : cell_number J (suc k) Width a b ≡ m) {line : Line} (to : LineTo normal_widths (m * words) b words line) where
        place_of : (j : ℕ) → line.base + j * line.stride ≡ cell_number J (suc k) Width a j * words
        place_of j = ap₂ (λ x y. x + j * y) (to.base_is ∙ base_width (suc k) Width number) to.stride_is ∙ sym (narrower_word (suc k) Width number j)

        pub width_spot : Later J own k Width r normal_widths (drop 1021 floors) (get_or normal_lengths a 0) (get_or normal_lengths (a - 1) 0) line (cell_number J k Length a b * words) (m * words - shape.stride) words xs
        width_spot = record {
          fit = fit;
          given = lent.lent.widths;
          on = entry_side J Length p normal_lengths floors fit lent.lent.lengths a in_length;
          inside = rw to.index_is (lb, in_width);
          half = rw to.index_is to.half;
          place = rw to.index_is (to.at_is ∙ (sym (ap (λ x. x * words) number) ∙ sym (place_of b)));
          before = rw to.at_is (before_at (suc k) Width number _ (source_number Width number));
          beside = rw (to.at_is, shorter_at (suc k) Width number la) (before_at (suc k) Width number _ (shorter_number (suc k) Width number (a - 1) (omega arith)));
          earlier = λ j h. rw (to.at_is, place_of j) (before_at (suc k) Width number _ (narrower_number (suc k) Width number j (rw to.index_is at h)));
          from = rw to.index_is (made_swap (source_made Width number));
          cells = λ j h. rw (place_of j) (made_swap (at_width (suc k) Width number j (rw to.index_is at h)));
          next_to = λ s h. rw (to.index_is, shorter_at (suc k) Width number la) ((at_length (suc k) Width number (a - 1) (omega arith)).figures s h);
        }

        width_levels : Level words flat (G k Length a b) × Level words flat (G (suc k) Width a (b - 1))
        width_levels = (below.level k Length a b in_length in_width (source_number Width number), below.level (suc k) Width a (b - 1) in_length (omega (arith, in_width)) (narrower_number (suc k) Width number (b - 1) (omega arith)))

        pub width_ready : LaterReady normal_widths (drop 1021 floors) line (cell_number J k Length a b * words) (m * words - shape.stride) words flat xs
        width_ready = later_ready width_spot states (length_low (suc k) Width number a in_length) (rw (to.at_is, to.stride_is) (fits_width (suc k) Width number lb)) (rw to.at_is cell_room) below.most (rw to.index_is width_levels.0) (rw to.index_is width_levels.1)

        pub width_cell : {next : ℕ} {new : List ℕ} → LaterSteps normal_widths (drop 1021 floors) line (cell_number J k Length a b * words) (m * words - shape.stride) words flat next xs new
            → Below J own normal_lengths normal_widths words (m + 1) next new × Outside (m * words) (m * words + words) xs new
        width_cell {next} {new} steps =
            let rest : Outside (m * words) (m * words + words) xs new = rw to.at_is at (later_rest width_spot steps) in (
              below_more own fit below (suc k) Width a b in_length in_width number (made_swap (rw (to.at_is, to.index_is) at (later_made width_spot steps))) rest
                  (rw to.index_is at (later_level width_spot steps below.most (rw to.index_is width_levels.1))),
              rest,
            )

  -- as the code counts: the number of a block, and the words of its cell i
  module _ (n : ℕ) (is : n ≡ block_number block.stage block.first) where
    pub few_blocks : n * (shape.length_count * shape.columns) ≤ 16679056
    few_blocks = omega (arith, few_cells lent.lent lent.counted, mul-le-mul_right {m = n} {n = 16} (shape.length_count * shape.columns) (low block.stage block.first is lent.numbered.0))
      where
        low : (k : ℕ) (d : Direction) → n ≡ block_number k d → k ≤ 8 → n ≤ 16
        low k Length e h = omega arith
        low k Width e h = omega arith

    pub few_words : (n * (shape.length_count * shape.columns) + i) * words ≤ 1161396027392
    few_words =
        let x : n * (shape.length_count * shape.columns) + i ≤ 17721497 = omega (arith, few_blocks, few_cells lent.lent lent.counted) in
        omega (arith, mul-le-mul x states.1)

    -- a cell's words, and those after it
    pub word_is : (n * (shape.length_count * shape.columns) + i) * words ≡ m * words
    word_is = ap (λ n. (n * (shape.length_count * shape.columns) + i) * words) is

  after_cell : {old new : List ℕ} → Outside (m * words) (m * words + words) old new → (j : ℕ) → (m + 1) * words ≤ j → get_or new j 0 ≡ get_or old j 0
  after_cell out j h = out.after j (omega arith)

  module _ (n : ℕ) (is : n ≡ block_number block.stage block.first) (a b : ℕ) (ea : a ≡ i / shape.columns) (eb : b ≡ i % shape.columns) where
    -- a cell without length, or without width
    pub zero_done : (a ≡ 0) ⊎ (b ≡ 0) → {new : List ℕ} → Run (λ j. 0) ((n * (shape.length_count * shape.columns) + i) * words) words xs new
        → BlockMade J own normal_lengths normal_widths shape (m + 1) flat xs new
    zero_done z {new} run =
        let here : Run (λ j. 0) (m * words) words xs new = rw (word_is n is) at run in
        record { cells = zero_cell a b ea eb (⊎_elim (λ x. no_length a b ea eb x) (λ x. no_width a b ea eb x) z) here; rest = after_cell here.rest }

    -- a cell without a cut
    module _ (stage_none : block.stage ≡ 0) (na : a ≡ 0 → ⊥) (nb : b ≡ 0 → ⊥) where
      pub uncut_asks : shape.count ≤ most_pieces → UncutReady shape ((n * (shape.length_count * shape.columns) + i) * words) flat xs
      uncut_asks few = rw (word_is n is) (uncut_ready a b ea eb stage_none (omega arith) (omega arith) few)

      pub uncut_done : {next : ℕ} {new : List ℕ} → UncutSteps J own J.count words shape.stride ((n * (shape.length_count * shape.columns) + i) * words) (get_or normal_lengths a 0) (get_or normal_widths b 0) flat next xs new
          → BlockMade J own normal_lengths normal_widths shape (m + 1) next xs new
      uncut_done steps = let z = uncut_cell a b ea eb stage_none (omega arith) (omega arith) (rw (word_is n is) at steps) in record { cells = z.0; rest = after_cell z.1 }

    -- a later cell
    module _ (n' : ℕ) (source_is : n' ≡ block_number (block.stage - 1) (other block.first)) (some : 1 ≤ block.stage) (na : a ≡ 0 → ⊥) (nb : b ≡ 0 → ⊥) where
      later_number : (d : Direction) → block.first ≡ d → cell_number J (suc (block.stage - 1)) d a b ≡ m
      later_number d e = number_is a b ea eb (suc (block.stage - 1)) d (let z : suc (block.stage - 1) ≡ block.stage = omega arith in ap₂ block_number z (sym e))

      source_word : (d : Direction) → block.first ≡ d → (n' * (shape.length_count * shape.columns) + i) * words ≡ cell_number J (block.stage - 1) (other d) a b * words
      source_word d e = ap (λ x. x * words) (ap₂ (λ x y. x * y + i) (source_is ∙ ap (λ d. block_number (block.stage - 1) (other d)) e) cells_are ∙ ap (λ x. block_number (block.stage - 1) (other d) * (p * r) + x) (sym (entries a b ea eb)))

      pub few_source : n' * (shape.length_count * shape.columns) + i ≤ 17721497
      few_source = omega (arith, few_cells lent.lent lent.counted, mul-le-mul_right {m = n'} {n = 16} (shape.length_count * shape.columns) (low (block.stage - 1) (other block.first) source_is (omega (arith, lent.numbered.0))))
        where
          low : (k : ℕ) (d : Direction) → n' ≡ block_number k d → k ≤ 8 → n' ≤ 16
          low k Length e h = omega arith
          low k Width e h = omega arith

      pub few_source_words : (n' * (shape.length_count * shape.columns) + i) * words ≤ 1161396027392
      few_source_words = omega (arith, mul-le-mul few_source states.1)

      module _ (lengthwise : block.first ≡ Length) where
        pub length_line : HalfReady normal_lengths 1 a × (a * shape.stride ≤ (n * (shape.length_count * shape.columns) + i) * words)
        length_line = (
          half_ready normal_lengths floors p (positions_axis J Length p normal_lengths floors fit lent.lent.lengths) 1 a (omega arith) (omega arith) (in_length a b ea eb) (λ j l h. absurd (omega arith)),
          rw (word_is n is, stride_is a b ea eb (suc (block.stage - 1)) Length (later_number Length lengthwise)) (omega (arith, at_is a b ea eb (suc (block.stage - 1)) Length (later_number Length lengthwise))),
        )

        pub length_fits : words ≤ (n * (shape.length_count * shape.columns) + i) * words
        length_fits = rw (word_is n is) (fits_width a b ea eb (suc (block.stage - 1)) Length (later_number Length lengthwise) (omega arith))

        module _ {line : Line} (to : LineTo normal_lengths ((n * (shape.length_count * shape.columns) + i) * words) a shape.stride line) where
          to_cell : LineTo normal_lengths (m * words) a shape.stride line
          to_cell = rw (word_is n is) at to

          pub length_asks : LaterReady normal_lengths floors line ((n' * (shape.length_count * shape.columns) + i) * words) ((n * (shape.length_count * shape.columns) + i) * words - words) words flat xs
          length_asks = rw (word_is n is, source_word Length lengthwise) (length_ready a b ea eb (block.stage - 1) (omega arith) (omega arith) (later_number Length lengthwise) to_cell)

          pub length_done : {next : ℕ} {new : List ℕ} → LaterSteps normal_lengths floors line ((n' * (shape.length_count * shape.columns) + i) * words) ((n * (shape.length_count * shape.columns) + i) * words - words) words flat next xs new
              → BlockMade J own normal_lengths normal_widths shape (m + 1) next xs new
          length_done steps = let z = length_cell a b ea eb (block.stage - 1) (omega arith) (omega arith) (later_number Length lengthwise) to_cell (rw (word_is n is, source_word Length lengthwise) at steps) in record { cells = z.0; rest = after_cell z.1 }

      module _ (widthwise : block.first ≡ Width) where
        pub width_line : HalfReady normal_widths 1 b × (b * words ≤ (n * (shape.length_count * shape.columns) + i) * words)
        width_line = (
          half_ready normal_widths (drop 1021 floors) r (positions_axis J Width r normal_widths (drop 1021 floors) fit lent.lent.widths) 1 b (omega arith) (omega arith) (in_width a b ea eb) (λ j l h. absurd (omega arith)),
          rw (word_is n is) (omega (arith, at_is a b ea eb (suc (block.stage - 1)) Width (later_number Width widthwise))),
        )

        pub width_fits : shape.stride ≤ (n * (shape.length_count * shape.columns) + i) * words
        width_fits = rw (word_is n is) (fits_length a b ea eb (suc (block.stage - 1)) Width (later_number Width widthwise) (omega arith))

        module _ {line : Line} (to : LineTo normal_widths ((n * (shape.length_count * shape.columns) + i) * words) b words line) where
          to_width : LineTo normal_widths (m * words) b words line
          to_width = rw (word_is n is) at to

          pub width_asks : LaterReady normal_widths (drop 1021 floors) line ((n' * (shape.length_count * shape.columns) + i) * words) ((n * (shape.length_count * shape.columns) + i) * words - shape.stride) words flat xs
          width_asks = rw (word_is n is, source_word Width widthwise) (width_ready a b ea eb (block.stage - 1) (omega arith) (omega arith) (later_number Width widthwise) to_width)

          pub width_done : {next : ℕ} {new : List ℕ} → LaterSteps normal_widths (drop 1021 floors) line ((n' * (shape.length_count * shape.columns) + i) * words) ((n * (shape.length_count * shape.columns) + i) * words - shape.stride) words flat next xs new
              → BlockMade J own normal_lengths normal_widths shape (m + 1) next xs new
          width_done steps = let z = width_cell a b ea eb (block.stage - 1) (omega arith) (omega arith) (later_number Width widthwise) to_width (rw (word_is n is, source_word Width widthwise) at steps) in record { cells = z.0; rest = after_cell z.1 }
