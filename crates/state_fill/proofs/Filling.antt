-- Rows of made cells: the first row and the first cell of each row hold 0, one cell more, one row more, and the table without its lists.
use Rattle.state_fill.proofs.Prelude.{◌≡◌, refl, sym, ◌∙◌, ap, ap₂, subst, inl, List, ℕ, ◌+◌, ◌*◌, ◌/◌, ◌%◌, ◌≤◌, ◌<◌, mul-le-mul_right, mod-lt, div-add-mod', div-lt_iff_lt-mul, ℕ_discrete, dec_le, arith, length, get_or, Length, Width, Job, InTableRange, positions_first, positions_some, position_count, Kept, Positions, Outside, Run, HalfReady, Half, Axis, cell_before, words_past, half_ready, half_next, entry_is, positions_axis, figure_at, figure_in, note_in, held, note, under, Digits, Summed, FirstRow, cell, Figures, Level, Levelled, tabled, Made, Rows, Cells, LevelRows, LevelCells, CellsLent, FlatState, Counted, RowSpot, Bare, Plain, figure_plain, note_plain, plain_word, no_side, outside_same, order_of, summed_before, made_same, made_kept, made_later, level_later}

-- there is a state
some_state : {blocks : List ℕ} {d words : ℕ} → Digits blocks d words → 1 ≤ words
some_state {blocks} {d} {words} given = omega (arith, given.states, given.digits.some d (omega arith))

-- what is lent, with a table of the same length
pub lent_kept : {J : Job} {normal_lengths length_floors normal_widths width_floors blocks : List ℕ} {d words : ℕ} {old new : List ℕ}
    → length new ≡ length old → CellsLent J normal_lengths length_floors normal_widths width_floors blocks d words old → CellsLent J normal_lengths length_floors normal_widths width_floors blocks d words new
lent_kept e w = record { range = w.range; digits = w.digits; lengths = w.lengths; widths = w.widths; room = omega (arith, e, w.room) }

-- a later state serves too
flat_later : {J : Job} {own : ℕ → ℕ} {d words flat high : ℕ} → flat ≤ high → high ≤ words → FlatState J own d words flat → FlatState J own d words high
flat_later h m w = record { most = m; weighed = λ i k l. omega (arith, w.weighed i k l); several = λ k. omega (arith, w.several k) }

-- cell b of row a ends within the table
pub cell_room : (J : Job) (words a b room : ℕ) → a < position_count J Length → b < position_count J Width
    → position_count J Length * position_count J Width * words ≤ room → cell J words a b + words ≤ room
cell_room J words a b room h l w = omega (
  arith,
  w,
  cell_before (a * position_count J Width + b) (position_count J Length * position_count J Width) words (omega (arith, cell_before a (position_count J Length) (position_count J Width) h)),
)

module _ {J : Job} (own : ℕ → ℕ) {normal_lengths length_floors normal_widths width_floors blocks : List ℕ} {d words : ℕ} {t0 : List ℕ} (lent : CellsLent J normal_lengths length_floors normal_widths width_floors blocks d words t0) where
  -- all cells of the rows below a are made
  abbrev AllMade : ℕ → ℕ → List ℕ → Type 0
  AllMade flat a xs = (i j : ℕ) → i < a → j < position_count J Width → Made J (under blocks d) own normal_lengths normal_widths words flat i j xs

  -- a cell of zeros, where the figures are 0, is made
  zeros_made : {flat : ℕ} (i j : ℕ) (xs : List ℕ) → ((s : ℕ) → tabled J (under blocks d) own normal_lengths normal_widths i j s ≡ 0) → ((s : ℕ) → s < words → get_or xs (cell J words i j + s) 0 ≡ 0) → Made J (under blocks d) own normal_lengths normal_widths words flat i j xs
  zeros_made i j xs f z = record {
    all = record {
      figures = λ s l. ap figure_in (z s l) ∙ (figure_plain 0 (omega arith) ∙ sym (f s));
      notes = λ k l. omega (arith, unnoted k l);
      ended = λ x k h l e. unnoted k l;
      sorted = λ x k h l e. absurd (omega (arith, unnoted k l));
      longer = λ s l. inl (omega (arith, f s));
      wider = λ s l. inl (omega (arith, f s));
    };
    short = λ k l. (omega (arith, unnoted k l), λ m. unnoted k l);
  }
    where
      unnoted : (k : ℕ) → k < words → note xs (cell J words i j) k ≡ 0
      unnoted k l = ap note_in (z k l) ∙ note_plain 0 (omega arith)

  first_length : get_or normal_lengths 0 0 ≡ 0
  first_length = entry_is J Length (position_count J Length) normal_lengths length_floors lent.range lent.lengths 0 (positions_some J Length) ∙ positions_first J Length

  first_width : get_or normal_widths 0 0 ≡ 0
  first_width = entry_is J Width (position_count J Width) normal_widths width_floors lent.range lent.widths 0 (positions_some J Width) ∙ positions_first J Width

  -- a cell of length 0, or of width 0, earns nothing
  zero_length : (j s : ℕ) → tabled J (under blocks d) own normal_lengths normal_widths 0 j s ≡ 0
  zero_length j s = rw first_length (no_side J (under blocks d) own (order_of blocks d words lent.digits) lent.range Length (get_or normal_widths j 0) s)

  zero_width : (i s : ℕ) → tabled J (under blocks d) own normal_lengths normal_widths i 0 s ≡ 0
  zero_width i s = rw first_width (no_side J (under blocks d) own (order_of blocks d words lent.digits) lent.range Width (get_or normal_lengths i 0) s)

  -- so its figures are the same from any state on
  pub level_first_row : (flat : ℕ) → LevelRows J (under blocks d) own normal_lengths normal_widths words flat 1
  level_first_row flat i j h l s k m = let e : i ≡ 0 = omega arith in rw e (zero_length j s ∙ sym (zero_length j flat))

  pub level_first_cell : (a flat : ℕ) → LevelCells J (under blocks d) own normal_lengths normal_widths words flat a 1
  level_first_cell a flat j l s k m = let e : j ≡ 0 = omega arith in rw e (zero_width a s ∙ sym (zero_width a flat))

  -- the row of length 0
  pub first_row : {flat : ℕ} (m : ℕ) (old new : List ℕ) → m ≡ position_count J Width * words → FirstRow blocks d words m old new → Rows J (under blocks d) own normal_lengths normal_widths words flat 1 new
  first_row {flat} m old new e w i j l h some = go (ℕ_discrete i 0)
    where
      go : Dec (i ≡ 0) → Made J (under blocks d) own normal_lengths normal_widths words flat i j new
      go (no q) = absurd (omega arith)
      go (yes q) = rw q (zeros_made 0 j new (zero_length j)
          (λ s k. w.zeros (cell J words 0 j + s) (omega (arith, cell_before 0 j words (omega arith))) (omega (arith, cell_before j (position_count J Width) words h))))

  -- the first cell of a row
  pub first_cell : {flat : ℕ} (a at : ℕ) (old new : List ℕ) → at ≡ cell J words a 0 → Run (λ j. 0) at words old new → Cells J (under blocks d) own normal_lengths normal_widths words flat a 1 new
  first_cell {flat} a at old new p w j l = go (ℕ_discrete j 0)
    where
      go : Dec (j ≡ 0) → Made J (under blocks d) own normal_lengths normal_widths words flat a j new
      go (no q) = absurd (omega arith)
      go (yes q) = rw q (zeros_made a 0 new (zero_width a) (λ s k. rw (← p) (w.here s k)))

  -- earlier rows, where words from row a on are written
  pub rows_kept : {flat : ℕ} (a at end : ℕ) (old new : List ℕ) → cell J words a 0 ≤ at → Outside at end old new → Rows J (under blocks d) own normal_lengths normal_widths words flat a old → Rows J (under blocks d) own normal_lengths normal_widths words flat a new
  rows_kept a at end old new h o w i j l m some = made_kept before o (w i j l m some)
    where
      before : cell J words i j + words ≤ at
      before = omega (arith, cell_before (i * position_count J Width + j) (a * position_count J Width + 0) words (omega (arith, cell_before i a (position_count J Width) l)))

  -- one cell more
  pub cells_more : {flat : ℕ} (a b at : ℕ) (old new : List ℕ) → at ≡ cell J words a b → Cells J (under blocks d) own normal_lengths normal_widths words flat a b old → Made J (under blocks d) own normal_lengths normal_widths words flat a b new → Outside at (at + words) old new
      → Cells J (under blocks d) own normal_lengths normal_widths words flat a (b + 1) new
  cells_more {flat} a b at old new p w m o j l = go (ℕ_discrete j b)
    where
      before : (j ≡ b → ⊥) → cell J words a j + words ≤ at
      before q = omega (arith, p, cell_before (a * position_count J Width + j) (a * position_count J Width + b) words (omega arith))

      go : Dec (j ≡ b) → Made J (under blocks d) own normal_lengths normal_widths words flat a j new
      go (yes q) = rw q m
      go (no q) = made_kept (before q) o (w j (omega arith))

  pub level_cells_more : {flat high : ℕ} (a b : ℕ) → Levelled words flat high (tabled J (under blocks d) own normal_lengths normal_widths a b) → LevelCells J (under blocks d) own normal_lengths normal_widths words flat a b
      → LevelCells J (under blocks d) own normal_lengths normal_widths words high a (b + 1)
  level_cells_more {flat} {high} a b new w j l = go (ℕ_discrete j b)
    where
      go : Dec (j ≡ b) → Level words high (tabled J (under blocks d) own normal_lengths normal_widths a j)
      go (yes q) = rw q new.level
      go (no q) = level_later new.more (w j (omega arith))

  -- one row more
  pub level_rows_more : {flat a columns : ℕ} → columns ≡ position_count J Width → LevelRows J (under blocks d) own normal_lengths normal_widths words flat a
      → LevelCells J (under blocks d) own normal_lengths normal_widths words flat a columns → LevelRows J (under blocks d) own normal_lengths normal_widths words flat (a + 1)
  level_rows_more {flat} {a} {columns} e w m i j h l = go (ℕ_discrete i a)
    where
      go : Dec (i ≡ a) → Level words flat (tabled J (under blocks d) own normal_lengths normal_widths i j)
      go (yes q) = rw q (m j (omega arith))
      go (no q) = w i j (omega arith) l

  pub rows_more : {flat : ℕ} (a columns : ℕ) (xs : List ℕ) → columns ≡ position_count J Width → Rows J (under blocks d) own normal_lengths normal_widths words flat a xs → Cells J (under blocks d) own normal_lengths normal_widths words flat a columns xs → Rows J (under blocks d) own normal_lengths normal_widths words flat (a + 1) xs
  rows_more {flat} a columns xs e w m i j h l some = go (ℕ_discrete i a)
    where
      go : Dec (i ≡ a) → Made J (under blocks d) own normal_lengths normal_widths words flat i j xs
      go (yes q) = rw q (m j (omega arith))
      go (no q) = w i j (omega arith) l some

  -- with the first cell cleared, all cells are made
  pub rows_all : {flat : ℕ} (a : ℕ) (old new : List ℕ) → Rows J (under blocks d) own normal_lengths normal_widths words flat a old → Run (λ j. 0) 0 words old new → AllMade flat a new
  rows_all {flat} a old new w run i j h l = go (dec_le 1 (i + j))
    where
      go : Dec (1 ≤ i + j) → Made J (under blocks d) own normal_lengths normal_widths words flat i j new
      go (yes some) = made_same (λ s k. run.rest.after (cell J words i j + s) (omega (arith, cell_before 0 (i * position_count J Width + j) words (past some)))) (w i j h l some)
        where
          past : 1 ≤ i + j → 0 < i * position_count J Width + j
          past m = omega (arith, mul-le-mul_right {m = 1} {n = position_count J Width} i (positions_some J Width))
      go (no none) =
          let p : i ≡ 0 = omega arith in
          let q : j ≡ 0 = omega arith in
          rw (p, q) (zeros_made 0 0 new (zero_length 0) (λ s k. (let z : cell J words 0 0 + s ≡ 0 + s = omega arith in rw z (run.here s k))))

  -- nothing is noted past the ends of the lists
  pub rows_bare : {flat : ℕ} (s : ℕ) (xs : List ℕ) → s ≡ position_count J Length * position_count J Width → 1 ≤ position_count J Width → AllMade flat (position_count J Length) xs → Bare s words xs
  rows_bare s xs e some w i j k h l m z =
      let r = position_count J Width in
      let q = div-add-mod' i r in
      let y : i / r < position_count J Length = (div-lt_iff_lt-mul {k = r} {x = i} {y = position_count J Length} some).1 (omega arith) in
      rw q at ((w (i / r) (i % r) y (mod-lt i {m = r} some)).all.ended j k l m (rw q z))

  -- the table without its lists holds the figures
  pub rows_figures : {flat : ℕ} (s a : ℕ) (old new : List ℕ) → s ≡ position_count J Length * position_count J Width → a ≡ position_count J Length → AllMade flat a old → Plain s words old new → Figures J (under blocks d) own words new
  rows_figures s k old new e f w u a b c ha hb hc =
      u.plain (a * position_count J Width + b) c (omega (arith, cell_before a (position_count J Length) (position_count J Width) ha)) hc
      ∙ (w a b (omega arith) hb).all.figures c hc
      ∙ ap₂ (λ x y. figure_at J (under blocks d) own x y c) (entry_is J Length (position_count J Length) normal_lengths length_floors lent.range lent.lengths a ha) (entry_is J Width (position_count J Width) normal_widths width_floors lent.range lent.widths b hb)

-- a run of which the rest is as it is to be
pub run_stop : (f : ℕ → ℕ) (at k m : ℕ) (old new : List ℕ) → k ≤ m → ((j : ℕ) → k ≤ j → j < m → get_or old (at + j) 0 ≡ f j) → Run f at k old new → Run f at m old new
run_stop f at k m old new h same w = record {
  here = λ j l. go j l (dec_le k j);
  rest = record { before = w.rest.before; after = λ i l. w.rest.after i (omega arith) };
}
  where
    go : (j : ℕ) → j < m → Dec (k ≤ j) → get_or new (at + j) 0 ≡ f j
    go j l (yes q) = w.rest.after (at + j) (omega arith) ∙ same j q l
    go j l (no q) = w.here j (omega arith)

-- the words from the end of a list on are figures alone
pub strip_stop : (x words k : ℕ) (old new : List ℕ) → k < words → ((i j : ℕ) → i ≤ j → j < words → note old x i ≡ 0 → note old x j ≡ 0) → note new x k ≡ 0 → Run (λ s. held old x s) x k old new → Run (λ s. held old x s) x words old new
strip_stop x words k old new h ended z w = run_stop (λ s. held old x s) x k words old new (omega arith)
    (λ j l m. sym (plain_word (get_or old (x + j) 0) (ended k j l m (sym (ap note_in (w.rest.after (x + k) (omega arith))) ∙ z)))) w

-- the list of one cell more is off
pub plain_more : (i words x : ℕ) (old xs new : List ℕ) → x ≡ i * words → Run (λ s. held xs x s) x words xs new → Plain i words old xs → Plain (i + 1) words old new
plain_more i words x old xs new e w p = record {
  plain = λ j c h l. go j c h l (ℕ_discrete j i);
  rest = λ j h. w.rest.after j (omega (arith, e)) ∙ p.rest j (omega arith);
}
  where
    go : (j c : ℕ) → j < i + 1 → c < words → Dec (j ≡ i) → get_or new (j * words + c) 0 ≡ held old (j * words) c
    go j c h l (no q) = w.rest.before (j * words + c) (omega (arith, e, cell_before j i words (omega arith))) ∙ p.plain j c (omega arith) l
    go j c h l (yes q) = rw (q, ← e) (w.here c l ∙ ap figure_in (p.rest (x + c) (omega (arith, e))))

-- the cells of row a below cell b are made, no word outside of the row has changed since the loop began, and `width_half_end` serves for
-- the half of entry b
pub record InRow (J : Job) (own : ℕ → ℕ) (normal_lengths normal_widths blocks : List ℕ) (d words columns stride a at width_half_end column flat b : ℕ) (old new : List ℕ) : Type 0 where
  pub inside : (1 ≤ b) × (b ≤ columns)
  pub halved : (1 ≤ width_half_end) × (width_half_end ≤ b)
  pub half : (i : ℕ) → 1 ≤ i → i < width_half_end → b < columns → 2 * get_or normal_widths i 0 ≤ get_or normal_widths b 0
  pub column_is : column ≡ b * words
  pub same : length new ≡ length old
  pub rows : Rows J (under blocks d) own normal_lengths normal_widths words flat a new
  pub summed : Summed blocks d words words new
  pub cells : Cells J (under blocks d) own normal_lengths normal_widths words flat a b new
  pub flat_state : FlatState J own d words flat
  pub level_rows : LevelRows J (under blocks d) own normal_lengths normal_widths words flat a
  pub level_cells : LevelCells J (under blocks d) own normal_lengths normal_widths words flat a b
  pub rest : Outside at (at + stride) old new

module _ {J : Job} {own : ℕ → ℕ} {normal_lengths length_floors normal_widths width_floors blocks : List ℕ} {d words length_count columns stride a length_half_end at flat : ℕ} {t0 : List ℕ} (spot : RowSpot J own normal_lengths length_floors normal_widths width_floors blocks d words length_count columns stride a length_half_end at flat t0) where
  row_axis : Axis normal_widths width_floors columns
  row_axis = subst (λ columns. Axis normal_widths width_floors columns) (sym spot.counted.widths) (positions_axis J Width (position_count J Width) normal_widths width_floors spot.lent.range spot.lent.widths)

  row_some : 1 ≤ columns
  row_some = omega (arith, spot.counted.widths, positions_some J Width)

  -- a cell of the row ends within the table, and within the row
  row_room : (b : ℕ) → b < columns → (at + b * words + words ≤ length t0) × (b * words + words ≤ stride)
  row_room b h = (
    omega (arith, spot.at_is, cell_room J words a b (length t0) (omega (arith, spot.length_in.1, spot.counted.lengths)) (omega (arith, spot.counted.widths)) spot.lent.room),
    omega (arith, spot.counted.stride_is, cell_before b columns words h),
  )

  -- the row lies past the first cell
  row_past : words ≤ at
  row_past = omega (arith, spot.at_is, cell_before 0 (a * position_count J Width + 0) words (omega (arith, mul-le-mul_right {m = 1} {n = position_count J Width} a (positions_some J Width), spot.length_in.0)))

  pub row_first : at + words ≤ length t0
  row_first = omega (arith, (row_room 0 row_some).0)

  -- the first cell
  pub row_start : (t1 : List ℕ) → Run (λ j. 0) at words t0 t1 → InRow J own normal_lengths normal_widths blocks d words columns stride a at 1 words flat 1 t1 t1
  row_start t1 w = record {
    inside = (omega arith, row_some);
    halved = (omega arith, omega arith);
    half = λ i l m. absurd (omega arith);
    column_is = omega arith;
    same = refl;
    rows = rows_kept own spot.lent a at (at + words) t0 t1 (omega (arith, spot.at_is)) w.rest spot.rows;
    summed = summed_before row_past w.rest spot.summed;
    cells = first_cell own spot.lent a at t0 t1 spot.at_is w;
    flat_state = spot.flat_state;
    level_rows = spot.level_rows;
    level_cells = level_first_cell own spot.lent a flat;
    rest = outside_same at (at + stride) t1;
  }

  module _ {t1 t2 : List ℕ} {width_half_end column high b : ℕ} (one : length t1 ≡ length t0) (hb : b < columns) (so : InRow J own normal_lengths normal_widths blocks d words columns stride a at width_half_end column high b t1 t2) where
    pub row_half : HalfReady normal_widths width_half_end b
    row_half = half_ready normal_widths width_floors columns row_axis width_half_end b so.halved.0 so.halved.1 hb so.half

    -- the next cell lies within the table
    pub row_fits : at + column + words ≤ length t0
    row_fits = omega (arith, so.column_is, (row_room b hb).0)

    -- one cell more
    pub row_more : (half_end : ℕ) (t3 : List ℕ) → length t3 ≡ length t2 → Half normal_widths b half_end → {next : ℕ} → Made J (under blocks d) own normal_lengths normal_widths words next a b t3 → Outside (at + column) (at + column + words) t2 t3
        → Levelled words high next (tabled J (under blocks d) own normal_lengths normal_widths a b) → InRow J own normal_lengths normal_widths blocks d words columns stride a at half_end (column + words) next (b + 1) t1 t3
    row_more half_end t3 e half made o flat_from = record {
      inside = (omega arith, omega arith);
      halved = (half.least, omega (arith, half.most));
      half = λ i l m h. half_next normal_widths width_floors columns row_axis b half_end half i l m h;
      column_is = omega (arith, so.column_is);
      same = e ∙ so.same;
      rows = λ i j h l some. made_later flat_from.more (rows_kept own spot.lent a (at + column) (at + column + words) t2 t3 (omega (arith, spot.at_is)) o so.rows i j h l some);
      summed = summed_before (omega (arith, row_past)) o so.summed;
      cells = cells_more own spot.lent a b (at + column) t2 t3 (omega (arith, spot.at_is, so.column_is)) (λ j l. made_later flat_from.more (so.cells j l)) made o;
      flat_state = flat_later flat_from.more flat_from.most so.flat_state;
      level_rows = λ i j h l. level_later flat_from.more (so.level_rows i j h l);
      level_cells = level_cells_more own spot.lent a b flat_from so.level_cells;
      rest = record {
        before = λ i h. o.before i (omega arith) ∙ so.rest.before i h;
        after = λ i h. o.after i (omega (arith, so.column_is, (row_room b hb).1)) ∙ so.rest.after i h;
      };
    }

  -- the row is made
  pub row_end : {t1 t2 : List ℕ} {width_half_end column high b : ℕ} → Run (λ j. 0) at words t0 t1 → columns ≤ b → InRow J own normal_lengths normal_widths blocks d words columns stride a at width_half_end column high b t1 t2
      → Rows J (under blocks d) own normal_lengths normal_widths words high (a + 1) t2 × Outside at (at + stride) t0 t2 × FlatState J own d words high × LevelRows J (under blocks d) own normal_lengths normal_widths words high (a + 1)
  row_end {t1} {t2} {width_half_end} {column} {high} {b} w h so = (
    rows_more own spot.lent a columns t2 spot.counted.widths so.rows (λ j l. so.cells j (omega arith)),
    record { before = λ i l. so.rest.before i l ∙ w.rest.before i l; after = λ i l. so.rest.after i l ∙ w.rest.after i (omega (arith, (row_room 0 row_some).1)) },
    so.flat_state,
    level_rows_more own spot.lent spot.counted.widths so.level_rows (λ j l. so.level_cells j (omega arith)),
  )

-- the rows below a are made, and no word past the table has changed since the loop began; `length_half_end` serves for the half of entry a
pub record InTable (J : Job) (own : ℕ → ℕ) (normal_lengths normal_widths blocks : List ℕ) (d words length_count stride at length_half_end flat a : ℕ) (old new : List ℕ) : Type 0 where
  pub inside : (1 ≤ a) × (a ≤ length_count)
  pub halved : (1 ≤ length_half_end) × (length_half_end ≤ a)
  pub half : (i : ℕ) → 1 ≤ i → i < length_half_end → a < length_count → 2 * get_or normal_lengths i 0 ≤ get_or normal_lengths a 0
  pub at_is : at ≡ a * stride
  pub same : length new ≡ length old
  pub rows : Rows J (under blocks d) own normal_lengths normal_widths words flat a new
  pub summed : Summed blocks d words words new
  pub flat_state : FlatState J own d words flat
  pub level_rows : LevelRows J (under blocks d) own normal_lengths normal_widths words flat a
  pub rest : (i : ℕ) → length_count * stride ≤ i → get_or new i 0 ≡ get_or old i 0

module _ {J : Job} {normal_lengths length_floors normal_widths width_floors blocks : List ℕ} {d words length_count columns stride : ℕ} {t0 : List ℕ} (lent : CellsLent J normal_lengths length_floors normal_widths width_floors blocks d words t0) (counted : Counted J words length_count columns stride) where
  table_axis : Axis normal_lengths length_floors length_count
  table_axis = subst (λ length_count. Axis normal_lengths length_floors length_count) (sym counted.lengths) (positions_axis J Length (position_count J Length) normal_lengths length_floors lent.range lent.lengths)

  table_some : 1 ≤ length_count
  table_some = omega (arith, counted.lengths, positions_some J Length)

  table_words : (position_count J Length * position_count J Width * words ≡ length_count * stride) × (length_count * columns * words ≡ length_count * stride)
  table_words = (ap₂ (λ i j. i * j * words) (sym counted.lengths) (sym counted.widths) ∙ other, other)
    where
      other : length_count * columns * words ≡ length_count * stride
      other = rw counted.stride_is (omega arith)

  -- a row ends within the table
  table_row_room : (a : ℕ) → a < length_count → a * stride + stride ≤ length t0
  table_row_room a h = omega (arith, table_words, lent.room, cell_before a length_count stride h)

  table_room : stride ≤ length t0
  table_room = omega (arith, table_row_room 0 table_some)

  pub table_cells : length_count * columns ≤ length t0
  table_cells = omega (arith, table_words, lent.room, mul-le-mul_right {m = 1} {n = words} (length_count * columns) (some_state lent.digits))

  pub table_first : Digits blocks d words × (words ≤ stride) × (stride ≤ length t0)
  table_first = (lent.digits, omega (arith, counted.stride_is, counted.widths, cell_before 0 columns words (omega (arith, counted.widths, positions_some J Width))), table_room)

  pub table_start : {own : ℕ → ℕ} {flat : ℕ} (t1 : List ℕ) → FirstRow blocks d words stride t0 t1 → FlatState J own d words flat → InTable J own normal_lengths normal_widths blocks d words length_count stride stride 1 flat 1 t1 t1
  table_start {own} {flat} t1 w from = record {
    inside = (omega arith, table_some);
    halved = (omega arith, omega arith);
    half = λ i l m. absurd (omega arith);
    at_is = omega arith;
    same = refl;
    rows = first_row own lent stride t0 t1 (counted.stride_is ∙ ap (λ columns. columns * words) counted.widths) w;
    summed = record { before = λ h. omega arith; sums = λ h. w.sums };
    flat_state = from;
    level_rows = level_first_row own lent flat;
    rest = λ i h. refl;
  }

  module _ {own : ℕ → ℕ} {t1 t2 : List ℕ} {at length_half_end flat a : ℕ} (one : length t1 ≡ length t0) (ha : a < length_count) (so : InTable J own normal_lengths normal_widths blocks d words length_count stride at length_half_end flat a t1 t2) where
    pub table_half : HalfReady normal_lengths length_half_end a
    table_half = half_ready normal_lengths length_floors length_count table_axis length_half_end a so.halved.0 so.halved.1 ha so.half

    -- the place of the next row
    pub table_spot : (half_end : ℕ) → Half normal_lengths a half_end → RowSpot J own normal_lengths length_floors normal_widths width_floors blocks d words length_count columns stride a half_end at flat t2
    table_spot half_end half = record {
      lent = lent_kept (so.same ∙ one) lent;
      counted = counted;
      length_in = (so.inside.0, ha);
      length_half = half;
      at_is = so.at_is ∙ (ap (λ x. a * x) (counted.stride_is ∙ ap (λ columns. columns * words) counted.widths) ∙ omega arith);
      rows = so.rows;
      summed = so.summed;
      flat_state = so.flat_state;
      level_rows = so.level_rows;
    }

    pub table_fits : at + stride ≤ length t0
    table_fits = omega (arith, so.at_is, table_row_room a ha)

    -- one row more
    pub table_more : (half_end : ℕ) (t3 : List ℕ) → length t3 ≡ length t2 → Half normal_lengths a half_end → {high : ℕ} → Rows J (under blocks d) own normal_lengths normal_widths words high (a + 1) t3 → Outside at (at + stride) t2 t3 → FlatState J own d words high → LevelRows J (under blocks d) own normal_lengths normal_widths words high (a + 1)
        → InTable J own normal_lengths normal_widths blocks d words length_count stride (at + stride) half_end high (a + 1) t1 t3
    table_more half_end t3 e half made o most level = record {
      inside = (omega arith, omega arith);
      halved = (half.least, omega (arith, half.most));
      half = λ i l m h. half_next normal_lengths length_floors length_count table_axis a half_end half i l m h;
      at_is = omega (arith, so.at_is);
      same = e ∙ so.same;
      rows = made;
      summed = summed_before (omega (arith, so.at_is, so.inside.0, table_first.1, mul-le-mul_right {m = 1} {n = a} stride so.inside.0)) o so.summed;
      flat_state = most;
      level_rows = level;
      rest = λ i h. o.after i (omega (arith, so.at_is, cell_before a length_count stride ha)) ∙ so.rest i h;
    }

  -- all rows are made; the digit sums and then the lists are taken off
  module _ {own : ℕ → ℕ} {t1 t2 : List ℕ} {at length_half_end flat a : ℕ} (w : FirstRow blocks d words stride t0 t1) (one : length t1 ≡ length t0) (ha : length_count ≤ a) (so : InTable J own normal_lengths normal_widths blocks d words length_count stride at length_half_end flat a t1 t2) where
    cells_are : length_count * columns ≡ position_count J Length * position_count J Width
    cells_are = ap₂ (λ i j. i * j) counted.lengths counted.widths

    pub table_clear : words ≤ length t2
    table_clear = omega (arith, table_first, so.same, one)

    module _ {t3 : List ℕ} (cleared : Run (λ j. 0) 0 words t2 t3) (two : length t3 ≡ length t2) where
      pub table_bare : (length_count * columns * words ≤ length t3) × Bare (length_count * columns) words t3
      table_bare =
          let q : a ≡ position_count J Length = omega (arith, counted.lengths, so.inside.1) in
          (omega (arith, table_words, lent.room, so.same, one, two), rows_bare own lent (length_count * columns) t3 cells_are (positions_some J Width) (rw q at (rows_all own lent a t2 t3 so.rows cleared)))

      pub table_end : (t4 : List ℕ) → length t4 ≡ length t3 → Plain (length_count * columns) words t3 t4
          → Figures J (under blocks d) own words t4 × Kept (position_count J Length * position_count J Width * words) t0 t4
      table_end t4 e u = (
        rows_figures own lent (length_count * columns) a t3 t4 cells_are (omega (arith, counted.lengths, so.inside.1)) (rows_all own lent a t2 t3 so.rows cleared) u,
        words_past (position_count J Length * position_count J Width * words) t0 t4 (e ∙ (two ∙ (so.same ∙ one))) (λ i h. u.rest i (omega (arith, table_words)) ∙ (cleared.rest.after i (omega (arith, table_words, table_first.1, past)) ∙ (so.rest i (omega (arith, table_words))
            ∙ w.rest i (omega (arith, table_words, past))))),
      )
        where
          past : stride ≤ length_count * stride
          past = omega (arith, cell_before 0 length_count stride table_some)

-- what the fill is lent, as the code counts the positions
pub lent_of : {J : Job} {normal_lengths length_floors normal_widths width_floors blocks : List ℕ} {d words length_count columns stride : ℕ} {t0 : List ℕ} → InTableRange J → Digits blocks d words → Positions J Length length_count normal_lengths length_floors → Positions J Width columns normal_widths width_floors
    → position_count J Length * position_count J Width * words ≤ length t0 → stride ≡ columns * words → CellsLent J normal_lengths length_floors normal_widths width_floors blocks d words t0 × Counted J words length_count columns stride
lent_of {J} {normal_lengths} {length_floors} {normal_widths} {width_floors} range digits lengths widths room stride_is = (
  record {
    range = range;
    digits = digits;
    lengths = subst (λ k. Positions J Length k normal_lengths length_floors) lengths.counted lengths;
    widths = subst (λ k. Positions J Width k normal_widths width_floors) widths.counted widths;
    room = room;
  },
  record { lengths = lengths.counted; widths = widths.counted; stride_is = stride_is },
)
