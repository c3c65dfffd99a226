-- A length-first block: a row from its source's and the row before, its length cuts, row after row, and its figures.
use Rattle.stage_rows.proofs.Prelude.{◌≡◌, refl, ◌∙◌, ap, List, ℕ, suc, ◌+◌, ◌-◌, ◌*◌, ◌≤◌, ◌<◌, max, ℕ_discrete, arith, below_more, leb, length, get_or, Length, Width, Job, InTableRange, Positions, Run, Half, block_at, cell_before, outside_none, half_cuts, half_next, entry_side, plain_order, sided, sided_joins, block_prior, block_ceiling, block_complete, Entries, LengthsTaken, Joins, Rows, ceiling, LengthsReady, joins_more, positions_entries, side_taken, cut_low, cut_taken, each, GreaterReady, LengthsLent, LengthRow, LengthBlock}

-- a row keeps what it has become while the words up to its end are as they were
length_same : {normal_lengths floors : List ℕ} {columns source at a : ℕ} {old new new' : List ℕ} → LengthRow normal_lengths floors columns source at a old new → ((i : ℕ) → i < at + a * columns + columns → get_or new' i 0 ≡ get_or new i 0)
    → LengthRow normal_lengths floors columns source at a old new'
length_same {columns = columns} {at = at} {a = a} w f = record {
  prior = λ b h. omega (arith, f (at + a * columns + b) (omega arith), w.prior b h);
  above = λ b l h. omega (arith, f (at + a * columns + b) (omega arith), f (at + (a - 1) * columns + b) (omega (arith, cell_before (a - 1) a columns (omega arith))), w.above b l h);
  half_end = w.half_end;
  half = w.half;
  sums = λ i j b l m h e k n x. omega (
    arith,
    f (at + a * columns + b) (omega arith),
    f (at + i * columns + b) (omega (arith, cell_before i a columns n)),
    f (at + j * columns + b) (omega (arith, cell_before j a columns k)),
    w.sums i j b l m h e k n x,
  );
}

-- a block whose row of length 0 was cleared
module _ {normal_lengths floors : List ℕ} {rows columns source at : ℕ} {old mid : List ℕ} (lent : LengthsLent normal_lengths floors rows columns source at old) (cleared : Run (λ j. 0) at columns old mid) where
  -- its source is as it was
  source_kept : (a b : ℕ) → a < rows → b < columns → get_or mid (source + a * columns + b) 0 ≡ get_or old (source + a * columns + b) 0
  source_kept a b h m = cleared.rest.before (source + a * columns + b) (omega (arith, lent.apart, cell_before a rows columns h))

  pub lengths_kept : length mid ≡ length old → LengthsLent normal_lengths floors rows columns source at mid
  lengths_kept same = record {
    axis = lent.axis;
    first = lent.first;
    some = lent.some;
    apart = lent.apart;
    room = omega (arith, lent.room);
    source_low = λ a b h m. omega (arith, source_kept a b h m, lent.source_low a b h m);
  }

  -- all rows
  pub lengths_all : {new : List ℕ} → LengthBlock normal_lengths floors rows columns source at mid new → LengthBlock normal_lengths floors rows columns source at old new
  lengths_all block = record {
    row = λ a h. (let row = block.row a h in record { prior = λ b m. omega (arith, source_kept a b h m, row.prior b m); above = row.above; half_end = row.half_end; half = row.half; sums = row.sums });
    low = λ f joins b h base. block.low f joins b h (λ a m. omega (arith, source_kept a b m h, base a m));
    rest = record {
      before = λ i h. block.rest.before i h ∙ cleared.rest.before i h;
      after = λ i h. block.rest.after i h ∙ cleared.rest.after i (omega (arith, cell_before 0 rows columns lent.some));
    };
  }

-- the fill before row a: the rows passed are made, and no entry before the half's end is past the half of entry a
pub record Lengthening (normal_lengths floors : List ℕ) (rows columns source at a half_end : ℕ) (old new : List ℕ) : Type 0 where
  pub from : 1 ≤ a
  pub to : a ≤ rows
  pub same : length new ≡ length old
  pub half_from : 1 ≤ half_end
  pub half_to : half_end ≤ a
  pub halves : (i : ℕ) → 1 ≤ i → i < half_end → a < rows → 2 * get_or normal_lengths i 0 ≤ get_or normal_lengths a 0
  pub block : LengthBlock normal_lengths floors a columns source at old new

-- no row yet but that of length 0
pub lengths_none : {normal_lengths floors : List ℕ} {rows columns source at : ℕ} {old mid : List ℕ} → LengthsLent normal_lengths floors rows columns source at old → Run (λ j. 0) at columns old mid
    → Lengthening normal_lengths floors rows columns source at 1 1 mid mid
lengths_none {normal_lengths} {floors} {rows} {columns} {source} {at} {old} {mid} lent cleared = record {
  from = omega arith;
  to = lent.some;
  same = refl;
  half_from = omega arith;
  half_to = omega arith;
  halves = λ i l m h. absurd (omega arith);
  block = record {
    row = λ a h. row a (omega arith);
    low = λ f joins b h base a m. (let e : at + a * columns + b ≡ at + b = (let z : a ≡ 0 = omega arith in rw z (omega arith)) in omega (arith, ap (λ i. get_or mid i 0) e, cleared.here b h));
    rest = outside_none at (at + 1 * columns) mid;
  };
}
  where
    row : (a : ℕ) → a ≡ 0 → LengthRow normal_lengths floors columns source at a mid mid
    row a e = record {
      prior = λ b m. omega (arith, source_kept lent cleared a b (omega (arith, lent.some)) m, lent.source_low a b (omega (arith, lent.some)) m, ap (λ a. get_or normal_lengths a 0) e, lent.first);
      above = λ b l m. absurd (omega arith);
      half_end = 0;
      half = λ l. absurd (omega arith);
      sums = λ i j b l m. absurd (omega arith);
    }

-- row a
module _ {normal_lengths floors : List ℕ} {rows columns source at a from : ℕ} {old t0 : List ℕ} (lent : LengthsLent normal_lengths floors rows columns source at old)
    (fill : Lengthening normal_lengths floors rows columns source at a from old t0) (ha : a < rows) where
  la : 1 ≤ a
  la = fill.from

  block : LengthBlock normal_lengths floors a columns source at old t0
  block = fill.block

  abbrev start : ℕ
  start = at + a * columns

  pub length_end : a * columns + columns ≤ rows * columns
  length_end = cell_before a rows columns ha

  pub length_above : columns ≤ a * columns
  length_above = omega (arith, cell_before 0 a columns la)

  above_at : (b : ℕ) → start - columns + b ≡ at + (a - 1) * columns + b
  above_at b = let back : a ≡ a - 1 + 1 = omega arith in omega (arith, ap (λ x. x * columns) back, length_above)

  source_same : (b : ℕ) → b < columns → get_or t0 (source + a * columns + b) 0 ≡ get_or old (source + a * columns + b) 0
  source_same b h = block.rest.before (source + a * columns + b) (omega (arith, lent.apart, length_end))

  -- no word of the rows passed is more than a figure
  rows_low : (i b : ℕ) → i < a → b < columns → get_or t0 (at + i * columns + b) 0 ≤ ceiling
  rows_low i b h m = omega (arith, block.low (λ x. x * 1020000000) (λ x y. omega arith) b m (λ j l. lent.source_low j b (omega arith) m) i h, (lent.axis.side i (omega arith)).0)

  above_low : (b : ℕ) → b < columns → get_or t0 (start - columns + b) 0 ≤ ceiling
  above_low b h = rw (above_at b) (rows_low (a - 1) b (omega arith) h)

  prior_low : (b : ℕ) → b < columns → get_or t0 (source + a * columns + b) 0 ≤ ceiling
  prior_low b h = omega (arith, source_same b h, lent.source_low a b ha h, (lent.axis.side a ha).0)

  -- what the row asks to start from its source and the row before
  pub start_ready : GreaterReady t0 start (source + a * columns) (start - columns) columns
  start_ready = record {
    first_before = omega (arith, lent.apart, length_end);
    second_before = omega (arith, length_above);
    room = omega (arith, lent.room, length_end, fill.same);
    first_low = prior_low;
    second_low = above_low;
  }

  module _ {t1 : List ℕ} {half_end : ℕ} (half : Half normal_lengths a half_end) (started : Run (λ j. max (get_or t0 (source + a * columns + j) 0) (get_or t0 (start - columns + j) 0)) start columns t0 t1) where
    row_same : (i b : ℕ) → i < a → b < columns → get_or t1 (at + i * columns + b) 0 ≡ get_or t0 (at + i * columns + b) 0
    row_same i b h m = started.rest.before (at + i * columns + b) (omega (arith, cell_before i a columns h))

    pub cuts_ready : length t1 ≡ length t0 → LengthsReady normal_lengths floors a half_end at start columns t1
    cuts_ready same = record {
      cuts = half_cuts normal_lengths floors rows lent.axis a half_end ha half;
      place = refl;
      room = omega (arith, lent.room, length_end, fill.same);
      rows_low = λ i b l m. low i b l m (ℕ_discrete i a);
    }
      where
        low : (i b : ℕ) → i ≤ a → b < columns → Dec (i ≡ a) → get_or t1 (at + i * columns + b) 0 ≤ ceiling
        low i b l m (yes e) = rw e (omega (arith, started.here b m, prior_low b m, above_low b m))
        low i b l m (no e) = omega (arith, row_same i b (omega arith) m, rows_low i b (omega arith) m)

    module _ {t2 : List ℕ} (taken : LengthsTaken normal_lengths floors a half_end at start columns t1 t2) where
      same_before : (i : ℕ) → i < start → get_or t2 i 0 ≡ get_or t0 i 0
      same_before i h = taken.rest.before i h ∙ started.rest.before i h

      row : LengthRow normal_lengths floors columns source at a old t2
      row = record {
        prior = λ b h. omega (arith, source_same b h, started.here b h, taken.grown b h);
        above = λ b l h. omega (arith, same_before (at + (a - 1) * columns + b) (omega (arith, cell_before (a - 1) a columns (omega arith))), ap (λ i. get_or t0 i 0) (above_at b), started.here b h, taken.grown b h);
        half_end = half_end;
        half = λ l. half;
        sums = λ i j b l m h e k n x. omega (
          arith,
          taken.rest.before (at + i * columns + b) (omega (arith, cell_before i a columns n)),
          taken.rest.before (at + j * columns + b) (omega (arith, cell_before j a columns k)),
          cut_taken lent.axis ha half taken i j b l m h e x,
        );
      }

      row_low : (f : ℕ → ℕ) → Joins f → (b : ℕ) → b < columns → ((i : ℕ) → i < a + 1 → get_or old (source + i * columns + b) 0 ≤ f (get_or normal_lengths i 0)) → get_or t2 (start + b) 0 ≤ f (get_or normal_lengths a 0)
      row_low f joins b h base = cut_low lent.axis ha half taken f joins b h (λ i l. omega (arith, row_same i b l h, passed i l)) (omega (
        arith,
        started.here b h,
        source_same b h,
        base a (omega arith),
        ap (λ i. get_or t0 i 0) (above_at b),
        passed (a - 1) (omega arith),
        joins_more f joins (get_or normal_lengths (a - 1) 0) (get_or normal_lengths a 0) (omega (arith, lent.axis.rise (a - 1) a (omega arith) ha)),
      ))
        where
          passed : (i : ℕ) → i < a → get_or t0 (at + i * columns + b) 0 ≤ f (get_or normal_lengths i 0)
          passed i l = block.low f joins b h (λ j m. base j (omega arith)) i l

      pub lengths_more : length t2 ≡ length t0 → Lengthening normal_lengths floors rows columns source at (a + 1) half_end old t2
      lengths_more same = record {
        from = omega arith;
        to = omega arith;
        same = same ∙ fill.same;
        half_from = half.least;
        half_to = omega (arith, half.most);
        halves = half_next normal_lengths floors rows lent.axis a half_end half;
        block = record {
          row = below_more (λ i. LengthRow normal_lengths floors columns source at i old t2) a (λ i h. length_same (block.row i h) (λ j m. same_before j (omega (arith, cell_before i a columns h)))) row;
          low = λ f joins b h base. below_more (λ i. get_or t2 (at + i * columns + b) 0 ≤ f (get_or normal_lengths i 0)) a
              (λ i l. omega (arith, same_before (at + i * columns + b) (omega (arith, cell_before i a columns l)), block.low f joins b h (λ j m. base j (omega arith)) i l)) (row_low f joins b h base);
          rest = record {
            before = λ i h. same_before i (omega arith) ∙ block.rest.before i h;
            after = λ i h. taken.rest.after i (omega arith) ∙ started.rest.after i (omega arith) ∙ block.rest.after i (omega arith);
          };
        };
      }

-- where the source holds the figures of one stage fewer, width first, the block holds its own
module _ (J : Job) (weight : ℕ → ℕ) (fit : InTableRange J) (k rows columns : ℕ) (normal_lengths length_floors normal_widths width_floors : List ℕ)
    (lengths : Positions J Length rows normal_lengths length_floors) (widths : Positions J Width columns normal_widths width_floors)
    {source at : ℕ} {old new : List ℕ} (prior : Rows (λ l w. block_at J leb weight k Width l w 0) normal_lengths normal_widths source columns rows old)
    (block : LengthBlock normal_lengths length_floors rows columns source at old new) where
  entries : Entries normal_lengths rows J.plate.0
  entries = positions_entries J fit Length rows normal_lengths length_floors lengths

  -- column b
  module _ (b : ℕ) (hb : b < columns) where
    abbrev w : ℕ
    w = get_or normal_widths b 0

    -- the figures along the column
    abbrev f : ℕ → ℕ
    f x = block_at J leb weight (suc k) Length x w 0

    abbrev word : ℕ → ℕ
    word a = get_or new (at + a * columns + b) 0

    word_low : (a : ℕ) → a < rows → word a ≤ f (get_or normal_lengths a 0)
    word_low = block.low f (λ x y. (sided_joins J leb weight plain_order fit k Length w).parts x y 0 0 (plain_order.least 0)) b hb
        (λ a h. omega (arith, prior a b h hb, block_prior J leb weight plain_order fit k Length (get_or normal_lengths a 0) w 0))

    -- one cell, from those before it
    cell_is : (a : ℕ) → a < rows → ((i : ℕ) → i < a → word i ≡ f (get_or normal_lengths i 0)) → Dec (a ≡ 0) → word a ≡ f (get_or normal_lengths a 0)
    cell_is a ha done (yes e) =
        let z : get_or normal_lengths a 0 ≡ 0 = ap (λ a. get_or normal_lengths a 0) e ∙ entries.first in
        omega (arith, word_low a ha, ap f z, block_ceiling J leb weight plain_order fit (suc k) Length 0 w 0)
    cell_is a ha done (no e) =
        let row = block.row a ha in
        let half = row.half (omega arith) in
        omega (
          arith,
          word_low a ha,
          block_complete J leb weight plain_order fit k Length rows normal_lengths length_floors lengths w a row.half_end 0 (word a) ha (entry_side J Width columns normal_widths width_floors fit widths b hb) half
              (omega (arith, prior a b ha hb, row.prior b hb))
              (side_taken J fit Length rows normal_lengths length_floors lengths (sided J leb weight Length (suc k) Length w) (sided_joins J leb weight plain_order fit k Length w) a row.half_end (word a) ha half
              (omega (arith, done (a - 1) (omega arith), row.above b (omega arith) hb))
              (λ i j l m x h n y u. omega (arith, done i (omega (arith, half.most)), done j h, row.sums i j b l m hb x h (omega (arith, half.most)) y))),
        )

  pub lengths_hold : Rows (λ l w. block_at J leb weight (suc k) Length l w 0) normal_lengths normal_widths at columns rows new
  lengths_hold a b ha hb = each (λ a. word b hb a ≡ f b hb (get_or normal_lengths a 0)) (λ a h done. cell_is b hb a h done (ℕ_discrete a 0)) a ha
