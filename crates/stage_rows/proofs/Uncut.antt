-- The block without a cut: a row gathered from its units, its pieces, row after row, and its figures.
use Rattle.stage_rows.proofs.Prelude.{◌≡◌, refl, sym, ◌∙◌, ap, List, ℕ, ◌+◌, ◌-◌, ◌*◌, ◌≤◌, ◌<◌, ℕ_discrete, arith, below_more, leb, leb→le, le→leb, length, get_or, Direction, Length, Width, upright, Job, InTableRange, listed_weight, table_lies, TableSize, size_job, Positions, Run, block_at, cell_before, outside_none, plain_order, singles, block_larger, block_ceiling, block_uncut, block_single, Raised, Pieces, Entries, Spread, Rows, ceiling, Capped, RowReady, WidthsReady, positions_entries, each, Rising, Gathered, UncutRow, UncutLent, UncutCells, UncutBlock}

-- no word is more than two figures together
pub gathered_low : {normal_widths unit old new : List ℕ} {columns side start b : ℕ} → WidthsReady normal_widths columns side start unit old → Gathered normal_widths b start unit old new → (i : ℕ) → i < b → get_or new (start + i) 0 ≤ 2 * ceiling
gathered_low {normal_widths} {unit} {old} {new} {start = start} {b = b} ready w = each (λ i. get_or new (start + i) 0 ≤ 2 * ceiling) (λ i h done. go i h done (ℕ_discrete i 0))
  where
    go : (i : ℕ) → i < b → ((j : ℕ) → j < i → get_or new (start + j) 0 ≤ 2 * ceiling) → Dec (i ≡ 0) → get_or new (start + i) 0 ≤ 2 * ceiling
    go i h done (yes e) = let z : start + i ≡ start = omega arith in rw z (omega (arith, w.rest.before start (omega arith), ready.first, ready.laid.capped 0))
    go i h done (no e) = omega (arith, w.here i (omega arith) h, ready.laid.capped (get_or normal_widths i 0), done (i - 1) (omega arith))

-- a row whose words stand at their units, which took its pieces there, and was gathered
module _ {l count columns width start : ℕ} {pieces normal_widths unit table laid placed new : List ℕ} (ready : RowReady pieces count normal_widths columns width start unit table)
    (spread : Spread normal_widths start columns table unit laid) (kinds : Raised (Pieces l width pieces count) laid placed) (gathered : Gathered normal_widths columns start placed table new) where
  entries : Entries normal_widths columns width
  entries = ready.laid.entries

  -- its first word is as it was
  first_same : (b : ℕ) → b ≡ 0 → get_or new (start + b) 0 ≡ get_or table (start + b) 0
  first_same b e = gathered.rest.before (start + b) (omega arith)

  -- the others are no less than their units
  unit_low : (b : ℕ) → 1 ≤ b → b < columns → get_or placed (get_or normal_widths b 0) 0 ≤ get_or new (start + b) 0
  unit_low b l h = omega (arith, gathered.here b l h)

  pub uncut_row : UncutRow (Pieces l width pieces count) normal_widths columns start table new
  uncut_row = record {
    grown = λ b h. grown b h (ℕ_discrete b 0);
    taken = λ b v h o. taken b v h o (ℕ_discrete b 0);
    before = λ b l h. omega (arith, gathered.here b l h);
    low = λ f rising words offered. each (λ b. get_or new (start + b) 0 ≤ f (get_or normal_widths b 0)) (λ b h done. low f rising words offered b h done (ℕ_discrete b 0));
    rest = record { before = λ i h. gathered.rest.before i (omega arith); after = gathered.rest.after };
  }
    where
      grown : (b : ℕ) → b < columns → Dec (b ≡ 0) → get_or table (start + b) 0 ≤ get_or new (start + b) 0
      grown b h (yes e) = omega (arith, first_same b e)
      grown b h (no e) = omega (arith, spread.here b h, kinds.grown (get_or normal_widths b 0), unit_low b (omega arith) h)

      taken : (b v : ℕ) → b < columns → Pieces l width pieces count (get_or normal_widths b 0) v → Dec (b ≡ 0) → v ≤ get_or new (start + b) 0
      taken b v h o (yes e) = absurd (omega (arith, ap (λ b. get_or normal_widths b 0) e, entries.first, o.alone.place, ready.lying.wide o.index o.inside))
      taken b v h o (no e) = omega (arith, kinds.taken (get_or normal_widths b 0) v o, unit_low b (omega arith) h)

      low : (f : ℕ → ℕ) → Rising f → ((b : ℕ) → b < columns → get_or table (start + b) 0 ≤ f (get_or normal_widths b 0)) → ((x v : ℕ) → Pieces l width pieces count x v → v ≤ f x)
          → (b : ℕ) → b < columns → ((i : ℕ) → i < b → get_or new (start + i) 0 ≤ f (get_or normal_widths i 0)) → Dec (b ≡ 0) → get_or new (start + b) 0 ≤ f (get_or normal_widths b 0)
      low f rising words offered b h done (yes e) = omega (arith, first_same b e, words b h)
      low f rising words offered b h done (no e) = omega (
        arith,
        gathered.here b (omega arith) h,
        done (b - 1) (omega arith),
        rising (get_or normal_widths (b - 1) 0) (get_or normal_widths b 0) (omega (arith, entries.rise (b - 1) b (omega arith) h)),
        kinds.low (get_or normal_widths b 0) (f (get_or normal_widths b 0)) (offered (get_or normal_widths b 0)) (omega (arith, spread.here b h, words b h)),
      )

-- cells keep what they are while their words are as they were
cells_same : {width count columns a : ℕ} {pieces normal_lengths normal_widths new new' : List ℕ} → UncutCells width pieces count normal_lengths normal_widths columns a new → ((i : ℕ) → i < a * columns + columns → get_or new' i 0 ≡ get_or new i 0) → 1 ≤ a
    → UncutCells width pieces count normal_lengths normal_widths columns a new'
cells_same {columns = columns} {a = a} w f l = record {
  above = λ b h. omega (arith, f ((a - 1) * columns + b) (omega (arith, cell_before (a - 1) a columns (omega arith))), f (a * columns + b) (omega arith), w.above b h);
  before = λ b m h. omega (arith, f (a * columns + (b - 1)) (omega arith), f (a * columns + b) (omega arith), w.before b m h);
  taken = λ b v h o. omega (arith, f (a * columns + b) (omega arith), w.taken b v h o);
}

module _ {size : TableSize} {pieces normal_lengths normal_widths asked : List ℕ} (lent : UncutLent size pieces normal_lengths normal_widths asked) where
  abbrev columns : ℕ
  columns = size.columns

  abbrev Block : ℕ → List ℕ → List ℕ → Type 0
  Block a old new = UncutBlock size.width pieces size.count normal_lengths normal_widths a columns old new

  -- there is a row, and the table has room for it
  pub first_row : columns ≤ size.rows * columns
  first_row = omega (arith, cell_before 0 size.rows columns lent.lengths.some)

  -- row a
  module _ {a : ℕ} {old t0 : List ℕ} (block : Block a old t0) (la : 1 ≤ a) (ha : a < size.rows) where
    pub uncut_end : a * columns + columns ≤ size.rows * columns
    uncut_end = cell_before a size.rows columns ha

    module _ {tc : List ℕ} (copied : Run (λ j. get_or t0 (a * columns - columns + j) 0) (a * columns) columns t0 tc) where
      above_is : (b : ℕ) → b < columns → get_or tc (a * columns + b) 0 ≡ get_or t0 ((a - 1) * columns + b) 0
      above_is b h =
          let back : a ≡ a - 1 + 1 = omega arith in
          let e : a * columns - columns + b ≡ (a - 1) * columns + b = omega (arith, ap (λ x. x * columns) back) in
          copied.here b h ∙ ap (λ i. get_or t0 i 0) e

      pub uncut_ready : {unit : List ℕ} → length tc ≡ length asked → length unit ≡ 1021 → Capped unit → RowReady pieces size.count normal_widths columns size.width (a * columns) unit tc
      uncut_ready same units capped = record {
        laid = record { entries = lent.widths; side_low = lent.width_low; units = omega (arith, lent.width_low); room = omega (arith, lent.room, uncut_end); capped = capped };
        lying = record { counted = lent.counted; wide = lent.wide; priced = lent.priced; units = omega (arith, lent.width_low) };
        words_low = λ b h. omega (
          arith,
          above_is b h,
          block.low (λ l w. w * 1020000000) (λ l x y h. omega arith) (λ w x y h. omega arith)
              (λ i x v m o. omega (arith, o.alone.value, o.alone.place, lent.priced o.index o.inside, lent.wide o.index o.inside)) (a - 1) (omega arith) b h,
        );
      }

      module _ {t1 : List ℕ} (row : UncutRow (Pieces (get_or normal_lengths a 0) size.width pieces size.count) normal_widths columns (a * columns) tc t1) where
        same_before : (i : ℕ) → i < a * columns → get_or t1 i 0 ≡ get_or t0 i 0
        same_before i h = row.rest.before i h ∙ copied.rest.before i h

        cells : UncutCells size.width pieces size.count normal_lengths normal_widths columns a t1
        cells = record {
          above = λ b h. omega (arith, same_before ((a - 1) * columns + b) (omega (arith, cell_before (a - 1) a columns (omega arith))), above_is b h, row.grown b h);
          before = row.before;
          taken = row.taken;
        }

        pub uncut_more : Block (a + 1) old t1
        uncut_more = record {
          row = below_more (λ i. 1 ≤ i → UncutCells size.width pieces size.count normal_lengths normal_widths columns i t1) a
              (λ i h l. cells_same (block.row i h l) (λ j m. same_before j (omega (arith, cell_before i a columns h))) l) (λ l. cells);
          low = λ F f g o. below_more (λ i. (b : ℕ) → b < columns → get_or t1 (i * columns + b) 0 ≤ F (get_or normal_lengths i 0) (get_or normal_widths b 0)) a
              (λ i h b m. omega (arith, same_before (i * columns + b) (omega (arith, cell_before i a columns h)), block.low F f g (λ i x v l. o i x v (omega arith)) i h b m))
              (row.low (F (get_or normal_lengths a 0)) (f (get_or normal_lengths a 0)) (λ b m. omega (
                arith,
                above_is b m,
                block.low F f g (λ i x v l. o i x v (omega arith)) (a - 1) (omega arith) b m,
                g (get_or normal_widths b 0) (get_or normal_lengths (a - 1) 0) (get_or normal_lengths a 0) (omega (arith, lent.lengths.rise (a - 1) a (omega arith) ha)),
              )) (λ x v. o a x v (omega arith)));
          rest = record { before = λ i h. absurd (omega arith); after = λ i h. row.rest.after i (omega arith) ∙ copied.rest.after i (omega arith) ∙ block.rest.after i (omega arith) };
        }

-- a block whose row of length 0 was cleared
module _ {size : TableSize} {pieces normal_lengths normal_widths old mid : List ℕ} (lent : UncutLent size pieces normal_lengths normal_widths old) (cleared : Run (λ j. 0) 0 size.columns old mid) where
  -- no other row yet
  pub uncut_none : UncutBlock size.width pieces size.count normal_lengths normal_widths 1 size.columns mid mid
  uncut_none = record {
    row = λ a h l. absurd (omega arith);
    low = λ F f g o a h b m. (let e : a * size.columns + b ≡ 0 + b = (let z : a ≡ 0 = omega arith in rw z (omega arith)) in omega (arith, ap (λ i. get_or mid i 0) e, cleared.here b m));
    rest = outside_none 0 (1 * size.columns) mid;
  }

  -- all rows
  pub uncut_all : {new : List ℕ} → UncutBlock size.width pieces size.count normal_lengths normal_widths size.rows size.columns mid new → UncutBlock size.width pieces size.count normal_lengths normal_widths size.rows size.columns old new
  uncut_all block = record {
    row = block.row;
    low = block.low;
    rest = record { before = λ i h. absurd (omega arith); after = λ i h. block.rest.after i h ∙ cleared.rest.after i (omega (arith, first_row lent)) };
  }

-- its words are the figures without a stage, whichever direction is asked for
module _ (size : TableSize) {pieces normal_lengths length_floors normal_widths width_floors old new : List ℕ} (fit : InTableRange (size_job size pieces))
    (lengths : Positions (size_job size pieces) Length size.rows normal_lengths length_floors) (widths : Positions (size_job size pieces) Width size.columns normal_widths width_floors)
    (block : UncutBlock size.width pieces size.count normal_lengths normal_widths size.rows size.columns old new) (d : Direction) where
  abbrev J : Job
  J = size_job size pieces

  abbrev weight : ℕ → ℕ
  weight = listed_weight pieces

  -- the figure of entry i of the lengths and entry b of the widths
  abbrev cell : ℕ → ℕ → ℕ
  cell i b = block_at J leb weight 0 d (get_or normal_lengths i 0) (get_or normal_widths b 0) 0

  abbrev word : ℕ → ℕ → ℕ
  word i b = get_or new (i * size.columns + b) 0

  length_entries : Entries normal_lengths size.rows size.length
  length_entries = positions_entries J fit Length size.rows normal_lengths length_floors lengths

  width_entries : Entries normal_widths size.columns size.width
  width_entries = positions_entries J fit Width size.columns normal_widths width_floors widths

  word_low : (a : ℕ) → a < size.rows → (b : ℕ) → b < size.columns → word a b ≤ cell a b
  word_low = block.low (λ l w. block_at J leb weight 0 d l w 0) (λ l x y h. block_larger J leb weight plain_order fit 0 d l x l y 0 (omega arith) h) (λ w x y h. block_larger J leb weight plain_order fit 0 d x w y w 0 h (omega arith))
      (λ a x v h s. omega (
        arith,
        s.alone.value,
        block_single J leb weight plain_order fit d (upright s.index) (get_or normal_lengths a 0) x 0 (table_lies J fit s.index s.inside) (omega (arith, s.alone.long)) (omega (arith, s.alone.place)) (le→leb (weight s.index) 0 (omega (arith, s.alone.light))),
      ))

  -- one cell, from those before it
  cell_is : (a b : ℕ) → a < size.rows → b < size.columns → ((i : ℕ) → i < a → (j : ℕ) → j < size.columns → word i j ≡ cell i j) → ((j : ℕ) → j < b → word a j ≡ cell a j) → Dec (a ≡ 0) → Dec (b ≡ 0) → word a b ≡ cell a b
  cell_is a b ha hb rows cells (yes e) z =
      let f : get_or normal_lengths a 0 ≡ 0 = ap (λ a. get_or normal_lengths a 0) e ∙ length_entries.first in
      omega (arith, word_low a ha b hb, ap (λ l. block_at J leb weight 0 d l (get_or normal_widths b 0) 0) f, block_ceiling J leb weight plain_order fit 0 d 0 (get_or normal_widths b 0) 0)
  cell_is a b ha hb rows cells (no n) (yes e) =
      let f : get_or normal_widths b 0 ≡ 0 = ap (λ b. get_or normal_widths b 0) e ∙ width_entries.first in
      omega (arith, word_low a ha b hb, ap (λ w. block_at J leb weight 0 d (get_or normal_lengths a 0) w 0) f, block_ceiling J leb weight plain_order fit 0 d (get_or normal_lengths a 0) 0 0)
  cell_is a b ha hb rows cells (no n) (no m) =
      let row = block.row a ha (omega arith) in
      omega (
        arith,
        word_low a ha b hb,
        block_uncut J leb weight plain_order fit d (get_or normal_lengths a 0) (get_or normal_widths b 0) 0,
        singles J leb weight plain_order fit size.rows size.columns normal_lengths length_floors normal_widths width_floors lengths widths (block_at J leb weight 0 d) (block_single J leb weight plain_order fit d) a b 0 (word a b) ha hb
            (omega (arith, rows (a - 1) (omega arith) b hb, row.above b hb)) (omega (arith, cells (b - 1) (omega arith), row.before b (omega arith) hb))
            (λ i h e f m. row.taken b (J.price i) hb
            (record { index = i; inside = h; alone = record { long = e; fits = omega (arith, width_entries.within b hb); light = omega (arith, leb→le (weight i) 0 m); place = sym f; value = refl } })),
      )

  pub uncut_hold : Rows (λ l w. block_at J leb weight 0 d l w 0) normal_lengths normal_widths 0 size.columns size.rows new
  uncut_hold a b ha hb =
      let e : a * size.columns + b ≡ 0 + a * size.columns + b = omega arith in
      rw e at (each (λ i. (j : ℕ) → j < size.columns → word i j ≡ cell i j)
      (λ i h rows. each (λ j. word i j ≡ cell i j) (λ j l cells. cell_is i j h l rows cells (ℕ_discrete i 0) (ℕ_discrete j 0))) a ha b hb)
