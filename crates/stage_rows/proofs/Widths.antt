-- A width-first block: a row from its source's, row after row, and its figures.
use Rattle.stage_rows.proofs.Prelude.{◌≡◌, refl, sym, ◌∙◌, ap, List, ℕ, suc, ◌+◌, ◌-◌, ◌*◌, ◌≤◌, ◌<◌, ℕ_discrete, arith, below_more, leb, get_or, set, get_or-set_other, Length, Width, Job, InTableRange, Positions, Outside, block_at, cell_before, outside_none, entry_side, plain_order, sided, sided_joins, block_prior, block_ceiling, block_complete, Entries, Spread, Widened, Rows, Laid, half_found, positions_entries, side_taken, push_taken, each, WidenReady, WidenedRow, WidthsLent, WidthBlock}

-- a row whose source's words stand at their units
module _ {normal_widths unit laid table : List ℕ} {columns side source start : ℕ} (ready : WidenReady normal_widths columns side source start unit table) (spread : Spread normal_widths source columns table unit laid) where
  row : Laid normal_widths columns side start unit table
  row = ready.laid

  -- its first word is written
  abbrev begun : List ℕ
  begun = set table start (get_or laid 0 0)

  -- a row that has taken its width cuts
  pub widened_row : {new : List ℕ} → Widened normal_widths columns start laid begun new → WidenedRow normal_widths columns source start table new × Outside start (start + columns) table new
  widened_row w = (
    record { grown = λ b h. omega (arith, spread.here b h, w.grown b h); cuts = w.cuts; low = λ f joins base. w.low f joins (λ b h. omega (arith, spread.here b h, base b h)) },
    record {
      before = λ i h. w.rest.before i h ∙ get_or-set_other table start i (get_or laid 0 0) 0 (λ z. omega arith);
      after = λ i h. w.rest.after i h ∙ get_or-set_other table start i (get_or laid 0 0) 0 (λ z. omega (arith, row.entries.some));
    },
  )

-- a row keeps what it has become while its words and its source's are as they were
widened_same : {normal_widths : List ℕ} {columns source start : ℕ} {old new old' new' : List ℕ} → WidenedRow normal_widths columns source start old new → ((b : ℕ) → b < columns → get_or old' (source + b) 0 ≡ get_or old (source + b) 0)
    → ((b : ℕ) → b < columns → get_or new' (start + b) 0 ≡ get_or new (start + b) 0) → WidenedRow normal_widths columns source start old' new'
widened_same w f g = record {
  grown = λ b h. omega (arith, f b h, g b h, w.grown b h);
  cuts = record {
    before = λ b l h. omega (arith, g b h, g (b - 1) (omega arith), w.cuts.before b l h);
    sums = λ i j b p q h m e up. omega (arith, g i h, g j (omega arith), g b m, w.cuts.sums i j b p q h m e (omega (arith, g i h, g (i - 1) (omega arith))));
  };
  low = λ h joins base b l. omega (arith, g b l, w.low h joins (λ b l. omega (arith, f b l, base b l)) b l);
}

-- no row yet, and one more
pub widths_none : {normal_widths : List ℕ} {columns source at : ℕ} {xs : List ℕ} → WidthBlock normal_widths 0 columns source at xs xs
widths_none {columns = columns} {at = at} {xs = xs} = record { row = λ a h. absurd (omega arith); rest = outside_none at (at + 0 * columns) xs }

module _ {normal_widths : List ℕ} {rows columns side source at a : ℕ} {old mid : List ℕ} (lent : WidthsLent normal_widths rows columns side source at old) (block : WidthBlock normal_widths a columns source at old mid) (ha : a < rows) where
  -- row a lies within the block
  pub width_row : a * columns + columns ≤ rows * columns
  width_row = cell_before a rows columns ha

  source_same : (b : ℕ) → b < columns → get_or mid (source + a * columns + b) 0 ≡ get_or old (source + a * columns + b) 0
  source_same b h = block.rest.before (source + a * columns + b) (omega (arith, lent.apart, width_row))

  pub widths_more : {new : List ℕ} → WidenedRow normal_widths columns (source + a * columns) (at + a * columns) mid new → Outside (at + a * columns) (at + a * columns + columns) mid new
      → WidthBlock normal_widths (a + 1) columns source at old new
  widths_more {new} made kept = record {
    row = below_more (λ i. WidenedRow normal_widths columns (source + i * columns) (at + i * columns) old new) a
        (λ i h. widened_same (block.row i h) (λ b l. refl) (λ b l. kept.before (at + i * columns + b) (omega (arith, cell_before i a columns h))))
        (widened_same made (λ b l. sym (source_same b l)) (λ b l. refl));
    rest = record {
      before = λ i h. kept.before i (omega arith) ∙ block.rest.before i h;
      after = λ i h. kept.after i (omega arith) ∙ block.rest.after i (omega arith);
    };
  }

-- where the source holds the figures of one stage fewer, length first, the block holds its own
module _ (J : Job) (weight : ℕ → ℕ) (fit : InTableRange J) (k rows columns : ℕ) (normal_lengths length_floors normal_widths width_floors : List ℕ)
    (lengths : Positions J Length rows normal_lengths length_floors) (widths : Positions J Width columns normal_widths width_floors)
    {source at : ℕ} {old new : List ℕ} (prior : Rows (λ l w. block_at J leb weight k Length l w 0) normal_lengths normal_widths source columns rows old)
    (block : WidthBlock normal_widths rows columns source at old new) where
  entries : Entries normal_widths columns J.plate.1
  entries = positions_entries J fit Width columns normal_widths width_floors widths

  -- row a
  module _ (a : ℕ) (ha : a < rows) where
    abbrev l : ℕ
    l = get_or normal_lengths a 0

    abbrev start : ℕ
    start = at + a * columns

    -- the figures along the row
    abbrev f : ℕ → ℕ
    f x = block_at J leb weight (suc k) Width l x 0

    row_low : (b : ℕ) → b < columns → get_or new (start + b) 0 ≤ f (get_or normal_widths b 0)
    row_low = (block.row a ha).low f (λ x y. (sided_joins J leb weight plain_order fit k Width l).parts x y 0 0 (plain_order.least 0))
        (λ b h. omega (arith, prior a b ha h, block_prior J leb weight plain_order fit k Width l (get_or normal_widths b 0) 0))

    -- one cell, from those before it
    cell_is : (b : ℕ) → b < columns → ((i : ℕ) → i < b → get_or new (start + i) 0 ≡ f (get_or normal_widths i 0)) → Dec (b ≡ 0) → get_or new (start + b) 0 ≡ f (get_or normal_widths b 0)
    cell_is b hb done (yes e) =
        let z : get_or normal_widths b 0 ≡ 0 = ap (λ b. get_or normal_widths b 0) e ∙ entries.first in
        omega (arith, row_low b hb, ap f z, block_ceiling J leb weight plain_order fit (suc k) Width l 0 0)
    cell_is b hb done (no e) =
        let g = get_or new (start + b) 0 in
        let half = half_found normal_widths b (omega arith) (omega (arith, entries.rise 0 b (omega arith) hb)) in
        let cuts = (block.row a ha).cuts in
        omega (
          arith,
          row_low b hb,
          block_complete J leb weight plain_order fit k Width columns normal_widths width_floors widths l b half.0 0 g hb (entry_side J Length rows normal_lengths length_floors fit lengths a ha) half.1
              (omega (arith, prior a b ha hb, (block.row a ha).grown b hb))
              (side_taken J fit Width columns normal_widths width_floors widths (sided J leb weight Width (suc k) Width l) (sided_joins J leb weight plain_order fit k Width l) b half.0 g hb half.1
              (omega (arith, done (b - 1) (omega arith), cuts.before b (omega arith) hb)) (λ i j p m x h n y u. push_taken cuts f b hb done i j p h n y u)),
        )

  pub widths_hold : Rows (λ l w. block_at J leb weight (suc k) Width l w 0) normal_lengths normal_widths at columns rows new
  widths_hold a b ha hb = each (λ b. get_or new (start a ha + b) 0 ≡ f a ha (get_or normal_widths b 0)) (λ b h done. cell_is a ha b h done (ℕ_discrete b 0)) b hb
