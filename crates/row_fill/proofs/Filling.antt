-- A row that began as the row before it, took its length cuts, its kinds and its width cuts holds its figures; and the fill row after row.
use Rattle.row_fill.proofs.Prelude.{◌≡◌, refl, sym, ◌∙◌, ap, ap₂, List, ℕ, ◌+◌, ◌-◌, ◌*◌, ◌≤◌, ◌<◌, ℕ_discrete, dec_le, arith, T, leb, leb→le, le→leb, length, get_or, drop, replicate, length-replicate, get_or-replicate, List·getD-eq-default, Length, Width, upright, Job, figure_of, InTableRange, listed_weight, table_lies, positions_some, positions_length, TableSize, words_needed, Figures, Kept, size_job, Fillable, FilledBy, Run, HalfReady, Half, remainder, Axis, figure_at, cell_before, words_past, half_cuts, half_ready, half_next, entry_is, positions_axis, plain_order, figure_one, across, across_joins, no_side, two_parts, more_side, piece_most, state_low, complete, Pieces, Entries, LengthsTaken, WidthsTaken, Rows, ceiling, Capped, LengthsReady, RowReady}
use Rattle.row_fill.proofs.Taken.{half_found, positions_entries, side_taken, cut_low, cut_taken, push_taken, each}

-- the fill before row a: the rows below it hold their figures, every word past the last row is as it was, and no unit is more than two
-- figures together
pub record Filling (J : Job) (weight : ℕ → ℕ) (length_count : ℕ) (normal_lengths : List ℕ) (columns : ℕ) (normal_widths : List ℕ) (a start half_end : ℕ) (unit old table : List ℕ) : Type 0 where
  pub from : 1 ≤ a
  pub to : a ≤ length_count
  pub place : start ≡ a * columns
  pub half_from : 1 ≤ half_end
  pub half_to : half_end ≤ a
  pub halves : (i : ℕ) → 1 ≤ i → i < half_end → a < length_count → 2 * get_or normal_lengths i 0 ≤ get_or normal_lengths a 0
  pub same : length table ≡ length old
  pub units : length unit ≡ 1021
  pub capped : Capped unit
  pub rows : Rows (λ l w. figure_at J leb weight l w 0) normal_lengths normal_widths 0 columns a table
  pub kept : (i : ℕ) → length_count * columns ≤ i → get_or table i 0 ≡ get_or old i 0

module _ {size : TableSize} {pieces normal_lengths normal_widths floors lent : List ℕ} (asked : Fillable size pieces normal_lengths normal_widths floors lent × (size.capacity ≡ 0)) where
  abbrev J : Job
  J = size_job size pieces

  abbrev given : Fillable size pieces normal_lengths normal_widths floors lent
  given = asked.0

  abbrev length_count : ℕ
  length_count = size.rows

  abbrev columns : ℕ
  columns = size.columns

  fit : InTableRange J
  fit = given.in_range

  abbrev weight : ℕ → ℕ
  weight = listed_weight pieces

  -- the floors of the normal widths, which the code does not read
  abbrev width_floors : List ℕ
  width_floors = drop 1021 floors

  length_axis : Axis normal_lengths floors length_count
  length_axis = positions_axis J Length length_count normal_lengths floors fit given.lengths

  width_axis : Axis normal_widths width_floors columns
  width_axis = positions_axis J Width columns normal_widths width_floors fit given.widths

  pub width_entries : Entries normal_widths columns J.plate.1
  width_entries = positions_entries J fit Width columns normal_widths width_floors given.widths

  -- the figure of entry i of the lengths and entry b of the widths, with no share
  abbrev cell : ℕ → ℕ → ℕ
  cell i b = figure_at J leb weight (get_or normal_lengths i 0) (get_or normal_widths b 0) 0

  cell_low : (i b : ℕ) → i < length_count → cell i b ≤ get_or normal_widths b 0 * 1020000000
  cell_low i b h = state_low J leb weight plain_order fit (get_or normal_lengths i 0) (get_or normal_widths b 0) 0 (length_axis.side i h).0

  -- there is a row, and the table has room for all rows
  pub some_rows : 1 ≤ length_count
  some_rows = omega (arith, given.lengths.counted, positions_some J Length)

  pub few_rows : length_count ≤ 1021
  few_rows = omega (arith, given.lengths.counted, positions_length J Length, fit.plate_length.1)

  pub few_columns : columns ≤ 1021
  few_columns = omega (arith, given.widths.counted, positions_length J Width, fit.plate_width.1)

  pub words_are : words_needed J 0 ≡ length_count * columns
  words_are = ap₂ (λ u v. u * v * (0 + 1)) (sym given.lengths.counted) (sym given.widths.counted) ∙ omega arith

  pub first_row : columns ≤ length_count * columns
  first_row = omega (arith, cell_before 0 length_count columns some_rows)

  pub all_room : length_count * columns ≤ length lent
  all_room = omega (arith, words_are, rw asked.1 at given.room)

  -- the row of length 0
  pub fill_none : {old new unit : List ℕ} → Run (λ j. 0) 0 columns old new → length unit ≡ 1021 → Capped unit → Filling J weight length_count normal_lengths columns normal_widths 1 columns 1 unit new new
  fill_none {new = new} cleared units capped = record {
    from = omega arith;
    to = some_rows;
    place = omega arith;
    half_from = omega arith;
    half_to = omega arith;
    halves = λ i l m h. absurd (omega arith);
    same = refl;
    units = units;
    capped = capped;
    rows = λ i b h l. first i b (omega arith) l;
    kept = λ i h. refl;
  }
    where
      first : (i b : ℕ) → i ≡ 0 → b < columns → get_or new (0 + i * columns + b) 0 ≡ cell i b
      first i b z l =
          let e : 0 + b ≡ 0 + i * columns + b = rw z (omega arith) in
          let f : get_or normal_lengths i 0 ≡ 0 = rw z (positions_entries J fit Length length_count normal_lengths floors given.lengths).first in
          rw e at (cleared.here b l) ∙ sym (rw f (no_side J leb weight plain_order fit Length (get_or normal_widths b 0) 0))

  -- all rows are the table
  fill_all : {a start half_end : ℕ} {unit old table : List ℕ} → Filling J weight length_count normal_lengths columns normal_widths a start half_end unit old table → length_count ≤ a → Figures J weight 0 table
  fill_all fill end a b c h l m =
      let i : a < length_count = omega (arith, given.lengths.counted) in
      let j : b < columns = omega (arith, given.widths.counted) in
      let z : c ≡ 0 = omega arith in
      let e : 0 + a * columns + b ≡ (a * columns + b) * (0 + 1) + 0 = omega arith in
      rw (z, ← given.widths.counted) (rw e at (fill.rows a b (omega arith) j) ∙ (figure_one J weight (get_or normal_lengths a 0) (get_or normal_widths b 0) 0
      ∙ ap₂ (λ u v. figure_of J weight u v 0) (entry_is J Length length_count normal_lengths floors fit given.lengths a i) (entry_is J Width columns normal_widths width_floors fit given.widths b j)))

  fill_kept : {a start half_end : ℕ} {unit mid table : List ℕ} → Filling J weight length_count normal_lengths columns normal_widths a start half_end unit mid table → length mid ≡ length lent
      → Run (λ j. 0) 0 columns lent mid → Kept (words_needed J 0) lent table
  fill_kept {mid = mid} {table = table} fill same cleared = words_past (words_needed J 0) lent table (fill.same ∙ same)
      (λ i h. fill.kept i (omega (arith, words_are)) ∙ cleared.rest.after i (omega (arith, words_are, first_row)))

  pub filled : {a start half_end : ℕ} {unit mid table : List ℕ} → Filling J weight length_count normal_lengths columns normal_widths a start half_end unit mid table → length_count ≤ a → length mid ≡ length lent
      → Run (λ j. 0) 0 columns lent mid → FilledBy J weight size.capacity lent table
  filled fill end same cleared = rw asked.1 (fill_all fill end, fill_kept fill same cleared)

  -- row a
  module _ {a start from : ℕ} {unit old t0 : List ℕ} (fill : Filling J weight length_count normal_lengths columns normal_widths a start from unit old t0) (ha : a < length_count) where
    pub row_end : start + columns ≤ length_count * columns
    row_end = omega (arith, fill.place, cell_before a length_count columns ha)

    -- the row before lies before it
    pub row_above : columns ≤ start
    row_above = omega (arith, fill.place, cell_before 0 a columns fill.from)

    -- what the search for the half asks
    pub row_half : HalfReady normal_lengths from a
    row_half = half_ready normal_lengths floors length_count length_axis from a fill.half_from fill.half_to ha fill.halves

    -- the row starts as the row before it
    module _ {half_end : ℕ} {tc : List ℕ} (half : Half normal_lengths a half_end) (copied : Run (λ j. get_or t0 (start - columns + j) 0) start columns t0 tc) where
      rows_copied : Rows (λ l w. figure_at J leb weight l w 0) normal_lengths normal_widths 0 columns a tc
      rows_copied i b h l = copied.rest.before (0 + i * columns + b) (omega (arith, fill.place, cell_before i a columns h)) ∙ fill.rows i b h l

      above_is : (b : ℕ) → b < columns → get_or tc (start + b) 0 ≡ cell (a - 1) b
      above_is b h =
          let back : a ≡ a - 1 + 1 = omega (arith, fill.from) in
          let e : start - columns + b ≡ 0 + (a - 1) * columns + b = omega (arith, fill.place, ap (λ x. x * columns) back) in
          copied.here b h ∙ ap (λ i. get_or t0 i 0) e ∙ fill.rows (a - 1) b (omega (arith, fill.from)) h

      pub lengths_ready : length tc ≡ length lent → LengthsReady normal_lengths floors a half_end 0 start columns tc
      lengths_ready same = record {
        cuts = half_cuts normal_lengths floors length_count length_axis a half_end ha half;
        place = omega (arith, fill.place);
        room = omega (arith, row_end, all_room);
        rows_low = λ i b l m. low i b l m (ℕ_discrete i a);
      }
        where
          low : (i b : ℕ) → i ≤ a → b < columns → Dec (i ≡ a) → get_or tc (0 + i * columns + b) 0 ≤ ceiling
          low i b l m (yes e) =
              let k : 0 + i * columns + b ≡ start + b = rw e (omega (arith, fill.place)) in
              rw k (omega (arith, above_is b m, cell_low (a - 1) b (omega arith), (width_axis.side b m).0))
          low i b l m (no e) = omega (arith, rows_copied i b (omega arith) m, cell_low i b (omega arith), (width_axis.side b m).0)

      module _ {t1 : List ℕ} (lengths : LengthsTaken normal_lengths floors a half_end 0 start columns tc t1) where
        -- no word is above its figure after the length cuts
        row_cut_low : (b : ℕ) → b < columns → get_or t1 (start + b) 0 ≤ cell a b
        row_cut_low b h = cut_low length_axis ha half lengths (λ x. figure_at J leb weight x (get_or normal_widths b 0) 0) (λ x y. two_parts J leb weight plain_order fit Length (get_or normal_widths b 0) x y 0 0 (plain_order.least 0)) b h
            (λ i l. omega (arith, rows_copied i b l h))
            (omega (arith, above_is b h, more_side J leb weight plain_order fit Length (get_or normal_widths b 0) (get_or normal_lengths (a - 1) 0) (get_or normal_lengths a 0) 0 (omega (arith, length_axis.rise (a - 1) a (omega (arith, fill.from)) ha))))

        pub row_ready : length t1 ≡ length lent → RowReady pieces J.count normal_widths columns J.plate.1 start unit t1
        row_ready same = record {
          laid = record { entries = width_entries; side_low = fit.plate_width.1; units = omega (arith, fit.plate_width.1, fill.units); room = omega (arith, row_end, all_room); capped = fill.capped };
          lying = record { counted = fit.kinds; wide = λ i h. (fit.widths i h).0; priced = fit.prices; units = omega (arith, fit.plate_width.1, fill.units) };
          words_low = λ b h. omega (arith, row_cut_low b h, cell_low a b ha);
        }

        module _ {t2 : List ℕ} (taken : WidthsTaken (Pieces (get_or normal_lengths a 0) J.plate.1 pieces J.count) normal_widths columns start t1 t2) where
          row_low : (b : ℕ) → b < columns → get_or t2 (start + b) 0 ≤ cell a b
          row_low = taken.low (λ x. figure_at J leb weight (get_or normal_lengths a 0) x 0) (λ x y. two_parts J leb weight plain_order fit Width (get_or normal_lengths a 0) x y 0 0 (plain_order.least 0)) row_cut_low
              (λ x v s. omega (
                arith,
                s.alone.value,
                piece_most J leb weight plain_order fit (upright s.index) (get_or normal_lengths a 0) x 0 (table_lies J fit s.index s.inside) (omega (arith, s.alone.long)) (omega (arith, s.alone.place)) (le→leb (weight s.index) 0 (omega (arith, s.alone.light))),
              ))

          -- one cell, from those before it
          module _ (b : ℕ) (lb : 1 ≤ b) (hb : b < columns) (done : (i : ℕ) → i < b → get_or t2 (start + i) 0 ≡ cell a i) where
            abbrev g : ℕ
            g = get_or t2 (start + b) 0

            above : cell (a - 1) b ≤ g
            above = omega (arith, above_is b hb, lengths.grown b hb, taken.grown b hb)

            before : cell a (b - 1) ≤ g
            before = omega (arith, done (b - 1) (omega arith), taken.cuts.before b lb hb)

            kind_taken : (i : ℕ) → i < J.count → (J.size i).0 ≡ get_or normal_lengths a 0 → (J.size i).1 ≡ get_or normal_widths b 0 → T (leb (weight i) 0) → J.price i ≤ g
            kind_taken i h e f m = taken.taken b (J.price i) hb
                (record { index = i; inside = h; alone = record { long = e; fits = omega (arith, width_entries.within b hb); light = omega (arith, leb→le (weight i) 0 m); place = sym f; value = refl } })

            length_taken : (i j : ℕ) → 1 ≤ i → i < half_end → j ≡ remainder normal_lengths floors a i → j < a → get_or normal_lengths i 0 + get_or normal_lengths j 0 ≡ get_or normal_lengths a 0 → cell i b + cell j b ≤ g
            length_taken i j l m e h x = omega (
              arith,
              rows_copied i b (omega (arith, half.most)) hb,
              rows_copied j b h hb,
              cut_taken length_axis ha half lengths i j b l m hb e x,
              taken.grown b hb,
            )

            cell_is : g ≡ cell a b
            cell_is =
                let f = half_found normal_widths b lb (omega (arith, width_axis.rise 0 b (omega arith) hb)) in
                let over = get_or normal_widths b 0 in
                let along = get_or normal_lengths a 0 in
                omega (
                  arith,
                  row_low b hb,
                  complete J leb weight plain_order fit length_count columns normal_lengths floors normal_widths width_floors given.lengths given.widths a b 0 g ha hb above before kind_taken half_end f.0 half f.1
                      (side_taken J fit Length length_count normal_lengths floors given.lengths (across J leb weight Length over) (across_joins J leb weight plain_order fit Length over) a half_end g ha half above (λ i j l m e h n x u. length_taken i j l m e h x))
                      (side_taken J fit Width columns normal_widths width_floors given.widths (across J leb weight Width along) (across_joins J leb weight plain_order fit Width along) b f.0 g hb f.1 before
                      (λ i j l m e h n x u. push_taken taken.cuts (λ x. figure_at J leb weight along x 0) b hb done i j l h n x u)),
                )

          row_is : (b : ℕ) → b < columns → get_or t2 (start + b) 0 ≡ cell a b
          row_is = each (λ b. get_or t2 (start + b) 0 ≡ cell a b) (λ b h w. go b h w (ℕ_discrete b 0))
            where
              nothing : cell a 0 ≡ 0
              nothing = let e = width_entries.first in rw e (no_side J leb weight plain_order fit Width (get_or normal_lengths a 0) 0)

              go : (b : ℕ) → b < columns → ((i : ℕ) → i < b → get_or t2 (start + i) 0 ≡ cell a i) → Dec (b ≡ 0) → get_or t2 (start + b) 0 ≡ cell a b
              go b h w (yes e) = omega (arith, row_low b h, ap (λ b. cell a b) e, nothing)
              go b h w (no e) = cell_is b (omega arith) h w

          -- one row more holds its figures
          rows_more : Rows (λ l w. figure_at J leb weight l w 0) normal_lengths normal_widths 0 columns (a + 1) t2
          rows_more i b h l = go (ℕ_discrete i a)
            where
              go : Dec (i ≡ a) → get_or t2 (0 + i * columns + b) 0 ≡ cell i b
              go (yes e) = let k : start + b ≡ 0 + a * columns + b = omega (arith, fill.place) in rw e (rw k at (row_is b l))
              go (no e) =
                  let k : 0 + i * columns + b < start = omega (arith, fill.place, cell_before i a columns (omega arith)) in
                  taken.rest.before (0 + i * columns + b) k ∙ lengths.rest.before (0 + i * columns + b) k ∙ rows_copied i b (omega arith) l

          pub fill_more : {next : List ℕ} → length t2 ≡ length t0 → length next ≡ length unit → Capped next
              → Filling J weight length_count normal_lengths columns normal_widths (a + 1) (start + columns) half_end next old t2
          fill_more same units capped = record {
            from = omega arith;
            to = omega arith;
            place = omega (arith, fill.place);
            half_from = half.least;
            half_to = omega (arith, half.most);
            halves = half_next normal_lengths floors length_count length_axis a half_end half;
            same = same ∙ fill.same;
            units = units ∙ fill.units;
            capped = capped;
            rows = rows_more;
            kept = λ i h. taken.rest.after i (omega (arith, row_end)) ∙ lengths.rest.after i (omega (arith, row_end)) ∙ copied.rest.after i (omega (arith, row_end)) ∙ fill.kept i h;
          }

-- units that were never written hold 0
pub zeros_capped : (n : ℕ) → Capped (replicate n 0)
zeros_capped n i = go (dec_le n i)
  where
    go : Dec (n ≤ i) → get_or {A = ℕ} (replicate n 0) i 0 ≤ 2 * ceiling
    go (yes h) =
        let e : ◌≡◌ {A = ℕ} (get_or {A = ℕ} (replicate n 0) i 0) 0 = List·getD-eq-default (replicate n 0) 0 (omega (arith, length-replicate {A = ℕ} n 0)) in
        omega arith
    go (no h) = omega (arith, get_or-replicate {A = ℕ} n i 0 0 (omega arith))
