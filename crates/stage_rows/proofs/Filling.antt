-- Block after block: the blocks passed hold their figures, and all of them are the staged table.
use Rattle.stage_rows.proofs.Prelude.{◌≡◌, refl, sym, ◌∙◌, ap, ap₂, subst, List, ℕ, suc, ◌+◌, ◌-◌, ◌*◌, ◌≤◌, ◌<◌, mul-le-mul, mul-le-mul_right, ℕ_discrete, arith, leb, length, get_or, drop, Direction, Length, Width, Job, block, InTableRange, listed_weight, TableSize, block_number, staged_words, staged_word, StagedFigures, size_job, Fillable, StagedFillable, StagedBy, block_at, cell_before, words_past, entry_is, positions_axis, plain_order, block_ceiling, block_low, block_one, block_number_below, block_number_apart, Entries, Rows, positions_entries, UncutLent, UncutBlock, LengthsLent, LengthBlock, WidthsLent, WidthBlock}
use Rattle.row_fill.proofs.Filling as rows
use Rattle.stage_rows.proofs.Uncut.{uncut_hold}
use Rattle.stage_rows.proofs.Lengths.{lengths_hold}
use Rattle.stage_rows.proofs.Widths.{widths_hold}

-- the blocks numbered below n hold their figures
abbrev pub Held : TableSize → List ℕ → List ℕ → List ℕ → ℕ → List ℕ → Type 0
Held size pieces normal_lengths normal_widths n xs = (k : ℕ) (d : Direction) → block_number k d < n
    → Rows (λ l w. block_at (size_job size pieces) leb (listed_weight pieces) k d l w 0) normal_lengths normal_widths (block_number k d * (size.rows * size.columns)) size.columns size.rows xs

-- the fill after so many stages: their blocks hold their figures, and the words past them are as they were
pub record Staging (size : TableSize) (limit : ℕ) (pieces normal_lengths normal_widths : List ℕ) (below : ℕ) (old new : List ℕ) : Type 0 where
  pub to : below ≤ limit
  pub same : length new ≡ length old
  pub held : Held size pieces normal_lengths normal_widths (2 * below + 1) new
  pub kept : (i : ℕ) → (2 * below + 1) * (size.rows * size.columns) ≤ i → get_or new i 0 ≡ get_or old i 0

module _ {size : TableSize} {limit : ℕ} {pieces normal_lengths normal_widths floors lent : List ℕ} (asked : StagedFillable size limit pieces normal_lengths normal_widths floors lent × (size.capacity ≡ 0)) where
  abbrev J : Job
  J = size_job size pieces

  abbrev weight : ℕ → ℕ
  weight = listed_weight pieces

  abbrev columns : ℕ
  columns = size.columns

  abbrev cells : ℕ
  cells = size.rows * size.columns

  given : Fillable size pieces normal_lengths normal_widths floors lent
  given = asked.0.fillable

  fit : InTableRange J
  fit = given.in_range

  length_entries : Entries normal_lengths size.rows size.length
  length_entries = positions_entries J fit Length size.rows normal_lengths floors given.lengths

  width_entries : Entries normal_widths columns size.width
  width_entries = positions_entries J fit Width columns normal_widths (drop 1021 floors) given.widths

  -- the blocks are few cells, and the table has room for all
  pub cells_few : cells ≤ 1042441
  cells_few = omega (arith, mul-le-mul (rows.few_rows (given, asked.1)) (rows.few_columns (given, asked.1)))

  pub all_few : (2 * limit + 1) * cells ≤ 17721497
  all_few = omega (arith, cells_few, mul-le-mul_right {m = 2 * limit + 1} {n = 17} cells (omega (arith, asked.0.within)))

  words_are : staged_words J 0 limit ≡ (2 * limit + 1) * cells
  words_are = ap (λ n. (2 * limit + 1) * n) (rows.words_are (given, asked.1))

  pub all_room : (2 * limit + 1) * cells ≤ length lent
  all_room = omega (arith, words_are, rw asked.1 at asked.0.all)

  -- so has it for the blocks numbered below n
  pub some_room : (n : ℕ) → n ≤ 2 * limit + 1 → n * cells ≤ (2 * limit + 1) * cells
  some_room n h = mul-le-mul_right {m = n} {n = 2 * limit + 1} cells h

  pub uncut_lent : UncutLent size pieces normal_lengths normal_widths lent
  uncut_lent = record {
    lengths = length_entries;
    widths = width_entries;
    width_low = fit.plate_width.1;
    counted = fit.kinds;
    wide = λ i h. (fit.widths i h).0;
    priced = fit.prices;
    room = omega (arith, all_room, some_room 1 (omega arith));
  }

  -- one block more
  held_more : {n at : ℕ} (old new : List ℕ) (k : ℕ) (d : Direction) → block_number k d ≡ n → at ≡ n * cells → Held size pieces normal_lengths normal_widths n old
      → Rows (λ l w. block_at J leb weight k d l w 0) normal_lengths normal_widths at columns size.rows new → ((i : ℕ) → i < at → get_or new i 0 ≡ get_or old i 0) → Held size pieces normal_lengths normal_widths (n + 1) new
  held_more {n} {at} old new k d e f held made same m c h = go (ℕ_discrete (block_number m c) n)
    where
      go : Dec (block_number m c ≡ n) → Rows (λ l w. block_at J leb weight m c l w 0) normal_lengths normal_widths (block_number m c * cells) columns size.rows new
      go (yes z) =
          let place : at ≡ block_number m c * cells = f ∙ ap (λ n. n * cells) (sym z) in
          rw place at (subst (λ (F : ℕ → ℕ → ℕ → ℕ). Rows (λ l w. F l w 0) normal_lengths normal_widths at columns size.rows new) (block_number_apart J leb weight plain_order fit k m d c (e ∙ sym z)) made)
      go (no z) = λ i b u v. same (block_number m c * cells + i * columns + b) (omega (arith, cell_before (block_number m c) n cells (omega arith), cell_before i size.rows columns u)) ∙ held m c (omega arith) i b u v

  -- the block without a cut
  pub staging_none : {new : List ℕ} → UncutBlock size.width pieces size.count normal_lengths normal_widths size.rows columns lent new → Staging size limit pieces normal_lengths normal_widths 0 new new
  staging_none {new} made = record {
    to = omega arith;
    same = refl;
    held = held_more new new 0 Width refl (omega arith) (λ k d h. absurd (omega arith)) (uncut_hold size fit given.lengths given.widths made Width) (λ i h. refl);
    kept = λ i h. refl;
  }

  -- the blocks of one stage more
  module _ {below : ℕ} {old t0 : List ℕ} (fill : Staging size limit pieces normal_lengths normal_widths below old t0) (same : length t0 ≡ length lent) (hb : below < limit) where
    abbrev at : ℕ
    at = (2 * below + 1) * cells

    pub stage_end : at + cells + cells ≤ (2 * limit + 1) * cells
    stage_end = omega (arith, some_room (2 * below + 3) (omega arith))

    -- a figure is at most 1,020,000,000 for each unit of its length
    length_low : (k : ℕ) (d : Direction) (a b : ℕ) → b < columns → block_at J leb weight k d (get_or normal_lengths a 0) (get_or normal_widths b 0) 0 ≤ get_or normal_lengths a 0 * 1020000000
    length_low k d a b h = omega (
      arith,
      block_ceiling J leb weight plain_order fit k d (get_or normal_lengths a 0) (get_or normal_widths b 0) 0,
      mul-le-mul_right {m = get_or normal_widths b 0} {n = 1020} (get_or normal_lengths a 0) ((positions_axis J Width columns normal_widths (drop 1021 floors) fit given.widths).side b h).0,
    )

    length_source : at - cells ≡ block_number below Width * cells
    length_source = omega arith

    length_prior : Rows (λ l w. block_at J leb weight below Width l w 0) normal_lengths normal_widths (at - cells) columns size.rows t0
    length_prior = rw length_source (fill.held below Width (omega arith))

    pub lengths_lent : LengthsLent normal_lengths floors size.rows columns (at - cells) at t0
    lengths_lent = record {
      axis = positions_axis J Length size.rows normal_lengths floors fit given.lengths;
      first = length_entries.first;
      some = length_entries.some;
      apart = omega arith;
      room = omega (arith, stage_end, all_room);
      source_low = λ a b ha h. omega (arith, length_prior a b ha h, length_low below Width a b h);
    }

    module _ {t1 : List ℕ} (made : LengthBlock normal_lengths floors size.rows columns (at - cells) at t0 t1) where
      held_length : Held size pieces normal_lengths normal_widths (2 * below + 1 + 1) t1
      held_length = held_more t0 t1 (suc below) Length (omega arith) refl fill.held (lengths_hold J weight fit below size.rows columns normal_lengths floors normal_widths (drop 1021 floors) given.lengths given.widths length_prior made) made.rest.before

      module _ {n : ℕ} (number : n ≡ block_number below Length) where
        width_prior : Rows (λ l w. block_at J leb weight below Length l w 0) normal_lengths normal_widths (n * cells) columns size.rows t1
        width_prior = rw number (held_length below Length (omega (arith, block_number_below below below Length (omega arith))))

        pub source_before : n * cells + cells ≤ at + cells
        source_before = rw number (omega (arith, cell_before (block_number below Length) (2 * below + 1 + 1) cells (omega (arith, block_number_below below below Length (omega arith)))))

        pub widths_lent : length t1 ≡ length t0 → WidthsLent normal_widths size.rows columns size.width (n * cells) (at + cells) t1
        widths_lent kept = record {
          entries = width_entries;
          side_low = fit.plate_width.1;
          apart = source_before;
          room = omega (arith, stage_end, all_room);
          source_low = λ a b ha h. omega (
            arith,
            width_prior a b ha h,
            block_low J leb weight plain_order fit below Length (get_or normal_lengths a 0) (get_or normal_widths b 0) 0 ((positions_axis J Length size.rows normal_lengths floors fit given.lengths).side a ha).0,
          );
        }

        pub staging_more : {t2 : List ℕ} → WidthBlock normal_widths size.rows columns (n * cells) (at + cells) t1 t2 → length t2 ≡ length t0 → Staging size limit pieces normal_lengths normal_widths (below + 1) old t2
        staging_more {t2} wide kept = record {
          to = omega arith;
          same = kept ∙ fill.same;
          held = rw count at (held_more t1 t2 (suc below) Width (omega arith) (omega arith) held_length
              (widths_hold J weight fit below size.rows columns normal_lengths floors normal_widths (drop 1021 floors) given.lengths given.widths width_prior wide) wide.rest.before);
          kept = λ i h. wide.rest.after i (omega arith) ∙ made.rest.after i (omega arith) ∙ fill.kept i (omega arith);
        }
          where
            count : 2 * below + 1 + 1 + 1 ≡ 2 * (below + 1) + 1
            count = omega arith

  -- all stages
  pub staged_filled : {mid new : List ℕ} {below : ℕ} → Staging size limit pieces normal_lengths normal_widths below mid new → limit ≤ below → UncutBlock size.width pieces size.count normal_lengths normal_widths size.rows columns lent mid
      → length mid ≡ length lent → StagedBy J weight limit size.capacity lent new
  staged_filled {mid} {new} {below} fill end made same = rw asked.1 (
    figures,
    words_past (staged_words J 0 limit) lent new (fill.same ∙ same)
        (λ i h. fill.kept i (omega (arith, words_are, ap (λ n. (2 * n + 1) * cells) all)) ∙ made.rest.after i (omega (arith, words_are, some_room 1 (omega arith)))),
  )
    where
      all : below ≡ limit
      all = omega (arith, fill.to)

      figures : StagedFigures J weight limit 0 new
      figures k d a b c h l m n =
          let i : a < size.rows = omega (arith, given.lengths.counted) in
          let j : b < columns = omega (arith, given.widths.counted) in
          let z : c ≡ 0 = omega arith in
          let place : block_number k d * cells + a * columns + b ≡ staged_word J 0 k d a b 0 = rw (rows.words_are (given, asked.1), ← given.widths.counted) (omega arith) in
          rw z (rw place at (fill.held k d (omega (arith, block_number_below limit k d h)) a b i j)
          ∙ (block_one J weight k d (get_or normal_lengths a 0) (get_or normal_widths b 0) 0
          ∙ ap₂ (λ u v. block J weight k d u v 0) (entry_is J Length size.rows normal_lengths floors fit given.lengths a i) (entry_is J Width columns normal_widths (drop 1021 floors) fit given.widths b j)))
