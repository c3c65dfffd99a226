-- The width cuts of a row, cell after cell: the cells passed are final, and the units past them have what the cells passed pushed. Then the
-- row's steps together: its words at their units, its kinds, its width cuts.
use Rattle.row_fill.proofs.Prelude.{◌≡◌, refl, sym, ◌∙◌, ap, List, inl, inr, ⊎_elim, ℕ, ◌+◌, ◌-◌, ◌*◌, ◌≤◌, ◌<◌, min, ℕ_discrete, dec_le, arith, length, get_or, set, get_or-set_same, get_or-set_other, Outside, Run, Raised, Pieces, Pushed, CellPush, Entries, Spread, Joins, Widened, WidthsTaken, ceiling, Capped, Laid, WidthsReady, RowReady}
use Rattle.row_fill.proofs.Raising.{raised_same}

-- the cells below b have taken their width cuts, and pushed them
pub record Widening (normal_widths : List ℕ) (columns start b : ℕ) (units unit old new : List ℕ) : Type 0 where
  pub done : (i : ℕ) → i < b → get_or unit (get_or normal_widths i 0) 0 ≡ get_or new (start + i) 0
  pub grown : (i : ℕ) → i < columns → get_or units (get_or normal_widths i 0) 0 ≤ get_or unit (get_or normal_widths i 0) 0
  pub before : (i : ℕ) → 1 ≤ i → i < b → get_or new (start + (i - 1)) 0 ≤ get_or new (start + i) 0
  pub sums : (i j c : ℕ) → 1 ≤ j → j ≤ i → i < b → c < columns → get_or normal_widths i 0 + get_or normal_widths j 0 ≡ get_or normal_widths c 0
      → get_or new (start + (i - 1)) 0 < get_or new (start + i) 0 → get_or new (start + i) 0 + get_or new (start + j) 0 ≤ get_or unit (get_or normal_widths c 0) 0
  pub low : (f : ℕ → ℕ) → Joins f → ((i : ℕ) → i < columns → get_or units (get_or normal_widths i 0) 0 ≤ f (get_or normal_widths i 0))
      → ((y : ℕ) → y ≤ get_or normal_widths (b - 1) 0 → get_or unit y 0 ≤ f y) × ((i : ℕ) → i < columns → get_or unit (get_or normal_widths i 0) 0 ≤ f (get_or normal_widths i 0))
  pub rest : Outside start (start + b) old new

-- a wider width is worth no less
pub joins_more : (f : ℕ → ℕ) → Joins f → (x y : ℕ) → x ≤ y → f x ≤ f y
joins_more f j x y h = let e : x + (y - x) ≡ y = omega arith in omega (arith, rw e at (j x (y - x)))

module _ {normal_widths : List ℕ} {columns side : ℕ} (entries : Entries normal_widths columns side) where
  rising : (i j : ℕ) → i ≤ j → j < columns → get_or normal_widths i 0 ≤ get_or normal_widths j 0
  rising i j h l = go (ℕ_discrete i j)
    where
      go : Dec (i ≡ j) → get_or normal_widths i 0 ≤ get_or normal_widths j 0
      go (yes e) = rw e (omega arith)
      go (no e) = omega (arith, entries.rise i j (omega arith) l)

  module _ {start : ℕ} {units old : List ℕ} where
    module _ {b v : ℕ} {unit flat table : List ℕ} (lb : 1 ≤ b) (hb : b < columns) (word : v ≡ get_or table (start + (b - 1)) 0) (w : Widening normal_widths columns start b units unit old table)
        (level : Run (λ j. v) (get_or normal_widths (b - 1) 0 + 1) (get_or normal_widths b 0 - (get_or normal_widths (b - 1) 0 + 1)) unit flat) where
      abbrev x : ℕ
      x = get_or normal_widths b 0

      after_last : get_or normal_widths (b - 1) 0 < x
      after_last = entries.rise (b - 1) b (omega arith) hb

      -- the units between the last entry and this one have what the cell before has, and the others are as they were
      flat_earlier : (y : ℕ) → y ≤ get_or normal_widths (b - 1) 0 → get_or flat y 0 ≡ get_or unit y 0
      flat_earlier y h = level.rest.before y (omega arith)

      flat_between : (y : ℕ) → get_or normal_widths (b - 1) 0 < y → y < x → get_or flat y 0 ≡ v
      flat_between y h l = let e : get_or normal_widths (b - 1) 0 + 1 + (y - (get_or normal_widths (b - 1) 0 + 1)) ≡ y = omega arith in rw e at (level.here (y - (get_or normal_widths (b - 1) 0 + 1)) (omega arith))

      flat_entry : (i : ℕ) → i < columns → get_or flat (get_or normal_widths i 0) 0 ≡ get_or unit (get_or normal_widths i 0) 0
      flat_entry i h = go (dec_le b i)
        where
          go : Dec (b ≤ i) → get_or flat (get_or normal_widths i 0) 0 ≡ get_or unit (get_or normal_widths i 0) 0
          go (yes q) = level.rest.after (get_or normal_widths i 0) (omega (arith, rising b i q h, after_last))
          go (no q) = flat_earlier (get_or normal_widths i 0) (rising i (b - 1) (omega arith) (omega arith))

      module _ (f : ℕ → ℕ) (joins : Joins f) (base : (i : ℕ) → i < columns → get_or units (get_or normal_widths i 0) 0 ≤ f (get_or normal_widths i 0)) where
        last_low : v ≤ f (get_or normal_widths (b - 1) 0)
        last_low = omega (arith, word, w.done (b - 1) (omega arith), (w.low f joins base).1 (b - 1) (omega arith))

        pub flat_low : (y : ℕ) → y ≤ x → get_or flat y 0 ≤ f y
        flat_low y h = go (dec_le y (get_or normal_widths (b - 1) 0)) (ℕ_discrete y x)
          where
            go : Dec (y ≤ get_or normal_widths (b - 1) 0) → Dec (y ≡ x) → get_or flat y 0 ≤ f y
            go (yes q) z = omega (arith, flat_earlier y q, (w.low f joins base).0 y q)
            go (no q) (yes z) = rw z (omega (arith, flat_entry b hb, (w.low f joins base).1 b hb))
            go (no q) (no z) = omega (arith, flat_between y (omega arith) (omega arith), last_low, joins_more f joins (get_or normal_widths (b - 1) 0) y (omega arith))

      -- so the units up to this entry can be added
      pub flat_small : side ≤ 1020 → ((i : ℕ) → i < columns → get_or units (get_or normal_widths i 0) 0 ≤ get_or normal_widths i 0 * 1020000000) → (y : ℕ) → y ≤ x → get_or flat y 0 ≤ ceiling
      flat_small h base y l = omega (arith, flat_low (λ y. y * 1020000000) (λ x y. omega arith) base y l, entries.within b hb)

      -- and no unit is above two of them together, before the push and after
      module _ (within : side ≤ 1020) (base : (i : ℕ) → i < columns → get_or units (get_or normal_widths i 0) 0 ≤ get_or normal_widths i 0 * 1020000000) (capped : Capped unit) where
        pub flat_capped : Capped flat
        flat_capped i = go (dec_le i x)
          where
            go : Dec (i ≤ x) → get_or flat i 0 ≤ 2 * ceiling
            go (yes q) = omega (arith, flat_small within base i q)
            go (no q) = omega (arith, level.rest.after i (omega (arith, after_last)), capped i)

        pub next_capped : (next : List ℕ) → Raised (CellPush flat (get_or normal_widths b 0) (get_or normal_widths 1 0) side v) flat next → Capped next
        next_capped next push i = push.low i (2 * ceiling) (λ u s.
            ⊎_elim (λ t. omega (arith, t.1, word, w.done (b - 1) (omega arith), flat_earlier (get_or normal_widths (b - 1) 0) (omega arith), flat_small within base (get_or normal_widths (b - 1) 0) (omega (arith, after_last))))
            (λ t. omega (arith, t.1.value, flat_small within base x (omega arith), flat_small within base t.1.index (omega (arith, t.1.to)))) s) (flat_capped i)

      module _ (next : List ℕ) (room : start + b < length table) (push : Raised (CellPush flat (get_or normal_widths b 0) (get_or normal_widths 1 0) side v) flat next) where
        least : 1 ≤ get_or normal_widths 1 0
        least = omega (arith, entries.rise 0 1 (omega arith) (omega arith))

        -- nothing is pushed to a unit before this one
        next_earlier : (y : ℕ) → y < x → get_or next y 0 ≡ get_or flat y 0
        next_earlier y h = raised_same push y (λ u s. ⊎_elim (λ t. omega (arith, t.0)) (λ t. omega (arith, t.1.place)) s)

        abbrev new : List ℕ
        new = set table (start + b) (get_or next x 0)

        word_kept : (i : ℕ) → i < b → get_or new (start + i) 0 ≡ get_or table (start + i) 0
        word_kept i h = get_or-set_other table (start + b) (start + i) (get_or next x 0) 0 (λ z. omega arith)

        word_here : get_or new (start + b) 0 ≡ get_or next x 0
        word_here = get_or-set_same table (start + b) (get_or next x 0) 0 room

        -- a cell that rises over the one before did so before the push
        risen : v < get_or next x 0 → (v < get_or flat x 0) × (get_or next x 0 ≡ get_or flat x 0)
        risen h = (up (dec_le (get_or flat x 0) v), same (up (dec_le (get_or flat x 0) v)))
          where
            up : Dec (get_or flat x 0 ≤ v) → v < get_or flat x 0
            up (yes q) = absurd (omega (arith, push.low x v (λ u s. ⊎_elim (λ t. omega (arith, t.1)) (λ t. absurd (omega (arith, t.0))) s) q))
            up (no q) = omega arith

            same : v < get_or flat x 0 → get_or next x 0 ≡ get_or flat x 0
            same q = omega (arith, push.grown x, push.low x (get_or flat x 0) (λ u s. ⊎_elim (λ t. omega (arith, t.1)) (λ t. absurd (omega (arith, t.1.place, t.1.from, least))) s) (omega arith))

        done : (i : ℕ) → i < b + 1 → Dec (i ≡ b) → get_or next (get_or normal_widths i 0) 0 ≡ get_or new (start + i) 0
        done i h (yes e) = rw e (sym word_here)
        done i h (no e) =
            let l : i < b = omega arith in
            next_earlier (get_or normal_widths i 0) (entries.rise i b l hb) ∙ flat_entry i (omega arith) ∙ w.done i l ∙ sym (word_kept i l)

        before : (i : ℕ) → 1 ≤ i → i < b + 1 → Dec (i ≡ b) → get_or new (start + (i - 1)) 0 ≤ get_or new (start + i) 0
        before i l h (yes e) = rw e (omega (arith, word_kept (b - 1) (omega arith), word_here, word, push.taken x v (inl (refl, refl))))
        before i l h (no e) = omega (arith, word_kept (i - 1) (omega arith), word_kept i (omega arith), w.before i l (omega arith))

        -- the cuts of which this cell is the larger part
        sums_here : (j c : ℕ) → 1 ≤ j → j ≤ b → c < columns → x + get_or normal_widths j 0 ≡ get_or normal_widths c 0 → get_or new (start + (b - 1)) 0 < get_or new (start + b) 0 → get_or new (start + b) 0 + get_or new (start + j) 0 ≤ get_or next (get_or normal_widths c 0) 0
        sums_here j c p q h e up = omega (arith, word_here, s.1, part (ℕ_discrete j b), push.taken (get_or normal_widths c 0) (get_or flat x 0 + get_or flat (get_or normal_widths j 0) 0) (inr (s.0, pushed)))
          where
            s : (v < get_or flat x 0) × (get_or next x 0 ≡ get_or flat x 0)
            s = risen (omega (arith, up, word_kept (b - 1) (omega arith), word_here, word))

            part : Dec (j ≡ b) → get_or new (start + j) 0 ≡ get_or flat (get_or normal_widths j 0) 0
            part (yes z) = rw z (word_here ∙ s.1)
            part (no z) = let l : j < b = omega arith in word_kept j l ∙ sym (w.done j l) ∙ sym (flat_entry j (omega arith))

            pushed : Pushed flat x (get_or normal_widths 1 0) (min x (side - x) + 1) (get_or flat x 0) (get_or normal_widths c 0) (get_or flat x 0 + get_or flat (get_or normal_widths j 0) 0)
            pushed = record { index = get_or normal_widths j 0; from = rising 1 j p (omega arith); to = omega (arith, rising j b q hb, entries.within c h); place = sym e; value = refl }

        sums : (i j c : ℕ) → 1 ≤ j → j ≤ i → i < b + 1 → c < columns → get_or normal_widths i 0 + get_or normal_widths j 0 ≡ get_or normal_widths c 0 → get_or new (start + (i - 1)) 0 < get_or new (start + i) 0 → Dec (i ≡ b)
            → get_or new (start + i) 0 + get_or new (start + j) 0 ≤ get_or next (get_or normal_widths c 0) 0
        sums i j c p q h m e up (yes z) = rw z (sums_here j c p (omega arith) m (rw z at e) (rw z at up))
        sums i j c p q h m e up (no z) = omega (
          arith,
          word_kept i (omega arith),
          word_kept j (omega arith),
          w.sums i j c p q (omega arith) m e (omega (arith, word_kept i (omega arith), word_kept (i - 1) (omega arith))),
          flat_entry c m,
          push.grown (get_or normal_widths c 0),
        )

        low : (f : ℕ → ℕ) → Joins f → ((i : ℕ) → i < columns → get_or units (get_or normal_widths i 0) 0 ≤ f (get_or normal_widths i 0)) → (i : ℕ) → i < columns → get_or next (get_or normal_widths i 0) 0 ≤ f (get_or normal_widths i 0)
        low f joins base i h = push.low (get_or normal_widths i 0) (f (get_or normal_widths i 0))
            (λ u s. ⊎_elim (λ t. omega (arith, t.1, last_low f joins base, joins_more f joins (get_or normal_widths (b - 1) 0) (get_or normal_widths i 0) (omega (arith, t.0, after_last))))
            (λ t. omega (arith, t.1.value, flat_low f joins base x (omega arith), flat_low f joins base t.1.index (omega (arith, t.1.to)), joins x t.1.index, ap f t.1.place)) s)
            (omega (arith, flat_entry i h, (w.low f joins base).1 i h))

        low_units : (f : ℕ → ℕ) → Joins f → ((i : ℕ) → i < columns → get_or units (get_or normal_widths i 0) 0 ≤ f (get_or normal_widths i 0)) → (y : ℕ) → y ≤ x → get_or next y 0 ≤ f y
        low_units f joins base y h = go (ℕ_discrete y x)
          where
            go : Dec (y ≡ x) → get_or next y 0 ≤ f y
            go (yes z) = rw z (low f joins base b hb)
            go (no z) = omega (arith, next_earlier y (omega arith), flat_low f joins base y h)

        pub widening_step : Widening normal_widths columns start (b + 1) units next old new
        widening_step = record {
          done = λ i h. done i h (ℕ_discrete i b);
          grown = λ i h. omega (arith, push.grown (get_or normal_widths i 0), flat_entry i h, w.grown i h);
          before = λ i l h. before i l h (ℕ_discrete i b);
          sums = λ i j c p q h m e up. sums i j c p q h m e up (ℕ_discrete i b);
          low = λ f joins base. (let e : b + 1 - 1 ≡ b = omega arith in rw e (low_units f joins base), low f joins base);
          rest = record {
            before = λ i h. get_or-set_other table (start + b) i (get_or next x 0) 0 (λ z. omega arith) ∙ w.rest.before i h;
            after = λ i h. get_or-set_other table (start + b) i (get_or next x 0) 0 (λ z. omega arith) ∙ w.rest.after i (omega arith);
          };
        }

    -- the same, where the code read this entry as x, the last as `last` and the second as `least`
    module _ {b v x last : ℕ} {unit flat table : List ℕ} (lb : 1 ≤ b) (hb : b < columns) (e : x ≡ get_or normal_widths b 0) (f : last ≡ get_or normal_widths (b - 1) 0)
        (word : v ≡ get_or table (start + (b - 1)) 0) (w : Widening normal_widths columns start b units unit old table) (level : Run (λ j. v) (last + 1) (x - (last + 1)) unit flat)
        (within : side ≤ 1020) (base : (i : ℕ) → i < columns → get_or units (get_or normal_widths i 0) 0 ≤ get_or normal_widths i 0 * 1020000000) (capped : Capped unit) where
      pub units_small : (y : ℕ) → y ≤ x → get_or flat y 0 ≤ ceiling
      units_small y l = flat_small lb hb word w (rw (e, f) at level) within base y (omega arith)

      pub units_capped : Capped flat
      units_capped = flat_capped lb hb word w (rw (e, f) at level) within base capped

      module _ {least : ℕ} {next : List ℕ} (g : least ≡ get_or normal_widths 1 0) (push : Raised (CellPush flat x least side v) flat next) where
        pub pushed_capped : Capped next
        pushed_capped = next_capped lb hb word w (rw (e, f) at level) within base capped next (rw (e, g) at push)

        pub widening_more : start + b < length table → Widening normal_widths columns start (b + 1) units next old (set table (start + b) (get_or next x 0))
        widening_more room = rw e (widening_step lb hb word w (rw (e, f) at level) next room (rw (e, g) at push))

    -- all cells
    pub widening_all : {unit new : List ℕ} → Widening normal_widths columns start columns units unit old new → Widened normal_widths columns start units old new
    widening_all w = record {
      grown = λ b h. omega (arith, w.grown b h, w.done b h);
      cuts = record { before = w.before; sums = λ i j b p q h m e up. omega (arith, w.sums i j b p q h m e up, w.done b m) };
      low = λ f joins base b h. omega (arith, (w.low f joins base).1 b h, w.done b h);
      rest = w.rest;
    }

-- a row whose words stand at their units, and which took its kinds there
module _ {l count columns width start : ℕ} {pieces normal_widths unit table laid placed : List ℕ}
    (ready : RowReady pieces count normal_widths columns width start unit table) (spread : Spread normal_widths start columns table unit laid)
    (kinds : Raised (Pieces l width pieces count) laid placed) where
  -- it can take its width cuts: no piece lies at width 0, and a price is less than the ceiling of its width
  pub widths_ready : length placed ≡ length unit → WidthsReady normal_widths columns width start placed table
  widths_ready same = record {
    laid = record { entries = row.entries; side_low = row.side_low; units = omega (arith, row.units); room = row.room; capped = capped };
    first = raised_same kinds 0 (λ v s. omega (arith, s.alone.place, ready.lying.wide s.index s.inside)) ∙ rw (row.entries.first, z) at (spread.here 0 row.entries.some);
    units_low = λ b h. kinds.low (get_or normal_widths b 0) (get_or normal_widths b 0 * 1020000000)
        (λ v s. omega (arith, s.alone.value, s.alone.place, ready.lying.priced s.index s.inside, ready.lying.wide s.index s.inside))
        (omega (arith, spread.here b h, ready.words_low b h));
  }
    where
      row : Laid normal_widths columns width start unit table
      row = ready.laid

      z : start + 0 ≡ start
      z = omega arith

      capped : Capped placed
      capped i = kinds.low i (2 * ceiling) (λ v s. omega (arith, s.alone.value, ready.lying.priced s.index s.inside))
          (spread.low i (2 * ceiling) (λ b h. omega (arith, ready.words_low b h, row.entries.within b h, row.side_low)) (row.capped i))

  -- it has taken them
  pub widths_taken : {new : List ℕ} → Widened normal_widths columns start placed table new → WidthsTaken (Pieces l width pieces count) normal_widths columns start table new
  widths_taken widened = record {
    grown = λ b h. omega (arith, spread.here b h, kinds.grown (get_or normal_widths b 0), widened.grown b h);
    taken = λ b v h o. omega (arith, kinds.taken (get_or normal_widths b 0) v o, widened.grown b h);
    cuts = widened.cuts;
    low = λ f joins words offered. widened.low f joins (λ b h. kinds.low (get_or normal_widths b 0) (f (get_or normal_widths b 0)) (offered (get_or normal_widths b 0)) (omega (arith, spread.here b h, words b h)));
    rest = widened.rest;
  }
