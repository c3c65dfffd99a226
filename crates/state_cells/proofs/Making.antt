-- A cell that started from the cells before it and inherited what they list, took the kinds of its size and the cuts of its sides and was
-- finished holds its figures, and its list covers them.
use Rattle.state_cells.proofs.Prelude.{◌≡◌, refl, sym, ◌∙◌, ap, ap₂, ◌⊎◌, inl, inr, Bool, List, ℕ, zero, suc, ◌+◌, ◌-◌, ◌*◌, ◌≤◌, ◌<◌, max, ℕ_discrete, dec_le, arith, T, length, get_or, Direction, Length, Width, most_wide_figure, upright, Job, InTableRange, table_lies, positions_length, position_count, Positions, Outside, Run, Half, remainder, Cuts, cell_before, half_cuts, half_parts, positions_axis, Order, Covers, figure_in, note_in, mark_in, held, note, mark, under, Summed, Rises, Flagged, Low, Grown, Growing, Topped, cell, Marked, Served, Ready, Cuttable, CutAt, Level, Startable, Levelled, Told, Placed, Inherited, Steps, Finished, FlaggedBelow, tabled, MadeTo, Made, SpotTo, figure_small, figure_plain, note_plain, across, across_joins, state_above, state_low, more_side, piece_most, Joins, along, side_covered, complete, outside_same, outside_chain, grown_then, order_of, under_zero, last_state, summed_kept, held_kept, listed_kept}

-- what some states cover, more states cover
pub covers_more : (le : ℕ → ℕ → Bool) (words : ℕ) (some more : ℕ → Type 0) (f g : ℕ → ℕ) → ((t : ℕ) → t < words → some t → more t) → Covers le words some f g → Covers le words more f g
covers_more le words some more f g h c s l = go (c s l)
  where
    go : (f s ≤ g s) ⊎ ((t : ℕ) × (t < words) × T (le t s) × some t × (f s ≤ f t)) → (f s ≤ g s) ⊎ ((t : ℕ) × (t < words) × T (le t s) × more t × (f s ≤ f t))
    go (inl x) = inl x
    go (inr x) = inr (x.0, x.1, x.2, h x.0 x.1 x.3, x.4)

-- what covers f over g covers it by states at which f is above g, where g rises
pub covers_rising : (le : ℕ → ℕ → Bool) (words : ℕ) (some : ℕ → Type 0) (f g : ℕ → ℕ) → Rises le words g → Covers le words some f g → Covers le words (λ t. some t × (g t < f t)) f g
covers_rising le words some f g rises c s l = go (dec_le (f s) (g s)) (c s l)
  where
    go : Dec (f s ≤ g s) → (f s ≤ g s) ⊎ ((t : ℕ) × (t < words) × T (le t s) × some t × (f s ≤ f t)) → (f s ≤ g s) ⊎ ((t : ℕ) × (t < words) × T (le t s) × (some t × (g t < f t)) × (f s ≤ f t))
    go (yes k) x = inl k
    go (no k) (inl x) = inl x
    go (no k) (inr x) = inr (x.0, x.1, x.2, (x.3, omega (arith, rises x.0 s l x.2, x.4)), x.4)

-- the same values
pub covers_same : (le : ℕ → ℕ → Bool) (words : ℕ) (some : ℕ → Type 0) (f h g : ℕ → ℕ) → ((t : ℕ) → t < words → f t ≡ h t) → Covers le words some f g → Covers le words some h g
covers_same le words some f h g e c s l = go (c s l)
  where
    go : (f s ≤ g s) ⊎ ((t : ℕ) × (t < words) × T (le t s) × some t × (f s ≤ f t)) → (h s ≤ g s) ⊎ ((t : ℕ) × (t < words) × T (le t s) × some t × (h s ≤ h t))
    go (inl x) = inl (omega (arith, e s l))
    go (inr x) = inr (x.0, x.1, x.2, x.3, omega (arith, e s l, e x.0 x.1, x.4))

-- the greater of two cells is covered over the second by what the first one lists, and at which it is above the second
pub start_covers : (le : ℕ → ℕ → Bool) (words : ℕ) (some flag : ℕ → Type 0) (f g h top : ℕ → ℕ) → ((s : ℕ) → s < words → top s ≡ max (f s) (g s)) → ((s : ℕ) → h s ≤ g s) → Rises le words g
    → ((t : ℕ) → t < words → some t → g t < f t → flag t) → Covers le words some f h → Covers le words flag top g
start_covers le words some flag f g h top is low rises flags c s l = go (dec_le (f s) (g s)) (c s l)
  where
    go : Dec (f s ≤ g s) → (f s ≤ h s) ⊎ ((t : ℕ) × (t < words) × T (le t s) × some t × (f s ≤ f t)) → (top s ≤ g s) ⊎ ((t : ℕ) × (t < words) × T (le t s) × flag t × (top s ≤ top t))
    go (yes k) x = inl (omega (arith, is s l))
    go (no k) (inl x) = absurd (omega (arith, low s))
    go (no k) (inr x) = inr (x.0, x.1, x.2, flags x.0 x.1 x.3 (omega (arith, rises x.0 s l x.2, x.4)), omega (arith, is s l, is x.0 x.1, x.4))

-- of one digit, those states suffice at which the values rise over the state before
module _ (le : ℕ → ℕ → Bool) (d words : ℕ) (some : ℕ → Type 0) (f g : ℕ → ℕ) (plain : d ≡ 0 → (t s : ℕ) → t ≤ s → T (le t s)) (less : (t s : ℕ) → T (le t s) → t ≤ s) (rises : Rises le words g) (c : Covers le words some f g) where
  abbrev Stepwise : ℕ → Type 0
  Stepwise s = (f s ≤ g s) ⊎ ((t : ℕ) × (t < words) × T (le t s) × (some t × Steps d f t) × (f s ≤ f t))

  -- the state before one that covers s is covered by a state that covers s too
  steps_lower : (s t : ℕ) → s < words → d ≡ 0 → t ≤ s → f s ≤ f t → Stepwise t → Stepwise s
  steps_lower s t h e m v (inl x) = inl (omega (arith, x, rises t s h (plain e t s m)))
  steps_lower s t h e m v (inr x) = inr (x.0, x.1, plain e x.0 s (omega (arith, less x.0 t x.2)), x.3, omega (arith, x.4))

  steps_pick : (s : ℕ) → s < words → ((u : ℕ) → u < s → Stepwise u) → (f s ≤ g s) ⊎ ((t : ℕ) × (t < words) × T (le t s) × some t × (f s ≤ f t)) → Stepwise s
  steps_pick s h before (inl x) = inl x
  steps_pick s h before (inr x) = decide (ℕ_discrete d 0) (dec_le 1 x.0) (dec_le (f x.0) (f (x.0 - 1)))
    where
      decide : Dec (d ≡ 0) → Dec (1 ≤ x.0) → Dec (f x.0 ≤ f (x.0 - 1)) → Stepwise s
      decide (no e) k m = inr (x.0, x.1, x.2, (x.3, λ z y. absurd (e z)), x.4)
      decide (yes e) (no k) m = inr (x.0, x.1, x.2, (x.3, λ z y. absurd (k y)), x.4)
      decide (yes e) (yes k) (no m) = inr (x.0, x.1, x.2, (x.3, λ z y. omega arith), x.4)
      decide (yes e) (yes k) (yes m) =
          let l = less x.0 s x.2 in
          steps_lower s (x.0 - 1) h e (omega arith) (omega (arith, x.4)) (before (x.0 - 1) (omega arith))

  steps_all : (n s : ℕ) → s < n → s < words → Stepwise s
  steps_all zero s l h = absurd (omega arith)
  steps_all (suc n) s l h = steps_pick s h (λ u k. steps_all n u (omega arith) (omega arith)) (c s h)

  pub covers_steps : Covers le words (λ t. some t × Steps d f t) f g
  covers_steps s h = steps_all (s + 1) s (omega arith) h

-- figures that some states cover are the same past all of these, where the figures covered over are
pub level_past : (le : ℕ → ℕ → Bool) → ((t s : ℕ) → t ≤ s → T (le t s)) → (words flat top : ℕ) (some : ℕ → Type 0) (f g : ℕ → ℕ) → Rises le words f → ((s : ℕ) → g s ≤ f s)
    → ((t : ℕ) → t < words → some t → t < top) → Covers le words some f g → Level words flat g → Level words (max flat top) f
level_past le plain words flat top some f g rises low below c level s h l = go (c s l)
  where
    up : f (max flat top) ≤ f s
    up = rises (max flat top) s l (plain (max flat top) s h)

    go : (f s ≤ g s) ⊎ ((t : ℕ) × (t < words) × T (le t s) × some t × (f s ≤ f t)) → f s ≡ f (max flat top)
    go (inl x) = omega (arith, up, x, level s (omega arith) l, level (max flat top) (omega arith) (omega arith), low (max flat top))
    go (inr x) = omega (arith, up, x.4, rises x.0 (max flat top) (omega arith) (plain x.0 (max flat top) (omega (arith, below x.0 x.1 x.3))))

-- figures that are the same from a state on are so from a later one on
pub level_later : {words flat high : ℕ} {f : ℕ → ℕ} → flat ≤ high → Level words flat f → Level words high f
level_later {words} {flat} {high} {f} h level s k l = level s (omega arith) l ∙ sym (level high h (omega arith))

-- a cell that is made at its states below n stays so where its words do
pub made_to_same : {J : Job} {le : ℕ → ℕ → Bool} {own : ℕ → ℕ} {normal_lengths normal_widths : List ℕ} {words n i j : ℕ} {old new : List ℕ}
    → ((s : ℕ) → s < n → get_or new (cell J words i j + s) 0 ≡ get_or old (cell J words i j + s) 0) → MadeTo J le own normal_lengths normal_widths words n i j old → MadeTo J le own normal_lengths normal_widths words n i j new
made_to_same {J} {le} {own} {normal_lengths} {normal_widths} {words} {n} {i} {j} {old} {new} e w = record {
  figures = λ s l. ap figure_in (e s l) ∙ w.figures s l;
  notes = λ k l. omega (arith, ap note_in (e k l), w.notes k l);
  ended = λ x k l m z. ap note_in (e k m) ∙ w.ended x k l m (sym (ap note_in (e x (omega arith))) ∙ z);
  sorted = λ x k l m z. omega (arith, ap note_in (e x (omega arith)), ap note_in (e k m), w.sorted x k l m (omega (arith, ap note_in (e k m))));
  longer = covers_more le n _ _ _ _ (λ t l s. marked_same _ t s) w.longer;
  wider = covers_more le n _ _ _ _ (λ t l s. marked_same _ t s) w.wider;
}
  where
    marked_same : (skip t : ℕ) → Marked skip old (cell J words i j) n t → Marked skip new (cell J words i j) n t
    marked_same skip t s = (s.0, s.1, (ap note_in (e s.0 s.1) ∙ s.2.0, λ z. s.2.1 (sym (ap mark_in (e s.0 s.1)) ∙ z)))

-- so it does where words after it are written
pub made_to_kept : {J : Job} {le : ℕ → ℕ → Bool} {own : ℕ → ℕ} {normal_lengths normal_widths : List ℕ} {words n i j at end : ℕ} {old new : List ℕ}
    → cell J words i j + n ≤ at → Outside at end old new → MadeTo J le own normal_lengths normal_widths words n i j old → MadeTo J le own normal_lengths normal_widths words n i j new
made_to_kept {J} {le} {own} {normal_lengths} {normal_widths} {words} {n} {i} {j} h o w = made_to_same (λ s l. o.before (cell J words i j + s) (omega arith)) w

-- a cell that is made stays so where its words do
pub made_same : {J : Job} {le : ℕ → ℕ → Bool} {own : ℕ → ℕ} {normal_lengths normal_widths : List ℕ} {words flat i j : ℕ} {old new : List ℕ}
    → ((s : ℕ) → s < words → get_or new (cell J words i j + s) 0 ≡ get_or old (cell J words i j + s) 0) → Made J le own normal_lengths normal_widths words flat i j old → Made J le own normal_lengths normal_widths words flat i j new
made_same e w = record { all = made_to_same e w.all; short = λ k l. (omega (arith, ap note_in (e k l), (w.short k l).0), λ m. ap note_in (e k l) ∙ (w.short k l).1 m) }

pub made_kept : {J : Job} {le : ℕ → ℕ → Bool} {own : ℕ → ℕ} {normal_lengths normal_widths : List ℕ} {words flat i j at end : ℕ} {old new : List ℕ}
    → cell J words i j + words ≤ at → Outside at end old new → Made J le own normal_lengths normal_widths words flat i j old → Made J le own normal_lengths normal_widths words flat i j new
made_kept {J} {le} {own} {normal_lengths} {normal_widths} {words} {flat} {i} {j} h o w = made_same (λ s l. o.before (cell J words i j + s) (omega arith)) w

-- a list that is short stays so where more states are in reach
pub made_later : {J : Job} {le : ℕ → ℕ → Bool} {own : ℕ → ℕ} {normal_lengths normal_widths : List ℕ} {words flat high i j : ℕ} {xs : List ℕ}
    → flat ≤ high → Made J le own normal_lengths normal_widths words flat i j xs → Made J le own normal_lengths normal_widths words high i j xs
made_later h w = record { all = w.all; short = λ k l. (omega (arith, (w.short k l).0), λ m. (w.short k l).1 (omega arith)) }

-- the cuts of one side, along which a cell of length x has the figures h x
module _ (J : Job) (le : ℕ → ℕ → Bool) (order : Order le) (fit : InTableRange J) (d : Direction) (count : ℕ) (positions floors : List ℕ) (given : Positions J d count positions floors)
    (h : ℕ → ℕ → ℕ) (joins : Joins le h) (digits skip a half_end base stride at words : ℕ) (old new : List ℕ) (ha : a < count) (half : Half positions a half_end)
    (figures : (i s : ℕ) → i < a → s < words → held old (base + i * stride) s ≡ h (get_or positions i 0) s)
    (covers : (i : ℕ) → i < a → Covers le words (Served digits skip old (base + i * stride) words) (h (get_or positions i 0)) (h (get_or positions (i - 1) 0)))
    (cuts : CutAt le digits skip positions floors a 1 half_end base stride at words old new) where
  -- no word is above the figure
  pub side_low : Low (h (get_or positions a 0)) at words old → Low (h (get_or positions a 0)) at words new
  side_low below = cuts.low (h (get_or positions a 0)) (λ t s l b. joins.above (get_or positions a 0) t s b) (λ i t u l m ht hu z b.
      (let q = half_parts positions floors count (positions_axis J d count positions floors fit given) a half_end i ha half l m in
      omega (
        arith,
        figures i t (omega (arith, half.most)) ht,
        figures (remainder positions floors a i) u q.0 hu,
        (along J le order fit d count positions floors given h joins).sums i (remainder positions floors a i) a t u (omega (arith, half.most)) (omega (arith, q.0)) ha q.1 b,
      ))) below

  -- and no cut gives more than g at a state, if what the cell has at the states below is at most g
  pub side_taken : (s g : ℕ) → s < words → h (get_or positions (a - 1) 0) s ≤ g → ((t : ℕ) → T (le t s) → held new at t ≤ g)
      → (i : ℕ) → 1 ≤ i → i < half_end → (e m : ℕ) → T (le e (e + m)) → e + m ≡ s → h (get_or positions i 0) e + h (get_or positions (remainder positions floors a i) 0) m ≤ g
  side_taken s g hs before has = side_covered J le order fit d count positions floors given h joins a half_end s g words (λ i. Served digits skip old (base + i * stride) words) ha half hs before covers
      (λ i j l m e hj x t u ht hu f y b v. omega (
        arith,
        figures i t (omega (arith, half.most)) ht,
        figures j u hj hu,
        taken i j l m e x t u f y (omega (arith, order.less (t + u) s v)) b,
        has (t + u) v,
      ))
    where
      taken : (i j : ℕ) → 1 ≤ i → i < half_end → j ≡ remainder positions floors a i → get_or positions i 0 + get_or positions j 0 ≡ get_or positions a 0 → (t u : ℕ) → Served digits skip old (base + i * stride) words t → Served digits skip old (base + j * stride) words u
          → t + u < words → T (le t (t + u)) → held old (base + i * stride) t + held old (base + j * stride) u ≤ held new at (t + u)
      taken i j l m e x t u f y z b = rw e (cuts.sums i t u l m (rw e at x) f (rw e at y) z b)

-- the cell at its place
module _ {J : Job} {own : ℕ → ℕ} {normal_lengths length_floors normal_widths width_floors blocks : List ℕ} {d words n stride a b length_half_end width_half_end at column flat : ℕ} {t0 : List ℕ} (spot : SpotTo J own normal_lengths length_floors normal_widths width_floors blocks d words n stride a b length_half_end width_half_end at column flat t0) where
  abbrev le : ℕ → ℕ → Bool
  le = under blocks d

  -- the figures of the cells, state by state
  abbrev F : ℕ → ℕ → ℕ → ℕ
  F i j s = tabled J (under blocks d) own normal_lengths normal_widths i j s

  order : Order (under blocks d)
  order = order_of blocks d n spot.digits

  fit : InTableRange J
  fit = spot.range

  -- a cell of an earlier row, and one before in the row, ends where this one begins or before
  pub row_earlier : (i : ℕ) → i < a → cell J words i b + n ≤ at
  row_earlier i h = omega (arith, spot.at_is, spot.within, cell_before (i * position_count J Width + b) (a * position_count J Width + b) words (omega (arith, cell_before i a (position_count J Width) h)))

  pub cell_earlier : (j : ℕ) → j < b → cell J words a j + n ≤ at
  cell_earlier j h = omega (arith, spot.at_is, spot.within, cell_before (a * position_count J Width + j) (a * position_count J Width + b) words (omega arith))

  -- it lies within the table
  pub room : at + n ≤ length t0
  room = omega (
    arith,
    spot.at_is,
    spot.within,
    spot.room,
    cell_before (a * position_count J Width + b) (position_count J Length * position_count J Width) words (omega (arith, cell_before a (position_count J Length) (position_count J Width) spot.length_in.1)),
  )

  -- the n of the cells of its column and of its row, as the code counts them
  pub row_word : (i : ℕ) → column + i * stride ≡ cell J words i b
  row_word i = ap₂ (λ x y. x + i * y) spot.column_is spot.stride_is ∙ omega arith

  pub cell_word : (j : ℕ) → at - column + j * words ≡ cell J words a j
  cell_word j =
      let e : at - column ≡ a * position_count J Width * words = omega (arith, spot.at_is, spot.column_is) in
      ap (λ x. x + j * words) e ∙ omega arith

  pub at_row : at ≡ column + a * stride
  at_row = spot.at_is ∙ sym (row_word a)

  pub at_cell : at ≡ at - column + b * words
  at_cell = spot.at_is ∙ sym (cell_word b)

  pub shorter_word : at - stride ≡ cell J words (a - 1) b
  shorter_word =
      let e : a - 1 + 1 ≡ a = omega (arith, spot.length_in.0) in
      let f : a * stride ≡ (a - 1) * stride + stride = sym (ap (λ a. a * stride) e) ∙ omega arith in
      omega (arith, at_row, row_word (a - 1))

  pub narrower_word : at - words ≡ cell J words a (b - 1)
  narrower_word =
      let e : b - 1 + 1 ≡ b = omega (arith, spot.width_in.0) in
      let f : b * words ≡ (b - 1) * words + words = sym (ap (λ b. b * words) e) ∙ omega arith in
      omega (arith, at_cell, cell_word (b - 1))

  pub row_fits : stride ≤ at
  row_fits = omega (arith, at_row, cell_before 0 a stride spot.length_in.0)

  pub cell_fits : (words ≤ stride) × (column ≤ at)
  cell_fits = (omega (arith, spot.stride_is, cell_before 0 (position_count J Width) words (omega (arith, spot.width_in.1))), omega (arith, at_row))

  -- a plate has few normal positions
  pub few : (a ≤ 1020) × (b ≤ 1020)
  few = (omega (arith, positions_length J Length, fit.plate_length, spot.length_in.1), omega (arith, positions_length J Width, fit.plate_width, spot.width_in.1))

  -- the cuts of its two sides
  pub length_cuts_are : Cuts normal_lengths length_floors a length_half_end
  length_cuts_are = half_cuts normal_lengths length_floors (position_count J Length) (positions_axis J Length (position_count J Length) normal_lengths length_floors fit spot.lengths) a length_half_end spot.length_in.1 spot.length_half

  pub width_cuts_are : Cuts normal_widths width_floors b width_half_end
  width_cuts_are = half_cuts normal_widths width_floors (position_count J Width) (positions_axis J Width (position_count J Width) normal_widths width_floors fit spot.widths) b width_half_end spot.width_in.1 spot.width_half

  low : (i j s : ℕ) → i < position_count J Length → j < position_count J Width → F i j s ≤ most_wide_figure
  low i j s h m = omega (
    arith,
    state_low J (under blocks d) own order fit (get_or normal_lengths i 0) (get_or normal_widths j 0) s ((positions_axis J Length (position_count J Length) normal_lengths length_floors fit spot.lengths).side i h).0,
    ((positions_axis J Width (position_count J Width) normal_widths width_floors fit spot.widths).side j m).0,
  )

  pub rising : (i j : ℕ) → Rises (under blocks d) n (F i j)
  rising i j t s h l = state_above J (under blocks d) own order fit (get_or normal_lengths i 0) (get_or normal_widths j 0) t s l

  ready : (i j : ℕ) (xs : List ℕ) → i < position_count J Length → j < position_count J Width → MadeTo J (under blocks d) own normal_lengths normal_widths words n i j xs → cell J words i j + n ≤ at → Ready xs (cell J words i j) n at
  ready i j xs h l w before = record {
    before = before;
    small = λ s m. omega (arith, w.figures s m, low i j s h l);
    most = λ s m. omega (arith, w.figures s m, w.figures (n - 1) (omega arith), rising i j s (n - 1) (omega arith) (last_state blocks d n spot.digits s m));
    notes = w.notes;
    ended = w.ended;
    sorted = w.sorted;
  }

  -- cells of the column and of the row, in a table where n from here on were written
  earlier_row : (xs : List ℕ) → Outside at (at + n) t0 xs → (i : ℕ) → i < a → Ready xs (cell J words i b) n at
  earlier_row xs o i h = ready i b xs (omega (arith, spot.length_in.1)) spot.width_in.1 (made_to_kept (row_earlier i h) o (spot.column_cells i h)) (row_earlier i h)

  earlier_cell : (xs : List ℕ) → Outside at (at + n) t0 xs → (j : ℕ) → j < b → Ready xs (cell J words a j) n at
  earlier_cell xs o j h = ready a j xs spot.length_in.1 (omega (arith, spot.width_in.1)) (made_to_kept (cell_earlier j h) o (spot.row_cells j h)) (cell_earlier j h)

  row_ready : (xs : List ℕ) → Outside at (at + n) t0 xs → (i : ℕ) → i < a → Ready xs (column + i * stride) n at
  row_ready xs o i h = rw (row_word i) (earlier_row xs o i h)

  cell_ready : (xs : List ℕ) → Outside at (at + n) t0 xs → (j : ℕ) → j < b → Ready xs (at - column + j * words) n at
  cell_ready xs o j h = rw (cell_word j) (earlier_cell xs o j h)

  -- the digit sums stand before it
  pub sums_there : (xs : List ℕ) → Outside at (at + n) t0 xs → Summed blocks d n at xs
  sums_there xs o = summed_kept o (record { before = λ h. omega (arith, row_fits, cell_fits.0, spot.within); sums = spot.summed.sums })

  -- so the cuts of its two sides can be taken
  pub length_cuttable : (xs : List ℕ) → Outside at (at + n) t0 xs → Growing blocks d n at xs → Cuttable blocks normal_lengths length_floors d n a 1 length_half_end column stride at xs
  length_cuttable xs o g = record { growing = g; first = omega arith; cuts = length_cuts_are; ready = row_ready xs o; summed = sums_there xs o }

  pub width_cuttable : (xs : List ℕ) → Outside at (at + n) t0 xs → Growing blocks d n at xs → Cuttable blocks normal_widths width_floors d n b 1 width_half_end (at - column) words at xs
  width_cuttable xs o g = record { growing = g; first = omega arith; cuts = width_cuts_are; ready = cell_ready xs o; summed = sums_there xs o }

  -- the two cells before it
  pub shorter_ready : (xs : List ℕ) → Outside at (at + n) t0 xs → Ready xs (at - stride) n at
  shorter_ready xs o = rw shorter_word (earlier_row xs o (a - 1) (omega (arith, spot.length_in.0)))

  pub narrower_ready : (xs : List ℕ) → Outside at (at + n) t0 xs → Ready xs (at - words) n at
  narrower_ready xs o = rw narrower_word (earlier_cell xs o (b - 1) (omega (arith, spot.width_in.0)))

  -- a longer and a wider cell have no less
  pub longer : (i k j s : ℕ) → i ≤ k → k < position_count J Length → F i j s ≤ F k j s
  longer i k j s h l = more_side J (under blocks d) own order fit Length (get_or normal_widths j 0) (get_or normal_lengths i 0) (get_or normal_lengths k 0) s (rise i k h l (dec_le k i))
    where
      rise : (i k : ℕ) → i ≤ k → k < position_count J Length → Dec (k ≤ i) → get_or normal_lengths i 0 ≤ get_or normal_lengths k 0
      rise i k h l (yes m) = let e : i ≡ k = omega arith in omega (arith, ap (λ i. get_or normal_lengths i 0) e)
      rise i k h l (no m) = omega (arith, (positions_axis J Length (position_count J Length) normal_lengths length_floors fit spot.lengths).rise i k (omega arith) l)

  pub wider : (i j k s : ℕ) → j ≤ k → k < position_count J Width → F i j s ≤ F i k s
  wider i j k s h l = more_side J (under blocks d) own order fit Width (get_or normal_lengths i 0) (get_or normal_widths j 0) (get_or normal_widths k 0) s (rise j k h l (dec_le k j))
    where
      rise : (i k : ℕ) → i ≤ k → k < position_count J Width → Dec (k ≤ i) → get_or normal_widths i 0 ≤ get_or normal_widths k 0
      rise i k h l (yes m) = let e : i ≡ k = omega arith in omega (arith, ap (λ i. get_or normal_widths i 0) e)
      rise i k h l (no m) = omega (arith, (positions_axis J Width (position_count J Width) normal_widths width_floors fit spot.widths).rise i k (omega arith) l)

  -- the figures of the two cells before it
  shorter_figure : (s : ℕ) → s < n → held t0 (at - stride) s ≡ F (a - 1) b s
  shorter_figure s h = rw shorter_word ((spot.column_cells (a - 1) (omega (arith, spot.length_in.0))).figures s h)

  narrower_figure : (s : ℕ) → s < n → held t0 (at - words) s ≡ F a (b - 1) s
  narrower_figure s h = rw narrower_word ((spot.row_cells (b - 1) (omega (arith, spot.width_in.0))).figures s h)

  -- it can start from them
  pub startable : Startable (at - stride) (at - words) at n flat t0
  startable = record {
    first_before = (shorter_ready t0 (outside_same at (at + n) t0)).before;
    second_before = (narrower_ready t0 (outside_same at (at + n) t0)).before;
    room = room;
    most = spot.flat_most;
    first_level = λ s h l. shorter_figure s l ∙ (spot.level_shorter s h l ∙ sym (shorter_figure flat (omega arith)));
    second_level = λ s h l. narrower_figure s l ∙ (spot.level_narrower s h l ∙ sym (narrower_figure flat (omega arith)));
  }

  -- the start
  module _ (t1 : List ℕ) (run : Run (λ s. max (held t0 (at - stride) s) (held t0 (at - words) s)) at n t0 t1) where
    pub started : (s : ℕ) → s < n → held t1 at s ≡ max (F (a - 1) b s) (F a (b - 1) s)
    started s h = ap figure_in (run.here s h) ∙ (figure_plain _ (omega (arith, figure_small (get_or t0 (at - stride + s) 0), figure_small (get_or t0 (at - words + s) 0))) ∙ ap₂ max (shorter_figure s h) (narrower_figure s h))

    -- no state is flagged yet, so all that are flagged later lie below the number handed on
    pub start_topped : (high : ℕ) (xs : List ℕ) → Topped at n 0 high t1 xs → FlaggedBelow at n high xs
    start_topped high xs p = record { most = p.most (omega arith); flags = λ t h f. go t h (p.flags t h f) }
      where
        go : (t : ℕ) → t < n → Flagged t1 at t ⊎ (t < high) → t < high
        go t h (inr l) = l
        go t h (inl f) = absurd (omega (arith, ap note_in (run.here t h), note_plain (max (held t0 (at - stride) t) (held t0 (at - words) t)) (omega (arith, figure_small (get_or t0 (at - stride + t) 0), figure_small (get_or t0 (at - words + t) 0)))))

    pub start_rises : Rises (under blocks d) n (held t1 at)
    start_rises t s h l = omega (arith, started s h, started t (omega (arith, order.less t s l)), rising (a - 1) b t s h l, rising a (b - 1) t s h l)

    -- after the two inheritances
    module _ (t2 t3 : List ℕ) (first : Inherited (at - words) (at - stride) at n t1 t2) (second : Inherited (at - stride) (at - words) at n t2 t3) where
      pub inherited_rest : Outside at (at + n) t0 t3
      inherited_rest = outside_chain at (at + n) t0 t1 t3 run.rest (outside_chain at (at + n) t1 t2 t3 first.rest second.rest)

      same : (s : ℕ) → s < n → held t3 at s ≡ held t1 at s
      same s h = second.same s h ∙ first.same s h

      inherited_rises : Rises (under blocks d) n (held t3 at)
      inherited_rises t s h l = omega (arith, same s h, same t (omega (arith, order.less t s l)), start_rises t s h l)

      pub inherited_growing : length t3 ≡ length t0 → Growing blocks d n at t3
      inherited_growing e = record { digits = spot.digits; room = omega (arith, room); rises = inherited_rises }

      inherited_low : Low (F a b) at n t3
      inherited_low s h = omega (arith, same s h, started s h, longer (a - 1) a b s (omega arith) spot.length_in.1, wider a (b - 1) b s (omega arith) spot.width_in.1)

      -- the flags cover the start over both cells before
      covers_shorter : Covers (under blocks d) n (Flagged t3 at) (held t3 at) (F (a - 1) b)
      covers_shorter = start_covers (under blocks d) n (Marked 2 t0 (cell J words a (b - 1)) n) (Flagged t3 at) (F a (b - 1)) (F (a - 1) b) (F (a - 1) (b - 1)) (held t3 at)
          (λ s h. omega (arith, same s h, started s h)) (λ s. wider (a - 1) (b - 1) b s (omega arith) spot.width_in.1) (rising (a - 1) b)
          (λ t h l m. second.kept t h (first.flags t (listed_kept at (at + n) t0 t1 run.rest (at - words) n t (narrower_ready t0 none).before (rw narrower_word (l.0, l.1, l.2.0)))
          (omega (arith, shorter_figure t h, narrower_figure t h, held_kept at (at + n) t0 t1 run.rest (at - words) t (omega (arith, (narrower_ready t0 none).before)), held_kept at (at + n) t0 t1 run.rest (at - stride) t (omega (arith, (shorter_ready t0 none).before))))))
          (spot.row_cells (b - 1) (omega (arith, spot.width_in.0))).longer
        where
          none : Outside at (at + n) t0 t0
          none = record { before = λ i h. refl; after = λ i h. refl }

      covers_narrower : Covers (under blocks d) n (Flagged t3 at) (held t3 at) (F a (b - 1))
      covers_narrower = start_covers (under blocks d) n (Marked 1 t0 (cell J words (a - 1) b) n) (Flagged t3 at) (F (a - 1) b) (F a (b - 1)) (F (a - 1) (b - 1)) (held t3 at)
          (λ s h. omega (arith, same s h, started s h)) (λ s. longer (a - 1) a (b - 1) s (omega arith) spot.length_in.1) (rising a (b - 1))
          (λ t h l m. second.flags t (listed_kept at (at + n) t0 t2 kept (at - stride) n t (shorter_ready t0 none).before (rw shorter_word (l.0, l.1, l.2.0)))
          (omega (arith, shorter_figure t h, narrower_figure t h, held_kept at (at + n) t0 t2 kept (at - words) t (omega (arith, (narrower_ready t0 none).before)), held_kept at (at + n) t0 t2 kept (at - stride) t (omega (arith, (shorter_ready t0 none).before)))))
          (spot.column_cells (a - 1) (omega (arith, spot.length_in.0))).wider
        where
          none : Outside at (at + n) t0 t0
          none = record { before = λ i h. refl; after = λ i h. refl }

          kept : Outside at (at + n) t0 t2
          kept = outside_chain at (at + n) t0 t1 t2 run.rest first.rest

      -- the kinds and the cuts
      module _ (t4 t5 t6 t7 : List ℕ) (kinds : Placed (under blocks d) J own J.count (get_or normal_lengths a 0) (get_or normal_widths b 0) at n t3 t4)
          (length_cuts : CutAt (under blocks d) d 2 normal_lengths length_floors a 1 length_half_end column stride at n t4 t5) (width_cuts : CutAt (under blocks d) d 1 normal_widths width_floors b 1 width_half_end (at - column) words at n t5 t6) (done : Finished d at (at - stride) (at - words) n t6 t7) where
        o4 : Outside at (at + n) t0 t4
        o4 = outside_chain at (at + n) t0 t3 t4 inherited_rest kinds.grown.rest

        o5 : Outside at (at + n) t0 t5
        o5 = outside_chain at (at + n) t0 t4 t5 o4 length_cuts.grown.rest

        grown : Grown (under blocks d) at n t3 t6
        grown = grown_then (under blocks d) at n t3 t4 t6 kinds.grown (grown_then (under blocks d) at n t4 t5 t6 length_cuts.grown width_cuts.grown)

        pub made_rest : Outside at (at + n) t0 t7
        made_rest = outside_chain at (at + n) t0 t6 t7 (outside_chain at (at + n) t0 t3 t6 inherited_rest grown.rest) done.rest

        length_figures : (i s : ℕ) → i < a → s < n → held t4 (column + i * stride) s ≡ F i b s
        length_figures i s h l = rw (row_word i) ((made_to_kept (row_earlier i h) o4 (spot.column_cells i h)).figures s l)

        length_covers : (i : ℕ) → i < a → Covers (under blocks d) n (Served d 2 t4 (column + i * stride) n) (F i b) (F (i - 1) b)
        length_covers i h = rw (row_word i) (covers_more (under blocks d) n (Marked 2 t4 (cell J words i b) n) (Served d 2 t4 (cell J words i b) n) (F i b) (F (i - 1) b) (λ t l m. ((m.0, m.1, m.2.0), λ k. m)) (made_to_kept (row_earlier i h) o4 (spot.column_cells i h)).longer)

        width_figures : (j s : ℕ) → j < b → s < n → held t5 (at - column + j * words) s ≡ F a j s
        width_figures j s h l = rw (cell_word j) ((made_to_kept (cell_earlier j h) o5 (spot.row_cells j h)).figures s l)

        width_covers : (j : ℕ) → j < b → Covers (under blocks d) n (Served d 1 t5 (at - column + j * words) n) (F a j) (F a (j - 1))
        width_covers j h = rw (cell_word j) (covers_more (under blocks d) n (Marked 1 t5 (cell J words a j) n) (Served d 1 t5 (cell J words a j) n) (F a j) (F a (j - 1)) (λ t l m. ((m.0, m.1, m.2.0), λ k. m)) (made_to_kept (cell_earlier j h) o5 (spot.row_cells j h)).wider)

        -- no figure is too large
        sound : Low (F a b) at n t6
        sound = side_low J (under blocks d) order fit Width (position_count J Width) normal_widths width_floors spot.widths (across J (under blocks d) own Width (get_or normal_lengths a 0)) (across_joins J (under blocks d) own order fit Width (get_or normal_lengths a 0)) d 1 b width_half_end (at - column) words at n t5 t6 spot.width_in.1 spot.width_half width_figures width_covers width_cuts
            (side_low J (under blocks d) order fit Length (position_count J Length) normal_lengths length_floors spot.lengths (across J (under blocks d) own Length (get_or normal_widths b 0)) (across_joins J (under blocks d) own order fit Length (get_or normal_widths b 0)) d 2 a length_half_end column stride at n t4 t5 spot.length_in.1 spot.length_half length_figures length_covers length_cuts
            (kinds.low (F a b) (rising a b) (λ i h e f l. piece_most J (under blocks d) own order fit (upright i) (get_or normal_lengths a 0) (get_or normal_widths b 0) (own i) (table_lies J fit i h) (omega arith) (omega arith) (order.same (own i))) inherited_low))

        rises : Rises (under blocks d) n (held t6 at)
        rises = grown.rises inherited_rises

        -- and none too small
        full : (s : ℕ) → s < n → F a b s ≤ held t6 at s
        full s h = complete J (under blocks d) own order fit (position_count J Length) (position_count J Width) normal_lengths length_floors normal_widths width_floors spot.lengths spot.widths a b s (held t6 at s) spot.length_in.1 spot.width_in.1
            above before (λ i l e f m. (let k : own i < n = omega (arith, order.less (own i) s m) in omega (arith, kinds.taken i l e f k, length_cuts.grown.more (own i) k, width_cuts.grown.more (own i) k, rises (own i) s h m)))
            length_half_end width_half_end spot.length_half spot.width_half
            (side_taken J (under blocks d) order fit Length (position_count J Length) normal_lengths length_floors spot.lengths (across J (under blocks d) own Length (get_or normal_widths b 0)) (across_joins J (under blocks d) own order fit Length (get_or normal_widths b 0)) d 2 a length_half_end column stride at n t4 t5 spot.length_in.1 spot.length_half length_figures length_covers length_cuts
            s (held t6 at s) h above (λ t m. omega (arith, width_cuts.grown.more t (omega (arith, order.less t s m)), rises t s h m)))
            (side_taken J (under blocks d) order fit Width (position_count J Width) normal_widths width_floors spot.widths (across J (under blocks d) own Width (get_or normal_lengths a 0)) (across_joins J (under blocks d) own order fit Width (get_or normal_lengths a 0)) d 1 b width_half_end (at - column) words at n t5 t6 spot.width_in.1 spot.width_half width_figures width_covers width_cuts
            s (held t6 at s) h before (λ t m. rises t s h m))
          where
            above : F (a - 1) b s ≤ held t6 at s
            above = omega (arith, grown.more s h, same s h, started s h)

            before : F a (b - 1) s ≤ held t6 at s
            before = omega (arith, grown.more s h, same s h, started s h)

        figures : (s : ℕ) → s < n → held t6 at s ≡ F a b s
        figures s h = omega (arith, sound s h, full s h)

        -- the flags cover the figures over those of the cells before
        covers_length : Covers (under blocks d) n (Flagged t6 at) (F a b) (F (a - 1) b)
        covers_length = covers_same (under blocks d) n (Flagged t6 at) (held t6 at) (F a b) (F (a - 1) b) figures (grown.covers (F (a - 1) b) inherited_rises covers_shorter)

        covers_width : Covers (under blocks d) n (Flagged t6 at) (F a b) (F a (b - 1))
        covers_width = covers_same (under blocks d) n (Flagged t6 at) (held t6 at) (F a b) (F a (b - 1)) figures (grown.covers (F a (b - 1)) inherited_rises covers_narrower)

        -- and are the same past all flags, where those of the cells before are
        pub levelled : {top high : ℕ} → FlaggedBelow at n top t6 → ((d ≡ 0) × (high ≡ max flat top)) ⊎ (high ≡ n) → Levelled n flat high (F a b)
        levelled {top} {high} below (inr e) = record { more = omega (arith, spot.flat_most); most = omega arith; level = λ s h l. absurd (omega arith) }
        levelled {top} {high} below (inl e) = record {
          more = omega (arith, e.1);
          most = omega (arith, e.1, below.most, spot.flat_most);
          level = rw e.1 (level_past (under blocks d) (under_zero blocks d e.0) n flat top (Flagged t6 at) (F a b) (F (a - 1) b) (rising a b) (λ s. longer (a - 1) a b s (omega arith) spot.length_in.1) below.flags covers_length
              spot.level_shorter);
        }

        pub made : MadeTo J (under blocks d) own normal_lengths normal_widths words n a b t7
        made = record {
          figures = λ s h. rw (← spot.at_is) (done.same s h ∙ figures s h);
          notes = λ k h. rw (← spot.at_is) (done.notes k h);
          ended = λ j k h l z. rw (← spot.at_is) (done.ended j k h l (rw (← spot.at_is) at z));
          sorted = λ j k h l z. rw (← spot.at_is) (done.sorted j k h l (rw (← spot.at_is) at z));
          longer = listed 2 (F (a - 1) b) (rising (a - 1) b) (λ t m h o r. o.longer (omega (arith, r, before (at - stride) (shorter_ready t0 none).before t h, shorter_figure t h, figures t h))) covers_length;
          wider = listed 1 (F a (b - 1)) (rising a (b - 1)) (λ t m h o r. o.wider (omega (arith, r, before (at - words) (narrower_ready t0 none).before t h, narrower_figure t h, figures t h))) covers_width;
        }
          where
            none : Outside at (at + n) t0 t0
            none = outside_same at (at + n) t0

            -- the cells before are as they were
            before : (x : ℕ) → x + n ≤ at → (t : ℕ) → t < n → held t6 x t ≡ held t0 x t
            before x h t l = held_kept at (at + n) t0 t6 (outside_chain at (at + n) t0 t3 t6 inherited_rest grown.rest) x t (omega arith)

            listed : (skip : ℕ) (g : ℕ → ℕ) → Rises (under blocks d) n g → ((t mark : ℕ) → t < n → Told (at - stride) (at - words) t6 t (held t6 at t) mark → g t < F a b t → mark ≡ skip → ⊥)
                → Covers (under blocks d) n (Flagged t6 at) (F a b) g → Covers (under blocks d) n (Marked skip t7 (cell J words a b) n) (F a b) g
            listed skip g r tells c = covers_more (under blocks d) n (λ t. (Flagged t6 at t × Steps d (F a b) t) × (g t < F a b t)) (Marked skip t7 (cell J words a b) n) (F a b) g
                (λ t h f. rw (← spot.at_is) (entry t h (done.listed t h f.0.0 (λ e k. omega (arith, f.0.1 e k, figures t h, figures (t - 1) (omega arith)))) f.1))
                (covers_rising (under blocks d) n (λ t. Flagged t6 at t × Steps d (F a b) t) (F a b) g r (covers_steps (under blocks d) d n (Flagged t6 at) (F a b) g (under_zero blocks d) order.less r c))
              where
                entry : (t : ℕ) → t < n → (k : ℕ) × (k < n) × (note t7 at k ≡ t + 1) × Told (at - stride) (at - words) t6 t (held t6 at t) (mark t7 at k) → g t < F a b t → Marked skip t7 at n t
                entry t h q rise = (q.0, q.1, (q.2, tells t (mark t7 at q.0) h q.3 rise))
