-- A cell that was made by its steps holds the figures of its block, and its list covers them over those of the cells before it.
use Rattle.stage_fill.proofs.Prelude.{◌≡◌, sym, ◌∙◌, ap, ap₂, ◌⊎◌, inl, inr, List, ℕ, suc, ◌+◌, ◌-◌, ◌*◌, ◌≤◌, ◌<◌, max, dec_le, arith, T, leb, leb→le, le→leb, get_or, Direction, Length, Width, most_wide_figure, side, upright, other, Job, InTableRange, table_lies, Positions, Outside, Half, Axis, Covers, block_at, positions_axis, plain_order, singles, sided, block_above, block_larger, block_uncut, block_single, sided_above, sided_larger, sided_prior, sided_joins, block_complete, Line, held, Rises, Flagged, Low, Listed, Served, Ready, Level, Levelled, Steps, Finished, FlaggedBelow, outside_chain, held_kept, note_kept, listed_kept, covers_more, covers_same, covers_steps, start_covers, level_past, side_low, side_taken, Made, UncutSteps, LaterSteps}
use Rattle.stage_fill.proofs.Steps.{rises_same, started, start_topped}

-- a cell that is made stays so where words after it are written
pub made_kept : {words x at end : ℕ} {f g h : ℕ → ℕ} {old new : List ℕ} → x + words ≤ at → Outside at end old new → Made words x f g h old → Made words x f g h new
made_kept {words} {x} {at} {end} {f} {g} {h} {old} {new} before o w = record {
  figures = λ s l. held_kept at end old new o x s (omega arith) ∙ w.figures s l;
  notes = λ k l. omega (arith, note_kept at end old new o x k (omega arith), w.notes k l);
  ended = λ j k l m z. note_kept at end old new o x k (omega arith) ∙ w.ended j k l m (sym (note_kept at end old new o x j (omega arith)) ∙ z);
  sorted = λ j k l m z. omega (arith, note_kept at end old new o x j (omega arith), note_kept at end old new o x k (omega arith), w.sorted j k l m (omega (arith, note_kept at end old new o x k (omega arith))));
  first = covers_more leb words _ _ _ _ (λ t l s. listed_kept at end old new o x words t before s) w.first;
  second = covers_more leb words _ _ _ _ (λ t l s. listed_kept at end old new o x words t before s) w.second;
}

-- its two directions can be told the other way round
pub made_swap : {words x : ℕ} {f g h : ℕ → ℕ} {xs : List ℕ} → Made words x f g h xs → Made words x f h g xs
made_swap w = record { figures = w.figures; notes = w.notes; ended = w.ended; sorted = w.sorted; first = w.second; second = w.first }

-- it can be read
pub made_ready : {words x at : ℕ} {f g h : ℕ → ℕ} {xs : List ℕ} → 1 ≤ words → x + words ≤ at → Rises leb words f → ((s : ℕ) → f s ≤ most_wide_figure) → Made words x f g h xs → Ready xs x words at
made_ready {words} {x} {at} {f} some before rises low w = record {
  before = before;
  small = λ s l. omega (arith, w.figures s l, low s);
  most = λ s l. omega (arith, w.figures s l, w.figures (words - 1) (omega arith), rises s (words - 1) (omega arith) (le→leb s (words - 1) (omega arith)));
  notes = w.notes;
  ended = w.ended;
  sorted = w.sorted;
}

-- the greater of two cells is covered over a third by what either lists, and at which it is above the third
either_covers : (words : ℕ) (some more flag : ℕ → Type 0) (f g b f' g' top : ℕ → ℕ) → ((s : ℕ) → s < words → top s ≡ max (f s) (g s)) → ((s : ℕ) → f' s ≤ b s) → ((s : ℕ) → g' s ≤ b s) → Rises leb words b
    → ((t : ℕ) → t < words → some t → b t < f t → flag t) → ((t : ℕ) → t < words → more t → b t < g t → flag t) → Covers leb words some f f' → Covers leb words more g g' → Covers leb words flag top b
either_covers words some more flag f g b f' g' top is low low' rises flags flags' c c' s l = go (dec_le (f s) (b s)) (dec_le (g s) (b s)) (dec_le (g s) (f s)) (c s l) (c' s l)
  where
    first : b s < f s → g s ≤ f s → (f s ≤ f' s) ⊎ ((t : ℕ) × (t < words) × T (leb t s) × some t × (f s ≤ f t)) → (top s ≤ b s) ⊎ ((t : ℕ) × (t < words) × T (leb t s) × flag t × (top s ≤ top t))
    first h m (inl x) = absurd (omega (arith, low s))
    first h m (inr x) = inr (x.0, x.1, x.2, flags x.0 x.1 x.3 (omega (arith, rises x.0 s l x.2, x.4)), omega (arith, is s l, is x.0 x.1, x.4))

    second : b s < g s → f s ≤ g s → (g s ≤ g' s) ⊎ ((t : ℕ) × (t < words) × T (leb t s) × more t × (g s ≤ g t)) → (top s ≤ b s) ⊎ ((t : ℕ) × (t < words) × T (leb t s) × flag t × (top s ≤ top t))
    second h m (inl x) = absurd (omega (arith, low' s))
    second h m (inr x) = inr (x.0, x.1, x.2, flags' x.0 x.1 x.3 (omega (arith, rises x.0 s l x.2, x.4)), omega (arith, is s l, is x.0 x.1, x.4))

    go : Dec (f s ≤ b s) → Dec (g s ≤ b s) → Dec (g s ≤ f s) → (f s ≤ f' s) ⊎ ((t : ℕ) × (t < words) × T (leb t s) × some t × (f s ≤ f t)) → (g s ≤ g' s) ⊎ ((t : ℕ) × (t < words) × T (leb t s) × more t × (g s ≤ g t))
        → (top s ≤ b s) ⊎ ((t : ℕ) × (t < words) × T (leb t s) × flag t × (top s ≤ top t))
    go (yes x) (yes y) z p q = inl (omega (arith, is s l))
    go (no x) y (yes z) p q = first (omega arith) z p
    go (no x) y (no z) p q = second (omega arith) (omega arith) q
    go (yes x) (no y) z p q = second (omega arith) (omega arith) q

-- a cell whose flags cover its figures is made when they have become its list
made_done : {words at shorter narrower : ℕ} {f g h : ℕ → ℕ} {xs new : List ℕ} → Finished 0 at shorter narrower words xs new → ((s : ℕ) → s < words → held xs at s ≡ f s) → Rises leb words g → Rises leb words h → Covers leb words (Flagged xs at) f g → Covers leb words (Flagged xs at) f h → Made words at f g h new
made_done {words} {at} {shorter} {narrower} {f} {g} {h} {xs} {new} done figures Under-first under_second first second = record {
  figures = λ s l. done.same s l ∙ figures s l;
  notes = done.notes;
  ended = done.ended;
  sorted = done.sorted;
  first = listed g Under-first first;
  second = listed h under_second second;
}
  where
    listed : (g : ℕ → ℕ) → Rises leb words g → Covers leb words (Flagged xs at) f g → Covers leb words (Listed new at words) f g
    listed g r c = covers_more leb words (λ t. Flagged xs at t × Steps 0 f t) (Listed new at words) f g
        (λ t l x. (let q = done.listed t l x.0 (λ e k. omega (arith, x.1 e k, figures t l, figures (t - 1) (omega arith))) in (q.0, q.1, q.2)))
        (covers_steps leb 0 words (Flagged xs at) f g (λ e t s l. le→leb t s l) leb→le r c)

-- the figures of one cell are the same from the next state on
levelled : {words flat top next : ℕ} {f g : ℕ → ℕ} {at : ℕ} {xs : List ℕ} → flat ≤ words → next ≡ max flat top → Rises leb words f → ((s : ℕ) → g s ≤ f s) → FlaggedBelow at words top xs → Covers leb words (Flagged xs at) f g → Level words flat g
    → Levelled words flat next f
levelled {words} {flat} {top} {next} {f} {g} {at} {xs} most is rises low below covers level = record {
  more = omega arith;
  most = omega (arith, below.most);
  level = rw is (level_past leb (λ t s h. le→leb t s h) words flat top (Flagged xs at) f g rises low below.flags covers level);
}

-- the place of a cell of a later block on a line along side d; o is its other side, and o' that of the cell before it in the other
-- direction: its source, the cells before it on the line and the one beside it are made
pub record Later (J : Job) (own : ℕ → ℕ) (k : ℕ) (d : Direction) (count : ℕ) (positions floors : List ℕ) (o o' : ℕ) (line : Line) (source across words : ℕ) (xs : List ℕ) : Type 0 where
  pub fit : InTableRange J
  pub given : Positions J d count positions floors
  pub on : o ≤ side (other d) J.plate
  pub inside : (1 ≤ line.index) × (line.index < count)
  pub half : Half positions line.index line.half_end
  pub place : line.at ≡ line.base + line.index * line.stride
  pub before : source + words ≤ line.at
  pub beside : across + words ≤ line.at
  pub earlier : (j : ℕ) → j < line.index → line.base + j * line.stride + words ≤ line.at
  pub from : Made words source (sided J leb own (other d) k d o (get_or positions line.index 0)) (sided J leb own (other d) k d o (get_or positions (line.index - 1) 0)) (sided J leb own (other d) k d o' (get_or positions line.index 0)) xs
  pub cells : (j : ℕ) → j < line.index → Made words (line.base + j * line.stride) (sided J leb own d (suc k) d o (get_or positions j 0)) (sided J leb own d (suc k) d o (get_or positions (j - 1) 0)) (sided J leb own d (suc k) d o' (get_or positions j 0)) xs
  pub next_to : (s : ℕ) → s < words → held xs across s ≡ sided J leb own d (suc k) d o' (get_or positions line.index 0) s

module _ {J : Job} {own : ℕ → ℕ} {k : ℕ} {d : Direction} {count : ℕ} {positions floors : List ℕ} {o o' : ℕ} {line : Line} {source across words : ℕ} {old : List ℕ} (spot : Later J own k d count positions floors o o' line source across words old)
    {flat next : ℕ} {new : List ℕ} (steps : LaterSteps positions floors line source across words flat next old new) where
  -- the entry of the cell, and its block's figures along the line
  abbrev a : ℕ
  a = line.index

  abbrev F : ℕ → ℕ → ℕ
  F j = sided J leb own d (suc k) d o (get_or positions j 0)

  abbrev P : ℕ → ℕ
  P = sided J leb own (other d) k d o (get_or positions a 0)

  abbrev B : ℕ → ℕ
  B = sided J leb own d (suc k) d o' (get_or positions a 0)

  axis : Axis positions floors count
  axis = positions_axis J d count positions floors spot.fit spot.given

  rising : (j : ℕ) → Rises leb words (F j)
  rising j t s h l = sided_above J leb own plain_order spot.fit d (suc k) d o (get_or positions j 0) t s l

  shorter : get_or positions (a - 1) 0 ≤ get_or positions a 0
  shorter = omega (arith, axis.rise (a - 1) a (omega (arith, spot.inside.0)) spot.inside.1)

  -- the cell before it along the line
  along_word : line.at - line.stride ≡ line.base + (a - 1) * line.stride
  along_word =
      let e : a - 1 + 1 ≡ a = omega (arith, spot.inside.0) in
      let f : a * line.stride ≡ (a - 1) * line.stride + line.stride = sym (ap (λ a. a * line.stride) e) ∙ omega arith in
      omega (arith, spot.place)

  along_made : Made words (line.at - line.stride) (F (a - 1)) (F (a - 1 - 1)) (sided J leb own d (suc k) d o' (get_or positions (a - 1) 0)) old
  along_made = rw along_word (spot.cells (a - 1) (omega (arith, spot.inside.0)))

  along_before : line.at - line.stride + words ≤ line.at
  along_before = rw along_word (spot.earlier (a - 1) (omega (arith, spot.inside.0)))

  -- what is kept through the steps
  o2 : Outside line.at (line.at + words) old steps.t2
  o2 = outside_chain _ _ _ _ _ steps.started.rest steps.first.rest

  o3 : Outside line.at (line.at + words) old steps.t3
  o3 = outside_chain _ _ _ _ _ o2 steps.second.rest

  o4 : Outside line.at (line.at + words) old steps.t4
  o4 = outside_chain _ _ _ _ _ o3 steps.third.rest

  pub later_rest : Outside line.at (line.at + words) old new
  later_rest = outside_chain _ _ _ _ _ (outside_chain _ _ _ _ _ o4 steps.taken.grown.rest) steps.done.rest

  same : (s : ℕ) → s < words → held steps.t4 line.at s ≡ max (P s) (F (a - 1) s)
  same s h = steps.third.same s h ∙ (steps.second.same s h ∙ (steps.first.same s h ∙ (started source (line.at - line.stride) line.at words old steps.t1 steps.started s h ∙ ap₂ max (spot.from.figures s h) (along_made.figures s h))))

  start_rising : Rises leb words (held steps.t4 line.at)
  start_rising = rises_same same (λ t s h l. omega (arith, sided_above J leb own plain_order spot.fit (other d) k d o (get_or positions a 0) t s l, rising (a - 1) t s h l))

  -- the flags cover the start over the cell before it along the line, and over the one before it in the other direction
  source_figure : (xs : List ℕ) → Outside line.at (line.at + words) old xs → (s : ℕ) → s < words → held xs source s ≡ P s
  source_figure xs out s h = held_kept _ _ old xs out source s (omega arith) ∙ spot.from.figures s h

  along_figure : (xs : List ℕ) → Outside line.at (line.at + words) old xs → (s : ℕ) → s < words → held xs (line.at - line.stride) s ≡ F (a - 1) s
  along_figure xs out s h = held_kept _ _ old xs out (line.at - line.stride) s (omega (arith, along_before)) ∙ along_made.figures s h

  across_figure : (xs : List ℕ) → Outside line.at (line.at + words) old xs → (s : ℕ) → s < words → held xs across s ≡ B s
  across_figure xs out s h = held_kept _ _ old xs out across s (omega arith) ∙ spot.next_to s h

  covers_along : Covers leb words (Flagged steps.t4 line.at) (held steps.t4 line.at) (F (a - 1))
  covers_along = start_covers leb words (Listed old source words) (Flagged steps.t4 line.at) P (F (a - 1)) (sided J leb own (other d) k d o (get_or positions (a - 1) 0)) (held steps.t4 line.at)
      same (λ s. sided_prior J leb own plain_order spot.fit k d o (get_or positions (a - 1) 0) s) (rising (a - 1))
      (λ t h l m. steps.third.kept t h (steps.second.kept t h (steps.first.flags t (listed_kept _ _ old steps.t1 steps.started.rest source words t spot.before l)
      (omega (arith, source_figure steps.t1 steps.started.rest t h, along_figure steps.t1 steps.started.rest t h)))))
      spot.from.first

  covers_across : Covers leb words (Flagged steps.t4 line.at) (held steps.t4 line.at) B
  covers_across = either_covers words (Listed old source words) (Listed old (line.at - line.stride) words) (Flagged steps.t4 line.at) P (F (a - 1)) B (sided J leb own (other d) k d o' (get_or positions a 0)) (sided J leb own d (suc k) d o' (get_or positions (a - 1) 0)) (held steps.t4 line.at)
      same (λ s. sided_prior J leb own plain_order spot.fit k d o' (get_or positions a 0) s) (λ s. sided_larger J leb own plain_order spot.fit d (suc k) d o' o' (get_or positions (a - 1) 0) (get_or positions a 0) s (omega arith) shorter)
      (λ t s h l. sided_above J leb own plain_order spot.fit d (suc k) d o' (get_or positions a 0) t s l)
      (λ t h l m. steps.third.kept t h (steps.second.flags t (listed_kept _ _ old steps.t2 o2 source words t spot.before l) (omega (arith, source_figure steps.t2 o2 t h, across_figure steps.t2 o2 t h))))
      (λ t h l m. steps.third.flags t (listed_kept _ _ old steps.t3 o3 (line.at - line.stride) words t along_before l) (omega (arith, along_figure steps.t3 o3 t h, across_figure steps.t3 o3 t h)))
      spot.from.second along_made.second

  -- the cuts
  line_figures : (j s : ℕ) → j < a → s < words → held steps.t4 (line.base + j * line.stride) s ≡ F j s
  line_figures j s h l = (made_kept (spot.earlier j h) o4 (spot.cells j h)).figures s l

  line_covers : (j : ℕ) → j < a → Covers leb words (Served 0 line.skip steps.t4 (line.base + j * line.stride) words) (F j) (F (j - 1))
  line_covers j h = covers_more leb words (Listed steps.t4 (line.base + j * line.stride) words) (Served 0 line.skip steps.t4 (line.base + j * line.stride) words) (F j) (F (j - 1)) (λ t l m. (m, λ k. absurd (omega (arith, k)))) (made_kept (spot.earlier j h) o4 (spot.cells j h)).first

  sound : Low (F a) line.at words steps.t5
  sound = side_low J leb plain_order spot.fit d count positions floors spot.given (sided J leb own d (suc k) d o) (sided_joins J leb own plain_order spot.fit k d o) 0 line.skip a line.half_end line.base line.stride line.at words steps.t4 steps.t5 spot.inside.1 spot.half line_figures line_covers steps.taken
      (λ s h. omega (arith, same s h, sided_prior J leb own plain_order spot.fit k d o (get_or positions a 0) s, sided_larger J leb own plain_order spot.fit d (suc k) d o o (get_or positions (a - 1) 0) (get_or positions a 0) s (omega arith) shorter))

  rises : Rises leb words (held steps.t5 line.at)
  rises = steps.taken.grown.rises start_rising

  full : (s : ℕ) → s < words → F a s ≤ held steps.t5 line.at s
  full s h = block_complete J leb own plain_order spot.fit k d count positions floors spot.given o a line.half_end s (held steps.t5 line.at s) spot.inside.1 spot.on spot.half
      (omega (arith, same s h, steps.taken.grown.more s h))
      (side_taken J leb plain_order spot.fit d count positions floors spot.given (sided J leb own d (suc k) d o) (sided_joins J leb own plain_order spot.fit k d o) 0 line.skip a line.half_end line.base line.stride line.at words steps.t4 steps.t5 spot.inside.1 spot.half line_figures line_covers steps.taken
      s (held steps.t5 line.at s) h (omega (arith, same s h, steps.taken.grown.more s h)) (λ t m. rises t s h m))

  figures : (s : ℕ) → s < words → held steps.t5 line.at s ≡ F a s
  figures s h = omega (arith, sound s h, full s h)

  first_covers : Covers leb words (Flagged steps.t5 line.at) (F a) (F (a - 1))
  first_covers = covers_same leb words _ _ _ _ figures (steps.taken.grown.covers (F (a - 1)) start_rising covers_along)

  pub later_made : Made words line.at (F a) (F (a - 1)) B new
  later_made = made_done steps.done figures (rising (a - 1)) (λ t s h l. sided_above J leb own plain_order spot.fit d (suc k) d o' (get_or positions a 0) t s l) first_covers (covers_same leb words _ _ _ _ figures (steps.taken.grown.covers B start_rising covers_across))

  pub later_level : flat ≤ words → Level words flat (F (a - 1)) → Levelled words flat next (F a)
  later_level most level = levelled most steps.flat_is (rising a) (λ s. sided_larger J leb own plain_order spot.fit d (suc k) d o o (get_or positions (a - 1) 0) (get_or positions a 0) s (omega arith) shorter)
      (start_topped source (line.at - line.stride) line.at words old steps.t1 steps.started steps.topped) first_covers level

-- the place of a cell without a cut: the cells before it in length and in width are made
pub record Uncut (J : Job) (own : ℕ → ℕ) (e : Direction) (length_count columns : ℕ) (normal_lengths length_floors normal_widths width_floors : List ℕ) (a b at stride words : ℕ) (xs : List ℕ) : Type 0 where
  pub fit : InTableRange J
  pub lengths : Positions J Length length_count normal_lengths length_floors
  pub widths : Positions J Width columns normal_widths width_floors
  pub length_in : (1 ≤ a) × (a < length_count)
  pub width_in : (1 ≤ b) × (b < columns)
  pub above : at - stride + words ≤ at
  pub beside : at - words + words ≤ at
  pub shorter : Made words (at - stride) (block_at J leb own 0 e (get_or normal_lengths (a - 1) 0) (get_or normal_widths b 0)) (block_at J leb own 0 e (get_or normal_lengths (a - 1 - 1) 0) (get_or normal_widths b 0)) (block_at J leb own 0 e (get_or normal_lengths (a - 1) 0) (get_or normal_widths (b - 1) 0)) xs
  pub narrower : Made words (at - words) (block_at J leb own 0 e (get_or normal_lengths a 0) (get_or normal_widths (b - 1) 0)) (block_at J leb own 0 e (get_or normal_lengths (a - 1) 0) (get_or normal_widths (b - 1) 0)) (block_at J leb own 0 e (get_or normal_lengths a 0) (get_or normal_widths (b - 1 - 1) 0)) xs

module _ {J : Job} {own : ℕ → ℕ} {e : Direction} {length_count columns : ℕ} {normal_lengths length_floors normal_widths width_floors : List ℕ} {a b at stride words : ℕ} {old : List ℕ} (spot : Uncut J own e length_count columns normal_lengths length_floors normal_widths width_floors a b at stride words old)
    {flat next : ℕ} {new : List ℕ} (steps : UncutSteps J own J.count words stride at (get_or normal_lengths a 0) (get_or normal_widths b 0) flat next old new) where
  -- the figure of entry i of the lengths and entry j of the widths
  abbrev C : ℕ → ℕ → ℕ → ℕ
  C i j s = block_at J leb own 0 e (get_or normal_lengths i 0) (get_or normal_widths j 0) s

  rising_cell : (i j : ℕ) → Rises leb words (C i j)
  rising_cell i j t s h l = block_above J leb own plain_order spot.fit 0 e (get_or normal_lengths i 0) (get_or normal_widths j 0) t s l

  less_long : get_or normal_lengths (a - 1) 0 ≤ get_or normal_lengths a 0
  less_long = omega (arith, (positions_axis J Length length_count normal_lengths length_floors spot.fit spot.lengths).rise (a - 1) a (omega (arith, spot.length_in.0)) spot.length_in.1)

  less_wide : get_or normal_widths (b - 1) 0 ≤ get_or normal_widths b 0
  less_wide = omega (arith, (positions_axis J Width columns normal_widths width_floors spot.fit spot.widths).rise (b - 1) b (omega (arith, spot.width_in.0)) spot.width_in.1)

  longer : (j s : ℕ) → C (a - 1) j s ≤ C a j s
  longer j s = block_larger J leb own plain_order spot.fit 0 e (get_or normal_lengths (a - 1) 0) (get_or normal_widths j 0) (get_or normal_lengths a 0) (get_or normal_widths j 0) s less_long (omega arith)

  wider : (i s : ℕ) → C i (b - 1) s ≤ C i b s
  wider i s = block_larger J leb own plain_order spot.fit 0 e (get_or normal_lengths i 0) (get_or normal_widths (b - 1) 0) (get_or normal_lengths i 0) (get_or normal_widths b 0) s (omega arith) less_wide

  out2 : Outside at (at + words) old steps.t2
  out2 = outside_chain _ _ _ _ _ steps.started.rest steps.first.rest

  out3 : Outside at (at + words) old steps.t3
  out3 = outside_chain _ _ _ _ _ out2 steps.second.rest

  pub uncut_rest : Outside at (at + words) old new
  uncut_rest = outside_chain _ _ _ _ _ (outside_chain _ _ _ _ _ out3 steps.placed.grown.rest) steps.done.rest

  begun : (s : ℕ) → s < words → held steps.t3 at s ≡ max (C (a - 1) b s) (C a (b - 1) s)
  begun s h = steps.second.same s h ∙ (steps.first.same s h ∙ (started (at - stride) (at - words) at words old steps.t1 steps.started s h ∙ ap₂ max (spot.shorter.figures s h) (spot.narrower.figures s h)))

  begun_rises : Rises leb words (held steps.t3 at)
  begun_rises = rises_same begun (λ t s h l. omega (arith, rising_cell (a - 1) b t s h l, rising_cell a (b - 1) t s h l))

  -- the flags cover the start over both cells before
  shorter_figure : (xs : List ℕ) → Outside at (at + words) old xs → (s : ℕ) → s < words → held xs (at - stride) s ≡ C (a - 1) b s
  shorter_figure xs out s h = held_kept _ _ old xs out (at - stride) s (omega (arith, spot.above)) ∙ spot.shorter.figures s h

  narrower_figure : (xs : List ℕ) → Outside at (at + words) old xs → (s : ℕ) → s < words → held xs (at - words) s ≡ C a (b - 1) s
  narrower_figure xs out s h = held_kept _ _ old xs out (at - words) s (omega (arith, spot.beside)) ∙ spot.narrower.figures s h

  covers_shorter : Covers leb words (Flagged steps.t3 at) (held steps.t3 at) (C (a - 1) b)
  covers_shorter = start_covers leb words (Listed old (at - words) words) (Flagged steps.t3 at) (C a (b - 1)) (C (a - 1) b) (C (a - 1) (b - 1)) (held steps.t3 at)
      (λ s h. omega (arith, begun s h)) (λ s. wider (a - 1) s) (rising_cell (a - 1) b)
      (λ t h l m. steps.second.kept t h (steps.first.flags t (listed_kept _ _ old steps.t1 steps.started.rest (at - words) words t spot.beside l)
      (omega (arith, shorter_figure steps.t1 steps.started.rest t h, narrower_figure steps.t1 steps.started.rest t h))))
      spot.narrower.first

  covers_narrower : Covers leb words (Flagged steps.t3 at) (held steps.t3 at) (C a (b - 1))
  covers_narrower = start_covers leb words (Listed old (at - stride) words) (Flagged steps.t3 at) (C (a - 1) b) (C a (b - 1)) (C (a - 1) (b - 1)) (held steps.t3 at)
      (λ s h. omega (arith, begun s h)) (λ s. longer (b - 1) s) (rising_cell a (b - 1))
      (λ t h l m. steps.second.flags t (listed_kept _ _ old steps.t2 out2 (at - stride) words t spot.above l) (omega (arith, shorter_figure steps.t2 out2 t h, narrower_figure steps.t2 out2 t h)))
      spot.shorter.second

  -- the pieces of its size
  placed_rises : Rises leb words (held steps.t4 at)
  placed_rises = steps.placed.grown.rises begun_rises

  uncut_low : Low (C a b) at words steps.t4
  uncut_low = steps.placed.low (C a b) (rising_cell a b)
      (λ i h l m k. block_single J leb own plain_order spot.fit e (upright i) (get_or normal_lengths a 0) (get_or normal_widths b 0) (own i) (table_lies J spot.fit i h) (omega arith) (omega arith) (plain_order.same (own i)))
      (λ s h. omega (arith, begun s h, longer b s, wider a s))

  uncut_full : (s : ℕ) → s < words → C a b s ≤ held steps.t4 at s
  uncut_full s h = omega (
    arith,
    block_uncut J leb own plain_order spot.fit e (get_or normal_lengths a 0) (get_or normal_widths b 0) s,
    singles J leb own plain_order spot.fit length_count columns normal_lengths length_floors normal_widths width_floors spot.lengths spot.widths (block_at J leb own 0 e) (block_single J leb own plain_order spot.fit e) a b s (held steps.t4 at s)
        spot.length_in.1 spot.width_in.1 (omega (arith, begun s h, steps.placed.grown.more s h)) (omega (arith, begun s h, steps.placed.grown.more s h))
        (λ i l m k z. (let v : own i < words = omega (arith, leb→le (own i) s z) in omega (arith, steps.placed.taken i l m k v, placed_rises (own i) s h z))),
  )

  uncut_figures : (s : ℕ) → s < words → held steps.t4 at s ≡ C a b s
  uncut_figures s h = omega (arith, uncut_low s h, uncut_full s h)

  uncut_first : Covers leb words (Flagged steps.t4 at) (C a b) (C (a - 1) b)
  uncut_first = covers_same leb words _ _ _ _ uncut_figures (steps.placed.grown.covers (C (a - 1) b) begun_rises covers_shorter)

  pub uncut_made : Made words at (C a b) (C (a - 1) b) (C a (b - 1)) new
  uncut_made = made_done steps.done uncut_figures (rising_cell (a - 1) b) (rising_cell a (b - 1)) uncut_first (covers_same leb words _ _ _ _ uncut_figures (steps.placed.grown.covers (C a (b - 1)) begun_rises covers_narrower))

  pub uncut_level : flat ≤ words → Level words flat (C (a - 1) b) → Levelled words flat next (C a b)
  uncut_level most level = levelled most steps.flat_is (rising_cell a b) (λ s. longer b s) (start_topped (at - stride) (at - words) at words old steps.t1 steps.started steps.topped) uncut_first level
