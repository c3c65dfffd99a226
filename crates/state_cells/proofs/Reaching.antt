-- The states in reach: past twice the state from which on the figures of its parts are the same, a cell's figures are the same. So it is
-- made at the states up to there, from cells whose lists are short, and the words past them are written once.
use Rattle.state_cells.proofs.Prelude.{◌≡◌, refl, sym, ◌∙◌, ap, ◌⊎◌, inl, inr, Bool, List, [], ◌∷◌, ℕ, ◌+◌, ◌-◌, ◌*◌, ◌≤◌, ◌<◌, min, dec_le, arith, T, get_or, Direction, Length, Width, upright, Job, InTableRange, table_lies, position_count, Positions, Outside, Run, Half, remainder, half_parts, positions_axis, below, Order, Covers, figure_in, note_in, held, note, under, Rises, cell, Marked, Level, Levelled, tabled, reach_of, MadeTo, Made, Spot, SpotTo, figure_plain, note_plain, across, across_joins, piece_most, Joins, along, complete, order_of, under_zero, one_digit}
use Rattle.state_cells.proofs.Making.{made_to_same, rising, longer, wider}

-- a state no later than `flat` at which figures that are the same from there on are those of state e
lower : {words flat : ℕ} (f : ℕ → ℕ) → Level words flat f → (e : ℕ) → e < words → (t : ℕ) × (t ≤ flat) × (f e ≡ f t)
lower {words} {flat} f level e h = go (dec_le flat e)
  where
    go : Dec (flat ≤ e) → (t : ℕ) × (t ≤ flat) × (f e ≡ f t)
    go (yes k) = (flat, omega arith, level e k h)
    go (no k) = (e, omega arith, refl)

-- the cuts of one side give no more than the whole has at twice the state from which on the parts' figures are the same
module _ (J : Job) (le : ℕ → ℕ → Bool) (order : Order le) (plain : (t s : ℕ) → t ≤ s → T (le t s)) (fit : InTableRange J) (d : Direction) (count : ℕ) (positions floors : List ℕ) (given : Positions J d count positions floors)
    (h : ℕ → ℕ → ℕ) (joins : Joins le h) (a half_end words flat : ℕ) (ha : a < count) (half : Half positions a half_end) (level : (i : ℕ) → i < a → Level words flat (h (get_or positions i 0))) where
  side_level : (s : ℕ) → s < words → (i : ℕ) → 1 ≤ i → i < half_end → (e m : ℕ) → T (le e (e + m)) → e + m ≡ s
      → h (get_or positions i 0) e + h (get_or positions (remainder positions floors a i) 0) m ≤ h (get_or positions a 0) (2 * flat)
  side_level s hs i l k e m c sum =
      let q = half_parts positions floors count (positions_axis J d count positions floors fit given) a half_end i ha half l k in
      let x = lower (h (get_or positions i 0)) (level i (omega (arith, half.most))) e (omega arith) in
      let y = lower (h (get_or positions (remainder positions floors a i) 0)) (level (remainder positions floors a i) q.0) m (omega arith) in
      omega (
        arith,
        x.2,
        y.2,
        (along J le order fit d count positions floors given h joins).sums i (remainder positions floors a i) a x.0 y.0 (omega (arith, half.most)) (omega (arith, q.0)) ha q.1 (plain x.0 (x.0 + y.0) (omega arith)),
        joins.above (get_or positions a 0) (x.0 + y.0) (2 * flat) (plain (x.0 + y.0) (2 * flat) (omega (arith, x.1, y.1))),
      )

-- what covers figures at all states covers them at the first n
covers_part : (le : ℕ → ℕ → Bool) {n words : ℕ} {some more : ℕ → Type 0} {f g : ℕ → ℕ} → ((t s : ℕ) → T (le t s) → t ≤ s) → n ≤ words → ((t : ℕ) → some t → more t) → Covers le words some f g → Covers le n more f g
covers_part le {n} {words} {some} {more} {f} {g} less h has c s l = go (c s (omega arith))
  where
    go : (f s ≤ g s) ⊎ ((t : ℕ) × (t < words) × T (le t s) × some t × (f s ≤ f t)) → (f s ≤ g s) ⊎ ((t : ℕ) × (t < n) × T (le t s) × more t × (f s ≤ f t))
    go (inl x) = inl x
    go (inr x) = inr (x.0, omega (arith, less x.0 s x.2), x.2, has x.0 x.3, x.4)

-- what covers figures at the first n states covers them at all, where the figures past these are the same
covers_all : (le : ℕ → ℕ → Bool) {n words : ℕ} {some more : ℕ → Type 0} {f g : ℕ → ℕ} → ((t s : ℕ) → t ≤ s → T (le t s)) → 1 ≤ n → n ≤ words → Rises le words g → ((s : ℕ) → n ≤ s → s < words → f s ≡ f (n - 1)) → ((t : ℕ) → some t → more t)
    → Covers le n some f g → Covers le words more f g
covers_all le {n} {words} {some} {more} {f} {g} plain one h rises same has c s l = go (dec_le n s)
  where
    here : (f s ≤ g s) ⊎ ((t : ℕ) × (t < n) × T (le t s) × some t × (f s ≤ f t)) → (f s ≤ g s) ⊎ ((t : ℕ) × (t < words) × T (le t s) × more t × (f s ≤ f t))
    here (inl x) = inl x
    here (inr x) = inr (x.0, omega (arith, x.1), x.2, has x.0 x.3, x.4)

    past : n ≤ s → (f (n - 1) ≤ g (n - 1)) ⊎ ((t : ℕ) × (t < n) × T (le t (n - 1)) × some t × (f (n - 1) ≤ f t)) → (f s ≤ g s) ⊎ ((t : ℕ) × (t < words) × T (le t s) × more t × (f s ≤ f t))
    past k (inl x) = inl (omega (arith, x, same s k l, rises (n - 1) s l (plain (n - 1) s (omega arith))))
    past k (inr x) = inr (x.0, omega (arith, x.1), plain x.0 s (omega (arith, x.1)), has x.0 x.3, omega (arith, same s k l, x.4))

    go : Dec (n ≤ s) → (f s ≤ g s) ⊎ ((t : ℕ) × (t < words) × T (le t s) × more t × (f s ≤ f t))
    go (yes k) = past k (c (n - 1) (omega arith))
    go (no k) = here (c s (omega arith))

-- a cell that is made is made at the states in reach
made_part : {J : Job} {le : ℕ → ℕ → Bool} {own : ℕ → ℕ} {normal_lengths normal_widths : List ℕ} {words flat i j : ℕ} {xs : List ℕ} → ((t s : ℕ) → T (le t s) → t ≤ s) → reach_of flat ≤ words
    → Made J le own normal_lengths normal_widths words flat i j xs → MadeTo J le own normal_lengths normal_widths words (reach_of flat) i j xs
made_part {J} {le} {own} {normal_lengths} {normal_widths} {words} {flat} {i} {j} {xs} less h w = record {
  figures = λ s l. w.all.figures s (omega arith);
  notes = λ k l. (w.short k (omega arith)).0;
  ended = λ x k l m z. w.all.ended x k l (omega arith) z;
  sorted = λ x k l m z. w.all.sorted x k l (omega arith) z;
  longer = covers_part le less h (in_reach 2) w.all.longer;
  wider = covers_part le less h (in_reach 1) w.all.wider;
}
  where
    in_reach : (skip t : ℕ) → Marked skip xs (cell J words i j) words t → Marked skip xs (cell J words i j) (reach_of flat) t
    in_reach skip t m = go (dec_le (reach_of flat) m.0)
      where
        go : Dec (reach_of flat ≤ m.0) → Marked skip xs (cell J words i j) (reach_of flat) t
        go (yes k) = absurd (omega (arith, (w.short m.0 m.1).1 k, m.2.0))
        go (no k) = (m.0, omega arith, m.2)

-- a cell that is made at the states below n is made where the rest of its words are written, the same figure each
module _ {J : Job} {le : ℕ → ℕ → Bool} {own : ℕ → ℕ} {normal_lengths normal_widths : List ℕ} {words n : ℕ} (flat : ℕ) {a b v : ℕ} {old new : List ℕ} (plain : (t s : ℕ) → t ≤ s → T (le t s)) (one : 1 ≤ n) (h : n ≤ words) (short : n ≤ reach_of flat)
    (rises : (i j : ℕ) → Rises le words (tabled J le own normal_lengths normal_widths i j)) (same : (s : ℕ) → n ≤ s → s < words → tabled J le own normal_lengths normal_widths a b s ≡ tabled J le own normal_lengths normal_widths a b (n - 1))
    (small : v < 2199023255552) (v_is : v ≡ held old (cell J words a b) (n - 1)) (run : Run (λ j. v) (cell J words a b + n) (words - n) old new) (w : MadeTo J le own normal_lengths normal_widths words n a b old) where
  kept : (s : ℕ) → s < n → get_or new (cell J words a b + s) 0 ≡ get_or old (cell J words a b + s) 0
  kept s l = run.rest.before (cell J words a b + s) (omega arith)

  written : (s : ℕ) → n ≤ s → s < words → get_or new (cell J words a b + s) 0 ≡ v
  written s k l = let e : cell J words a b + n + (s - n) ≡ cell J words a b + s = omega arith in rw e at (run.here (s - n) (omega arith))

  unnoted : (k : ℕ) → n ≤ k → k < words → note new (cell J words a b) k ≡ 0
  unnoted k m l = ap note_in (written k m l) ∙ note_plain v small

  to_n : MadeTo J le own normal_lengths normal_widths words n a b new
  to_n = made_to_same kept w

  pub made_all : Made J le own normal_lengths normal_widths words flat a b new
  made_all = record {
    all = record {
      figures = λ s l. figure s l (dec_le n s);
      notes = λ k l. noted k l (dec_le n k);
      ended = λ j k l m z. end j k l m z (dec_le n k);
      sorted = λ j k l m z. sort j k l m z (dec_le n k);
      longer = covers_all le plain one h (rises (a - 1) b) same (λ t m. (m.0, omega (arith, m.1), m.2)) to_n.longer;
      wider = covers_all le plain one h (rises a (b - 1)) same (λ t m. (m.0, omega (arith, m.1), m.2)) to_n.wider;
    };
    short = λ k l. (within k l (dec_le n k), λ m. unnoted k (omega arith) l);
  }
    where
      figure : (s : ℕ) → s < words → Dec (n ≤ s) → held new (cell J words a b) s ≡ tabled J le own normal_lengths normal_widths a b s
      figure s l (yes k) = ap figure_in (written s k l) ∙ (figure_plain v small ∙ (v_is ∙ (w.figures (n - 1) (omega arith) ∙ sym (same s k l))))
      figure s l (no k) = to_n.figures s (omega arith)

      noted : (k : ℕ) → k < words → Dec (n ≤ k) → note new (cell J words a b) k ≤ words
      noted k l (yes m) = omega (arith, unnoted k m l)
      noted k l (no m) = omega (arith, to_n.notes k (omega arith))

      end : (j k : ℕ) → j ≤ k → k < words → note new (cell J words a b) j ≡ 0 → Dec (n ≤ k) → note new (cell J words a b) k ≡ 0
      end j k l m z (yes q) = unnoted k q m
      end j k l m z (no q) = to_n.ended j k l (omega arith) z

      sort : (j k : ℕ) → j ≤ k → k < words → 1 ≤ note new (cell J words a b) k → Dec (n ≤ k) → note new (cell J words a b) j ≤ note new (cell J words a b) k
      sort j k l m z (yes q) = absurd (omega (arith, unnoted k q m))
      sort j k l m z (no q) = to_n.sorted j k l (omega arith) z

      within : (k : ℕ) → k < words → Dec (n ≤ k) → note new (cell J words a b) k ≤ reach_of flat
      within k l (yes m) = omega (arith, unnoted k m l)
      within k l (no m) = omega (arith, to_n.notes k (omega arith))

-- figures that are the same from a state on, of the first n, are so of all where those past n are the same
pub levelled_all : {words n flat high : ℕ} {f : ℕ → ℕ} → 1 ≤ n → n ≤ words → ((s : ℕ) → n ≤ s → s < words → f s ≡ f (n - 1)) → Levelled n flat high f → Levelled words flat high f
levelled_all {words} {n} {flat} {high} {f} one h same w = record { more = w.more; most = omega (arith, w.most); level = λ s k l. go s k l (dec_le n s) (dec_le n high) }
  where
    go : (s : ℕ) → high ≤ s → s < words → Dec (n ≤ s) → Dec (n ≤ high) → f s ≡ f high
    go s k l (no m) q = w.level s k (omega arith)
    go s k l (yes m) (yes q) = same s m l ∙ sym (same high q (omega arith))
    go s k l (yes m) (no q) = same s m l ∙ w.level (n - 1) (omega arith) (omega arith)

-- the number of states that a cell is made at, where there are more
pub reach_is : {r : ℕ} (words flat : ℕ) → r ≡ min words (reach_of flat) → r < words → (r ≡ reach_of flat) × (reach_of flat < words)
reach_is words flat e h = (omega arith, omega arith)

module _ {J : Job} {own : ℕ → ℕ} {normal_lengths length_floors normal_widths width_floors blocks : List ℕ} {d words stride a b length_half_end width_half_end at column flat : ℕ} {t0 : List ℕ} (spot : Spot J own normal_lengths length_floors normal_widths width_floors blocks d words stride a b length_half_end width_half_end at column flat t0) where
  -- the place for all states
  pub spot_whole : SpotTo J own normal_lengths length_floors normal_widths width_floors blocks d words words stride a b length_half_end width_half_end at column flat t0
  spot_whole = record {
    range = spot.lent.range;
    digits = spot.lent.digits;
    lengths = spot.lent.lengths;
    widths = spot.lent.widths;
    room = spot.lent.room;
    within = omega arith;
    length_in = spot.length_in;
    width_in = spot.width_in;
    length_half = spot.length_half;
    width_half = spot.width_half;
    stride_is = spot.stride_is;
    at_is = spot.at_is;
    column_is = spot.column_is;
    column_cells = λ i h. (spot.rows i b h spot.width_in.1 (omega (arith, spot.width_in.0))).all;
    row_cells = λ j h. (spot.cells j h).all;
    summed = spot.summed;
    flat_most = spot.flat_state.most;
    level_shorter = spot.level_rows (a - 1) b (omega (arith, spot.length_in.0)) spot.width_in.1;
    level_narrower = spot.level_cells (b - 1) (omega (arith, spot.width_in.0));
  }

  abbrev F : ℕ → ℕ → ℕ → ℕ
  F i j s = tabled J (under blocks d) own normal_lengths normal_widths i j s

  order : Order (under blocks d)
  order = order_of blocks d words spot.lent.digits

  -- where a state is out of reach, states have one digit
  pub one_of : reach_of flat < words → d ≡ 0
  one_of h = go (dec_le 1 d)
    where
      go : Dec (1 ≤ d) → d ≡ 0
      go (yes k) = absurd (omega (arith, spot.flat_state.several k))
      go (no k) = omega arith

  module _ (far : reach_of flat < words) where
    plain : (t s : ℕ) → t ≤ s → T (under blocks d t s)
    plain = under_zero blocks d (one_of far)

    -- no figure of the cell is above the one at twice the state from which on those of the cells before it are the same
    reach_most : (s : ℕ) → 2 * flat ≤ s → s < words → F a b s ≤ F a b (2 * flat)
    reach_most s h l = complete J (under blocks d) own order spot.lent.range (position_count J Length) (position_count J Width) normal_lengths length_floors normal_widths width_floors spot.lent.lengths spot.lent.widths a b s (F a b (2 * flat)) spot.length_in.1 spot.width_in.1
        (omega (arith, spot.level_rows (a - 1) b (omega (arith, spot.length_in.0)) spot.width_in.1 s (omega arith) l, rising spot_whole (a - 1) b flat (2 * flat) (omega arith) (plain flat (2 * flat) (omega arith)), longer spot_whole (a - 1) a b (2 * flat) (omega arith) spot.length_in.1))
        (omega (arith, spot.level_cells (b - 1) (omega (arith, spot.width_in.0)) s (omega arith) l, rising spot_whole a (b - 1) flat (2 * flat) (omega arith) (plain flat (2 * flat) (omega arith)), wider spot_whole a (b - 1) b (2 * flat) (omega arith) spot.width_in.1))
        (λ i k e f m. (let own_low = spot.flat_state.weighed i k (omega (arith, order.less (own i) s m)) in
        omega (arith, piece_most J (under blocks d) own order spot.lent.range (upright i) (get_or normal_lengths a 0) (get_or normal_widths b 0) (own i) (table_lies J spot.lent.range i k) (omega arith) (omega arith) (order.same (own i)), rising spot_whole a b (own i) (2 * flat) (omega arith) (plain (own i) (2 * flat) (omega arith)))))
        length_half_end width_half_end spot.length_half spot.width_half
        (side_level J (under blocks d) order plain spot.lent.range Length (position_count J Length) normal_lengths length_floors spot.lent.lengths (across J (under blocks d) own Length (get_or normal_widths b 0)) (across_joins J (under blocks d) own order spot.lent.range Length (get_or normal_widths b 0)) a length_half_end words flat spot.length_in.1 spot.length_half
        (λ i k. spot.level_rows i b k spot.width_in.1) s l)
        (side_level J (under blocks d) order plain spot.lent.range Width (position_count J Width) normal_widths width_floors spot.lent.widths (across J (under blocks d) own Width (get_or normal_lengths a 0)) (across_joins J (under blocks d) own order spot.lent.range Width (get_or normal_lengths a 0)) b width_half_end words flat spot.width_in.1 spot.width_half
        spot.level_cells s l)

    -- so they are the same past there
    pub reach_same : (s : ℕ) → reach_of flat ≤ s → s < words → F a b s ≡ F a b (reach_of flat - 1)
    reach_same s h l = let e : reach_of flat - 1 ≡ 2 * flat = omega arith in rw e (omega (arith, reach_most s (omega arith) l, rising spot_whole a b (2 * flat) s l (plain (2 * flat) s (omega arith))))

    -- one digit's order is the same for any number of states
    same_order : under (reach_of flat ∷ []) d ≡ under blocks d
    unfolding below
    same_order = rw (one_of far) refl

    -- the place for the states in reach
    pub spot_part : SpotTo J own normal_lengths length_floors normal_widths width_floors (reach_of flat ∷ []) d words (reach_of flat) stride a b length_half_end width_half_end at column flat t0
    spot_part = record {
      range = spot.lent.range;
      digits = rw (one_of far) (one_digit (reach_of flat) (omega arith) (omega (arith, spot.lent.digits.most)));
      lengths = spot.lent.lengths;
      widths = spot.lent.widths;
      room = spot.lent.room;
      within = omega arith;
      length_in = spot.length_in;
      width_in = spot.width_in;
      length_half = spot.length_half;
      width_half = spot.width_half;
      stride_is = spot.stride_is;
      at_is = spot.at_is;
      column_is = spot.column_is;
      column_cells = λ i h. rw same_order (made_part order.less (omega arith) (spot.rows i b h spot.width_in.1 (omega (arith, spot.width_in.0))));
      row_cells = λ j h. rw same_order (made_part order.less (omega arith) (spot.cells j h));
      summed = record { before = λ h. absurd (omega (arith, one_of far)); sums = λ h. absurd (omega (arith, one_of far)) };
      flat_most = omega arith;
      level_shorter = λ s h l. rw same_order (spot.level_rows (a - 1) b (omega (arith, spot.length_in.0)) spot.width_in.1 s h (omega arith));
      level_narrower = λ s h l. rw same_order (spot.level_cells (b - 1) (omega (arith, spot.width_in.0)) s h (omega arith));
    }

    -- the cell made there, with the rest of its words written
    pub spot_made : {n v high : ℕ} {t1 t2 : List ℕ} → n ≡ reach_of flat → v < 2199023255552 → v ≡ held t1 at (n - 1) → Run (λ j. v) (at + n) (words - n) t1 t2
        → MadeTo J (under (n ∷ []) d) own normal_lengths normal_widths words n a b t1 → Outside at (at + n) t0 t1 → Levelled n flat high (tabled J (under (n ∷ []) d) own normal_lengths normal_widths a b)
        → Made J (under blocks d) own normal_lengths normal_widths words high a b t2 × Outside at (at + words) t0 t2 × Levelled words flat high (F a b)
    spot_made {n} {v} {high} {t1} {t2} e small v_is run made o level = (
      made_all high plain (omega arith) (omega arith) (omega (arith, level.more)) (rising spot_whole) (λ s h l. rw e (reach_same s (omega arith) l)) small (rw spot.at_is at v_is) (rw spot.at_is at run) (rw ordered at made),
      record { before = λ i h. run.rest.before i (omega arith) ∙ o.before i h; after = λ i h. run.rest.after i (omega arith) ∙ o.after i (omega arith) },
      levelled_all (omega arith) (omega arith) (λ s h l. rw e (reach_same s (omega arith) l)) (rw ordered at level),
    )
      where
        ordered : under (n ∷ []) d ≡ under blocks d
        ordered = rw e same_order
