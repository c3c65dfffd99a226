-- The figures along one side of a plate, and what makes a cell complete at a state: the cells before it, the kinds of exactly its size,
-- and the cuts of its sides up to the half give its figure.
use Rattle.table.proofs.Prelude.{◌≡◌, refl, sym, ◌∙◌, ap, subst, Bool, ◌&&◌, List, List-as-Memᴰ, ℕ, ◌+◌, ◌-◌, ◌*◌, ◌/◌, ◌≤◌, ◌<◌, ℕ_discrete, dec_le, arith, T, get_or, Direction, Length, Width, range, only, filter, greatest, side, Piece, kind, fits_in, Job, laid, MayLie, members, normal_side, normal_floor, InTableRange, only_positive, T_and, mem_range, mem_filter, member_lies, member_kind, table_upright, greatest_le, true_fits_in, sides_suffice, positions_first, positions_entry, positions_normal, Positions, Half, remainder, by_state, Order, figure_at, Covers}
use Rattle.table.proofs.Halves.{half_parts}
use Rattle.table.proofs.Figures.{entry_is, entry_side, positions_axis, between}
use Rattle.table.proofs.Shares.{split_state}
use Rattle.table.proofs.Covered.{Joins, more_along, Along, covered}
use Rattle.table.proofs.Across.{across, across_joins, piece_most, state_half}

-- values h along one side of a plate
module _ (J : Job) (le : ℕ → ℕ → Bool) (order : Order le) (fit : InTableRange J) (d : Direction) (count : ℕ) (positions floors : List ℕ) (given : Positions J d count positions floors) (h : ℕ → ℕ → ℕ) (joins : Joins le h) where
  rise : (i j : ℕ) → i < j → j < count → get_or positions i 0 < get_or positions j 0
  rise = (positions_axis J d count positions floors fit given).rise

  normal_entry : (i : ℕ) → i < count → T (normal_side J d (get_or positions i 0))
  normal_entry i h = subst (λ x. T (normal_side J d x)) (sym (entry_is J d count positions floors fit given i h)) (positions_normal J d i (omega (arith, given.counted))).0

  pub along : Along le positions count (λ i s. h (get_or positions i 0) s)
  along = record {
    above = λ i t s z l. joins.above (get_or positions i 0) t s l;
    sums = λ i j a k m hi hj ha l c. omega (arith, joins.parts (get_or positions i 0) (get_or positions j 0) k m c, more_along le order h joins (get_or positions i 0 + get_or positions j 0) (get_or positions a 0) (k + m) l);
    closed = λ i j a hi hj ha l. between J d count positions floors fit given (get_or positions i 0 + get_or positions j 0) a ha (((sides_suffice J).additive d).1 (get_or positions i 0) (get_or positions j 0) (normal_entry i hi) (normal_entry j hj)) l;
    rise = rise;
  }

  -- no cut up to half of entry a gives more than g at state s, if none does whose parts make up the whole, at states that cover its parts
  -- over the entries before them
  pub side_covered : (a half_end s g n : ℕ) (some : ℕ → ℕ → Type 0) → a < count → Half positions a half_end → s < n → h (get_or positions (a - 1) 0) s ≤ g
      → ((i : ℕ) → i < a → Covers le n (some i) (h (get_or positions i 0)) (h (get_or positions (i - 1) 0)))
      → ((i j : ℕ) → 1 ≤ i → i < half_end → j ≡ remainder positions floors a i → j < a → get_or positions i 0 + get_or positions j 0 ≡ get_or positions a 0 → (t u : ℕ) → t < n → u < n → some i t → some j u
      → T (le t (t + u)) → T (le (t + u) s) → h (get_or positions i 0) t + h (get_or positions j 0) u ≤ g)
      → (i : ℕ) → 1 ≤ i → i < half_end → (e m : ℕ) → T (le e (e + m)) → e + m ≡ s → h (get_or positions i 0) e + h (get_or positions (remainder positions floors a i) 0) m ≤ g
  side_covered a half_end s g n some ha half hs before covers tried i l m = covered le order positions count n (λ i s. h (get_or positions i 0) s) along a i (remainder positions floors a i) s g
      ha (omega (arith, half.most)) (omega (arith, q.0)) l hs q.1 (half.within i l m) before
      (some i) (some (remainder positions floors a i)) (covers i (omega (arith, half.most))) (covers (remainder positions floors a i) q.0) (tried i (remainder positions floors a i) l m refl q.0)
    where
      q : (remainder positions floors a i < a) × (get_or positions i 0 + get_or positions (remainder positions floors a i) 0 ≤ get_or positions a 0)
      q = half_parts positions floors count (positions_axis J d count positions floors fit given) a half_end i ha half l m

  -- the cuts up to half of entry a give no more than g, if no cut at an entry below the half does
  pub half_le : (own : ℕ → ℕ) (a half_end s g : ℕ) → a < count → Half positions a half_end
      → ((i : ℕ) → 1 ≤ i → i < half_end → (e m : ℕ) → T (le e (e + m)) → e + m ≡ s → h (get_or positions i 0) e + h (get_or positions (remainder positions floors a i) 0) m ≤ g)
      → greatest (λ x. greatest (λ q. h x q.0 + h (normal_floor J d (get_or positions a 0 - x)) q.1) ((by_state {P = Piece} le (λ p. own (kind p))).splits d s)) (filter (normal_side J d) (range 1 (get_or positions a 0 / 2))) ≤ g
  half_le own a half_end s g ha half cuts = greatest_le _ g (filter (normal_side J d) (range 1 (get_or positions a 0 / 2))) (λ x m.
      (let f = mem_filter (normal_side J d) (range 1 (get_or positions a 0 / 2)) m in
      let q = mem_range 1 (get_or positions a 0 / 2) x f.0 in
      let e = positions_entry J d x (omega (arith, entry_side J d count positions floors fit given a ha)) f.1 in
      at x e.0 (omega (arith, e.1, given.counted)) (entry_is J d count positions floors fit given e.0 (omega (arith, e.1, given.counted)) ∙ e.2) (omega arith) (omega arith)))
    where
      at : (x i : ℕ) → i < count → get_or positions i 0 ≡ x → 1 ≤ x → 2 * x ≤ get_or positions a 0
          → greatest (λ q. h x q.0 + h (normal_floor J d (get_or positions a 0 - x)) q.1) ((by_state {P = Piece} le (λ p. own (kind p))).splits d s) ≤ g
      at x i l e q z = greatest_le _ g ((by_state {P = Piece} le (λ p. own (kind p))).splits d s) (λ u m.
          (let v = split_state le order (λ (p : Piece). own (kind p)) d s u m in
          omega (arith, cuts i (positive (ℕ_discrete i 0)) (below (dec_le half_end i) (ℕ_discrete half_end i)) u.0 u.1 (rw v.1 v.0) v.1, ap (λ y. h y u.0) e, ap (λ y. h y u.1) rest)))
        where
          positive : Dec (i ≡ 0) → 1 ≤ i
          positive (yes v) = absurd (omega (arith, ap (λ i. get_or positions i 0) v, entry_is J d count positions floors fit given 0 (omega arith), positions_first J d))
          positive (no v) = omega arith

          below : Dec (half_end ≤ i) → Dec (half_end ≡ i) → i < half_end
          below (yes v) (yes w) = absurd (omega (arith, half.past, ap (λ i. get_or positions i 0) w))
          below (yes v) (no w) = absurd (omega (arith, half.past, rise half_end i (omega arith) l))
          below (no v) w = omega arith

          rest : get_or positions (remainder positions floors a i) 0 ≡ normal_floor J d (get_or positions a 0 - x)
          rest =
              let f = given.floored (get_or positions a 0 - get_or positions i 0) (omega (arith, entry_side J d count positions floors fit given a ha)) in
              entry_is J d count positions floors fit given (remainder positions floors a i) (omega (arith, f.0, given.counted)) ∙ f.1 ∙ ap (λ x. normal_floor J d (get_or positions a 0 - x)) e

module _ (J : Job) (le : ℕ → ℕ → Bool) (own : ℕ → ℕ) (order : Order le) (fit : InTableRange J) where
  module _ (length_count columns : ℕ) (normal_lengths length_floors normal_widths width_floors : List ℕ) (lengths : Positions J Length length_count normal_lengths length_floors) (widths : Positions J Width columns normal_widths width_floors) where
    -- where a piece that fits and whose state is below earns no more than F, and g is no less than F at the cells before
    module _ (F : ℕ → ℕ → ℕ → ℕ) (most : (q : Piece) (l w s : ℕ) → MayLie J q → (laid J q).0 ≤ l → (laid J q).1 ≤ w → T (le (own (kind q)) s) → J.price (kind q) ≤ F l w s)
        (a b s g : ℕ) (ha : a < length_count) (hb : b < columns)
        (above : F (get_or normal_lengths (a - 1) 0) (get_or normal_widths b 0) s ≤ g) (before : F (get_or normal_lengths a 0) (get_or normal_widths (b - 1) 0) s ≤ g)
        (kinds : (i : ℕ) → i < J.count → (J.size i).0 ≡ get_or normal_lengths a 0 → (J.size i).1 ≡ get_or normal_widths b 0 → T (le (own i) s) → J.price i ≤ g) where
      -- a piece that fits earns no more than g: a smaller one lies in a cell before
      piece_le : (q : Piece) → List-as-Memᴰ q (members J) → (laid J q).0 ≤ get_or normal_lengths a 0 → (laid J q).1 ≤ get_or normal_widths b 0 → T (le (own (kind q)) s) → J.price (kind q) ≤ g
      piece_le q h u v m = go (ℕ_discrete (laid J q).0 (get_or normal_lengths a 0)) (ℕ_discrete (laid J q).1 (get_or normal_widths b 0))
        where
          on_length : get_or normal_lengths a 0 ≤ J.plate.0
          on_length = entry_side J Length length_count normal_lengths length_floors fit lengths a ha

          on_width : get_or normal_widths b 0 ≤ J.plate.1
          on_width = entry_side J Width columns normal_widths width_floors fit widths b hb

          lies : MayLie J q
          lies = member_lies J q h

          normal : (d : Direction) → T (normal_side J d (side d (laid J q)))
          normal d = (sides_suffice J).has_side d q h (omega (arith, on_length), omega (arith, on_width))

          own_size : laid J q ≡ J.size (kind q)
          own_size = ap (laid J) (table_upright J fit q lies)

          go : Dec ((laid J q).0 ≡ get_or normal_lengths a 0) → Dec ((laid J q).1 ≡ get_or normal_widths b 0) → J.price (kind q) ≤ g
          go (yes e) (yes f) = kinds (kind q) (member_kind J q h) (sym (ap (λ u. u.0) own_size) ∙ e) (sym (ap (λ u. u.1) own_size) ∙ f) m
          go (no e) f = omega (arith, most q (get_or normal_lengths (a - 1) 0) (get_or normal_widths b 0) s lies (between J Length length_count normal_lengths length_floors fit lengths (laid J q).0 a ha (normal Length) (omega arith)) v m)
          go (yes e) (no f) = omega (arith, most q (get_or normal_lengths a 0) (get_or normal_widths (b - 1) 0) s lies u (between J Width columns normal_widths width_floors fit widths (laid J q).1 b hb (normal Width) (omega arith)) m)

      -- what a piece alone gives
      abbrev alone : Piece → ℕ
      alone q = only (fits_in (laid J q) (get_or normal_lengths a 0, get_or normal_widths b 0) && le (own (kind q)) s) (J.price (kind q))

      -- so does the greatest of a piece alone
      pub singles : greatest alone (members J) ≤ g
      singles = greatest_le _ g (members J) (λ q m. go q m (ℕ_discrete (alone q) 0))
        where
          go : (q : Piece) → List-as-Memᴰ q (members J) → Dec (alone q ≡ 0) → alone q ≤ g
          go q h (yes e) = omega arith
          go q h (no e) =
              let o = only_positive (fits_in (laid J q) (get_or normal_lengths a 0, get_or normal_widths b 0) && le (own (kind q)) s) (J.price (kind q)) (omega arith) in
              let t = T_and (fits_in (laid J q) (get_or normal_lengths a 0, get_or normal_widths b 0)) (le (own (kind q)) s) o.0 in
              let f = true_fits_in (laid J q) (get_or normal_lengths a 0, get_or normal_widths b 0) t.0 in
              omega (arith, o.1, piece_le q h f.0 f.1 t.1)

    -- the figure of entry a of the lengths, entry b of the widths and state s
    abbrev cell : ℕ → ℕ → ℕ → ℕ
    cell a b s = figure_at J le own (get_or normal_lengths a 0) (get_or normal_widths b 0) s

    module _ (a b s g : ℕ) (ha : a < length_count) (hb : b < columns) (above : cell (a - 1) b s ≤ g) (before : cell a (b - 1) s ≤ g)
        (kinds : (i : ℕ) → i < J.count → (J.size i).0 ≡ get_or normal_lengths a 0 → (J.size i).1 ≡ get_or normal_widths b 0 → T (le (own i) s) → J.price i ≤ g) where
      -- the cells before it, the kinds of exactly its size and the cuts up to half of its sides give a cell its figure
      pub complete : (length_half_end width_half_end : ℕ) → Half normal_lengths a length_half_end → Half normal_widths b width_half_end
          → ((i : ℕ) → 1 ≤ i → i < length_half_end → (e m : ℕ) → T (le e (e + m)) → e + m ≡ s → cell i b e + cell (remainder normal_lengths length_floors a i) b m ≤ g)
          → ((i : ℕ) → 1 ≤ i → i < width_half_end → (e m : ℕ) → T (le e (e + m)) → e + m ≡ s → cell a i e + cell a (remainder normal_widths width_floors b i) m ≤ g)
          → cell a b s ≤ g
      complete length_half_end width_half_end length_half width_half length_cuts width_cuts = omega (
        arith,
        state_half J le own order fit (get_or normal_lengths a 0) (get_or normal_widths b 0) s (entry_side J Length length_count normal_lengths length_floors fit lengths a ha) (entry_side J Width columns normal_widths width_floors fit widths b hb),
        singles (figure_at J le own) (piece_most J le own order fit) a b s g ha hb above before kinds,
        half_le J le order fit Length length_count normal_lengths length_floors lengths (across J le own Length (get_or normal_widths b 0)) (across_joins J le own order fit Length (get_or normal_widths b 0)) own a length_half_end s g ha length_half length_cuts,
        half_le J le order fit Width columns normal_widths width_floors widths (across J le own Width (get_or normal_lengths a 0)) (across_joins J le own order fit Width (get_or normal_lengths a 0)) own b width_half_end s g hb width_half width_cuts,
      )
