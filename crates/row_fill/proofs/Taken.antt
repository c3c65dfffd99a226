-- What the steps of a row give, whatever the figures F of its cells are: no word is above its figure, and every cut that can give a cell more
-- is taken. The fill by rows and the staged fill by rows cite the same laws.
use Rattle.row_fill.proofs.Prelude.{◌≡◌, ◌∙◌, ap, ◌⊎◌, inl, inr, List, ℕ, zero, suc, ◌+◌, ◌-◌, ◌*◌, ◌≤◌, ◌<◌, dec_le, arith, T, leb, get_or, Direction, side, Job, InTableRange, positions_first, positions_some, Positions, Half, remainder, Axis, Covers, half_below, half_more, half_parts, entry_is, entry_side, positions_axis, plain_order, side_covered, Entries, LengthsTaken, Joins, WidthCuts}
use Rattle.table.proofs.Covered as along

-- every entry but the first has a half
pub half_found : (positions : List ℕ) (b : ℕ) → 1 ≤ b → 0 < get_or positions b 0 → (half_end : ℕ) × Half positions b half_end
half_found positions b h p = go b 1 (omega arith) h (omega arith) (λ i l m. absurd (omega arith))
  where
    go : (n k : ℕ) → 1 ≤ k → k ≤ b → b < k + n → ((i : ℕ) → 1 ≤ i → i < k → 2 * get_or positions i 0 ≤ get_or positions b 0) → (half_end : ℕ) × Half positions b half_end
    go zero k l m z w = absurd (omega arith)
    go (suc n) k l m z w = at (dec_le (2 * get_or positions k 0) (get_or positions b 0)) (λ q. go n (k + 1) (omega arith) (omega (arith, half_below positions b k m p q)) (omega arith) (half_more positions b k w q))
      where
        at : Dec (2 * get_or positions k 0 ≤ get_or positions b 0) → (2 * get_or positions k 0 ≤ get_or positions b 0 → (half_end : ℕ) × Half positions b half_end) → (half_end : ℕ) × Half positions b half_end
        at (yes q) next = next q
        at (no q) next = (k, record { least = l; most = m; within = w; past = omega arith })

module _ (J : Job) (fit : InTableRange J) (d : Direction) (count : ℕ) (positions floors : List ℕ) (given : Positions J d count positions floors) where
  axis : Axis positions floors count
  axis = positions_axis J d count positions floors fit given

  -- a side's entries, from 0 up to the side
  pub positions_entries : Entries positions count (side d J.plate)
  positions_entries = record {
    some = omega (arith, given.counted, positions_some J d);
    listed = axis.listed;
    first = entry_is J d count positions floors fit given 0 (omega (arith, given.counted, positions_some J d)) ∙ positions_first J d;
    rise = axis.rise;
    within = entry_side J d count positions floors fit given;
  }

  -- values h along the side
  module _ (h : ℕ → ℕ → ℕ) (joins : along.Joins leb h) where
    -- the value of entry i
    abbrev worth : ℕ → ℕ → ℕ
    worth i c = h (get_or positions i 0) c

    -- share 0 covers the entries that are worth more than the entry before
    abbrev Up : ℕ → ℕ → Type 0
    Up i c = worth (i - 1) 0 < worth i 0

    rises : (i : ℕ) → Covers leb 1 (Up i) (worth i) (worth (i - 1))
    rises i s h = go (dec_le (worth i 0) (worth (i - 1) 0))
      where
        zero_is : s ≡ 0
        zero_is = omega arith

        go : Dec (worth i 0 ≤ worth (i - 1) 0) → (worth i s ≤ worth (i - 1) s) ⊎ ((t : ℕ) × (t < 1) × T (leb t s) × Up i t × (worth i s ≤ worth i t))
        go (yes k) = inl (rw zero_is k)
        go (no k) = inr (0, omega arith, plain_order.least s, omega arith, rw zero_is (omega arith))

    -- no cut up to half of entry a gives more than g, if those whose parts make up the whole and whose larger part rises do not
    pub side_taken : (a half_end g : ℕ) → a < count → Half positions a half_end → worth (a - 1) 0 ≤ g
        → ((i j : ℕ) → 1 ≤ i → i < half_end → j ≡ remainder positions floors a i → j < a → i ≤ j → get_or positions i 0 + get_or positions j 0 ≡ get_or positions a 0 → worth (j - 1) 0 < worth j 0 → worth i 0 + worth j 0 ≤ g)
        → (i : ℕ) → 1 ≤ i → i < half_end → (e m : ℕ) → T (leb e (e + m)) → e + m ≡ 0 → worth i e + worth (remainder positions floors a i) m ≤ g
    side_taken a half_end g ha half before taken = side_covered J leb plain_order fit d count positions floors given h joins a half_end 0 g 1 Up ha half (omega arith) before (λ i h. rises i)
        (λ i j l m e h x t u ht hu f y b v. (let y0 : t ≡ 0 = omega arith in let z0 : u ≡ 0 = omega arith in rw (y0, z0) (taken i j l m e h (larger i j l m x (dec_le i j)) x y)))
      where
        larger : (i j : ℕ) → 1 ≤ i → i < half_end → get_or positions i 0 + get_or positions j 0 ≡ get_or positions a 0 → Dec (i ≤ j) → i ≤ j
        larger i j l m x (yes u) = u
        larger i j l m x (no u) = absurd (omega (arith, half.within i l m, axis.rise j i (omega arith) (omega (arith, half.most))))

-- a row that took its length cuts
module _ {normal_lengths length_floors : List ℕ} {count a half_end base start columns : ℕ} {old new : List ℕ} (axis : Axis normal_lengths length_floors count) (ha : a < count)
    (half : Half normal_lengths a half_end) (lengths : LengthsTaken normal_lengths length_floors a half_end base start columns old new) where
  -- no word is above its figure, if none was and two lengths are worth no more than one as long
  pub cut_low : (f : ℕ → ℕ) → Joins f → (b : ℕ) → b < columns → ((i : ℕ) → i < a → get_or old (base + i * columns + b) 0 ≤ f (get_or normal_lengths i 0)) → get_or old (start + b) 0 ≤ f (get_or normal_lengths a 0)
      → get_or new (start + b) 0 ≤ f (get_or normal_lengths a 0)
  cut_low f joins b h rows row = lengths.low b (f (get_or normal_lengths a 0)) h row (λ i l m e.
      (let j = remainder normal_lengths length_floors a i in
      omega (
        arith,
        rows i (omega (arith, half.most)),
        rows j (half_parts normal_lengths length_floors count axis a half_end i ha half l m).0,
        joins (get_or normal_lengths i 0) (get_or normal_lengths j 0),
        ap f e,
      )))

  -- a cut whose parts make up the whole is taken
  pub cut_taken : (i j b : ℕ) → 1 ≤ i → i < half_end → b < columns → j ≡ remainder normal_lengths length_floors a i → get_or normal_lengths i 0 + get_or normal_lengths j 0 ≡ get_or normal_lengths a 0
      → get_or old (base + i * columns + b) 0 + get_or old (base + j * columns + b) 0 ≤ get_or new (start + b) 0
  cut_taken i j b l m h e x = rw (← e) at (lengths.sums i b l m h (rw (← e) x))

-- a cell of a row that took its width cuts, where the cells before it hold their figures f
module _ {normal_widths : List ℕ} {columns start : ℕ} {new : List ℕ} (cuts : WidthCuts normal_widths columns start new) (f : ℕ → ℕ) (b : ℕ) (hb : b < columns)
    (done : (i : ℕ) → i < b → get_or new (start + i) 0 ≡ f (get_or normal_widths i 0)) where
  -- a cut whose parts make up the whole and whose larger part rises is taken
  pub push_taken : (i j : ℕ) → 1 ≤ i → j < b → i ≤ j → get_or normal_widths i 0 + get_or normal_widths j 0 ≡ get_or normal_widths b 0 → f (get_or normal_widths (j - 1) 0) < f (get_or normal_widths j 0)
      → f (get_or normal_widths i 0) + f (get_or normal_widths j 0) ≤ get_or new (start + b) 0
  push_taken i j l h m x u = omega (
    arith,
    done i (omega arith),
    done j h,
    cuts.sums j i b l m (omega arith) hb (omega arith) (omega (arith, done j h, done (j - 1) (omega arith))),
  )

-- cell after cell
pub each : {columns : ℕ} (P : ℕ → Type 0) → ((b : ℕ) → b < columns → ((i : ℕ) → i < b → P i) → P b) → (b : ℕ) → b < columns → P b
each {columns} P next b h = go (suc b) b (omega arith) h
  where
    go : (m b : ℕ) → b < m → b < columns → P b
    go zero b k h = absurd (omega arith)
    go (suc m) b k h = next b h (λ i l. go m i (omega arith) (omega arith))
