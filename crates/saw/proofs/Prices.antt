-- Between blocks that differ only in prices the saw's checks and its record are equal, and so is everything that it answers. Whatever the
-- prices are to be, such a block has them.
use Rattle.saw.proofs.Prelude.{◌≡◌, refl, sym, ◌∙◌, ap, ap₂, subst, Bool, true, false, ◌||◌, not, List, [], ◌∷◌, ◌++◌, map, ℕ, zero, suc, ◌+◌, ◌*◌, ◌≤◌, ◌<◌, arith, ltb, eqb, length, get_or, set, length-set, get_or-set_same, get_or-set_other, ltb-true, range, only, ShortHeader, PlateSide, KindCount, Kerf, BlockLength, KindSide, Demand, Grain, Check, first_refusal, Choices, u16_at, u32_at, plate_length_at, plate_width_at, count_at, kerf_at, sizes_end, length_at, width_at, demand_at, outside, header_checks, size_check, each_kind, entries, record_of, read_by, job_of, grain_at, kind_bytes, grain_checks, grains_of, sizes_least, proceed, plan_answer, demand_checks, saw_checks, saw_record, saw_read, saw_of, saw_answer, PriceByte, OnlyPrices, PricesFree}

-- each of the four bytes of every price is one that may differ
pub price_bytes : (h n i j : ℕ) → i < n → j < 4 → PriceByte h n (h + 4 * n + 6 * i + j)
price_bytes h n i j l m = (i, l, omega arith, omega (arith, m))

-- four bytes, put at a place of a block
module _ (s : List ℕ) (at a b c d : ℕ) where
  abbrev four : List ℕ
  four = set (set (set (set s at a) (at + 1) b) (at + 2) c) (at + 3) d

  four_length : length four ≡ length s
  four_length = simp length-set

  -- every other byte stays
  four_other : (k : ℕ) → ((j : ℕ) → j < 4 → k ≡ at + j → ⊥) → get_or four k 0 ≡ get_or s k 0
  four_other k f = get_or-set_other (set (set (set s at a) (at + 1) b) (at + 2) c) (at + 3) k d 0 (f 3 (omega arith))
      ∙ get_or-set_other (set (set s at a) (at + 1) b) (at + 2) k c 0 (f 2 (omega arith))
      ∙ get_or-set_other (set s at a) (at + 1) k b 0 (f 1 (omega arith))
      ∙ get_or-set_other s at k a 0 (λ e. f 0 (omega arith) (omega (arith, e)))

  -- and they are read there
  four_there : at + 3 < length s → u32_at four at ≡ a + 256 * b + 65536 * c + 16777216 * d
  four_there h =
      let x = set s at a in
      let y = set x (at + 1) b in
      let z = set y (at + 2) c in
      let lx : length x ≡ length s = length-set s at a in
      let ly : length y ≡ length x = length-set x (at + 1) b in
      let lz : length z ≡ length y = length-set y (at + 2) c in
      let d3 : get_or four (at + 3) 0 ≡ d = get_or-set_same z (at + 3) d 0 (omega arith) in
      let d2 : get_or four (at + 2) 0 ≡ c = get_or-set_other z (at + 3) (at + 2) d 0 (λ e. omega arith) ∙ get_or-set_same y (at + 2) c 0 (omega arith) in
      let d1 : get_or four (at + 1) 0 ≡ b = get_or-set_other z (at + 3) (at + 1) d 0 (λ e. omega arith) ∙ get_or-set_other y (at + 2) (at + 1) c 0 (λ e. omega arith) ∙ get_or-set_same x (at + 1) b 0 (omega arith) in
      let d0 : get_or four at 0 ≡ a = get_or-set_other z (at + 3) at d 0 (λ e. omega arith) ∙ get_or-set_other y (at + 2) at c 0 (λ e. omega arith) ∙ get_or-set_other x (at + 1) at b 0 (λ e. omega arith) ∙ get_or-set_same s at a 0 (omega arith) in
      λ i. d0 i + 256 * d1 i + 65536 * d2 i + 16777216 * d3 i

-- checks of the kinds, and entries of an array, that agree kind by kind
each_same : (f g : ℕ → List Check) (i n : ℕ) → ((k : ℕ) → k < i + n → f k ≡ g k) → each_kind f i n ≡ each_kind g i n
unfolding each_kind
each_same f g i zero h = refl
each_same f g i (suc n) h = ap₂ ◌++◌ (h i (omega arith)) (each_same f g (suc i) n (λ k l. h k (omega arith)))

only_same : (b : Bool) (x y : ℕ) → (b ≡ true → x ≡ y) → only b x ≡ only b y
only_same true x y h = h refl
only_same false x y h = refl

map_same : (f g : ℕ → ℕ) (xs : List ℕ) → ((k : ℕ) → f k ≡ g k) → map f xs ≡ map g xs
map_same f g [] h = refl
map_same f g (x ∷ xs) h = ap₂ ◌∷◌ (h x) (map_same f g xs h)

entries_same : (f g : ℕ → ℕ) (n : ℕ) → ((k : ℕ) → k < n → f k ≡ g k) → entries f n ≡ entries g n
unfolding entries
entries_same f g n h = map_same _ _ (range 0 64) (λ k. only_same (ltb k n) (f k) (g k) (λ e. h k (ltb-true k n e)))

module _ (choices : Choices) (s z : List ℕ) (same : OnlyPrices choices s z) where
  abbrev old : Bool
  old = choices.old_block

  abbrev end : ℕ
  end = sizes_end old

  -- a field before the prices
  early : (k : ℕ) → k < end + 4 * count_at s → get_or s k 0 ≡ get_or z k 0
  early k l = same.same_bytes k (λ p. omega (arith, p.2, l))

  field : (k : ℕ) → k + 1 < end + 4 * count_at s → u16_at s k ≡ u16_at z k
  field k l = ap₂ (λ a b. a + 256 * b) (early k (omega arith)) (early (k + 1) l)

  same_length_at : plate_length_at s ≡ plate_length_at z
  same_length_at = field 0 (omega (arith, (sizes_least old).0))

  same_width_at : plate_width_at s ≡ plate_width_at z
  same_width_at = field 2 (omega (arith, (sizes_least old).0))

  same_count : count_at s ≡ count_at z
  same_count = field 4 (omega (arith, (sizes_least old).0))

  same_kerf : kerf_at old s ≡ kerf_at old z
  same_kerf = go old early
    where
      go : (b : Bool) → ((k : ℕ) → k < sizes_end b + 4 * count_at s → get_or s k 0 ≡ get_or z k 0) → kerf_at b s ≡ kerf_at b z
      go true e = refl
      go false e = ap₂ (λ a b. a + 256 * b) (e 6 (omega arith)) (e 7 (omega arith))

  same_length_of : (i : ℕ) → i < count_at s → length_at end s i ≡ length_at end z i
  same_length_of i l = field (end + 4 * i) (omega (arith, l))

  same_width_of : (i : ℕ) → i < count_at s → width_at end s i ≡ width_at end z i
  same_width_of i l = field (end + 2 + 4 * i) (omega (arith, l))

  -- a demand, between two prices
  same_demand : (i : ℕ) → demand_at end s i ≡ demand_at end z i
  same_demand i = ap₂ (λ a b. a + 256 * b) (same.same_bytes (end + 4 + 4 * count_at s + 6 * i) (λ p. omega (arith, p.2, p.3))) (same.same_bytes (end + 4 + 4 * count_at s + 6 * i + 1) (λ p. omega (arith, p.2, p.3)))
      ∙ ap (λ n. u16_at z (end + 4 + 4 * n + 6 * i)) same_count

  -- a grain byte, past the prices
  same_grain : (i : ℕ) → grain_at end s i ≡ grain_at end z i
  same_grain i = same.same_bytes (end + 10 * count_at s + i) (λ p. omega (arith, p.1, p.3)) ∙ ap (λ n. get_or z (end + 10 * n + i) 0) same_count

  same_grains : (b : Bool) → (grain_checks b end s ≡ grain_checks b end z) × (grains_of b end s ≡ grains_of b end z)
  same_grains true = (λ i. each_kind (λ k. (ltb 1 (same_grain k i), Grain k) ∷ []) 0 (same_count i), λ i. entries (λ k. same_grain k i) (same_count i))
  same_grains false = (refl, refl)

  same_header : header_checks choices s ≡ header_checks choices z
  same_header = λ i. (ltb (same.same_length i) end, ShortHeader)
      ∷ (outside 1 1000 (same_length_at i) || outside 1 1000 (same_width_at i), PlateSide)
      ∷ (outside 1 64 (same_count i), KindCount)
      ∷ (ltb 20 (same_kerf i), Kerf)
      ∷ (not (eqb (same.same_length i) (end + kind_bytes choices.grain * same_count i)), BlockLength)
      ∷ []

  -- no check reads a price
  same_checks : saw_checks s choices ≡ saw_checks z choices
  unfolding saw_checks
  same_checks =
      let sizes = each_same (λ i. size_check end s i ∷ []) (λ i. size_check end z i ∷ []) 0 (count_at s) (λ k l. (λ i. (outside 1 1000 (same_length_of k (omega arith) i) || outside 1 1000 (same_width_of k (omega arith) i), KindSide k) ∷ []))
      ∙ ap (each_kind (λ i. size_check end z i ∷ []) 0) same_count in
      let demands = each_same (demand_checks end s) (demand_checks end z) 0 (count_at s) (λ k l. (λ i. (ltb 255 (same_demand k i), Demand k) ∷ []))
      ∙ ap (each_kind (demand_checks end z) 0) same_count in
      λ i. same_header i ++ (sizes i ++ (demands i ++ (same_grains choices.grain).0 i))

  -- nor does the record
  same_record : saw_record s choices ≡ saw_record z choices
  unfolding record_of
  same_record =
      let lengths = entries_same (length_at end s) (length_at end z) (count_at s) same_length_of ∙ ap (entries (length_at end z)) same_count in
      let widths = entries_same (width_at end s) (width_at end z) (count_at s) same_width_of ∙ ap (entries (width_at end z)) same_count in
      let demands = entries_same (demand_at end s) (demand_at end z) (count_at s) (λ k l. same_demand k) ∙ ap (entries (demand_at end z)) same_count in
      λ i. record {
        length = same_length_at i;
        width = same_width_at i;
        count = same_count i;
        kerf = same_kerf i;
        turning = choices.turning;
        full_demand = choices.full_demand;
        lengths = lengths i;
        widths = widths i;
        prices = entries (λ k. 0) 0;
        demands = demands i;
        grains = (same_grains choices.grain).1 i;
      }

  pub same_read : saw_read s choices ≡ saw_read z choices
  same_read = λ i. read_by (first_refusal (same_checks i)) (same_record i)

  pub same_answer : (kinds operands : List ℕ) → saw_answer s choices kinds operands ≡ saw_answer z choices kinds operands
  same_answer kinds operands = λ i. saw_of (proceed (first_refusal (same_checks i)) (plan_answer (job_of (same_record i)) kinds operands))

-- a block that has the bytes of its kinds may have any prices
pub prices_free : (choices : Choices) (s : List ℕ) → sizes_end choices.old_block + 10 * count_at s ≤ length s → PricesFree choices s
prices_free choices s h i a b c d l =
    let end = sizes_end choices.old_block in
    let at = end + 4 * count_at s + 6 * i in
    let z = four s at a b c d in
    let o : OnlyPrices choices s z = record {
      same_length = sym (four_length s at a b c d);
      same_bytes = λ k f. sym (four_other s at a b c d k (λ j m e. f (subst (PriceByte end (count_at s)) (sym e) (price_bytes end (count_at s) i j l m))));
    } in
    (z, o, ap (λ n. u32_at z (end + 4 * n + 6 * i)) (sym (same_count choices s z o)) ∙ four_there s at a b c d (omega (arith, h, l)))
