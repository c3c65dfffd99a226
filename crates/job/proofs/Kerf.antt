-- A new block with kerf 0 is read as the old block: every field behind the kerf stands two bytes further on, and the others where they stood.
use Rattle.job.proofs.Prelude.{◌≡◌, ◌∙◌, refl, sym, ap, ap₂, subst, Bool, true, false, not, List, [], ◌∷◌, ◌++◌, ℕ, ◌+◌, ◌*◌, ◌≤◌, ◌<◌, ℕ_discrete, dec_le, arith, lt-ltb, le-ltb, eq-eqb, ne_eqb, ltb, eqb, length, get_or, Check, ShortHeader, PlateSide, KindCount, Kerf, BlockLength, KindSide, Price, Demand, Grain, Choices, with_old_block, u16_at, u32_at, plate_length_at, plate_width_at, count_at, length_at, width_at, price_at, demand_at, grain_at, kind_bytes, outside, sides_outside, header_checks, plateless_checks, demand_check, pair_checks, each_kind, grain_checks, array_checks, job_checks, entries, grains_of, record_of, KerfNone, ReadAlike, KerfNoneRead}

-- a length two greater against a header two greater
shorter : (m n : ℕ) → m ≡ n + 2 → ltb m 8 ≡ ltb n 6
shorter m n e = go (dec_le 6 n)
  where
    go : Dec (6 ≤ n) → ltb m 8 ≡ ltb n 6
    go (yes h) = le-ltb m 8 (omega (arith, e)) ∙ sym (le-ltb n 6 h)
    go (no h) = lt-ltb m 8 (omega (arith, e)) ∙ sym (lt-ltb n 6 (omega arith))

-- and against all bytes
whole : (m n c : ℕ) → m ≡ n + 2 → eqb m (8 + c) ≡ eqb n (6 + c)
whole m n c e = go (ℕ_discrete n (6 + c))
  where
    go : Dec (n ≡ 6 + c) → eqb m (8 + c) ≡ eqb n (6 + c)
    go (yes h) = eq-eqb m (8 + c) (omega (arith, e, h)) ∙ sym (eq-eqb n (6 + c) h)
    go (no h) = ne_eqb m (8 + c) (λ f. h (omega (arith, e, f))) ∙ sym (ne_eqb n (6 + c) h)

module _ (s z : List ℕ) (h : KerfNone s z) where
  -- fields before the kerf, and those behind it
  front_field : (k : ℕ) → k < 5 → u16_at s k ≡ u16_at z k
  front_field k l = ap₂ (λ a b. a + 256 * b) (h.front k (omega arith)) (h.front (k + 1) (omega arith))

  behind : (k j : ℕ) → 6 ≤ k → j ≡ k + 2 → get_or s j 0 ≡ get_or z k 0
  behind k j l e = rw e (h.behind k l)

  field : (k j : ℕ) → 6 ≤ k → j ≡ k + 2 → u16_at s j ≡ u16_at z k
  field k j l e = ap₂ (λ a b. a + 256 * b) (behind k j l e) (behind (k + 1) (j + 1) (omega arith) (omega (arith, e)))

  long_field : (k j : ℕ) → 6 ≤ k → j ≡ k + 2 → u32_at s j ≡ u32_at z k
  long_field k j l e = λ i. behind k j l e i + 256 * behind (k + 1) (j + 1) (omega arith) (omega (arith, e)) i
      + 65536 * behind (k + 2) (j + 2) (omega arith) (omega (arith, e)) i + 16777216 * behind (k + 3) (j + 3) (omega arith) (omega (arith, e)) i

  same_length : plate_length_at s ≡ plate_length_at z
  same_length = front_field 0 (omega arith)

  same_width : plate_width_at s ≡ plate_width_at z
  same_width = front_field 2 (omega arith)

  same_count : count_at s ≡ count_at z
  same_count = front_field 4 (omega arith)

  same_length_of : (i : ℕ) → length_at 8 s i ≡ length_at 6 z i
  same_length_of i = field (6 + 4 * i) (8 + 4 * i) (omega arith) (omega arith)

  same_width_of : (i : ℕ) → width_at 8 s i ≡ width_at 6 z i
  same_width_of i = field (6 + 2 + 4 * i) (8 + 2 + 4 * i) (omega arith) (omega arith)

  same_price : (i : ℕ) → price_at 8 s i ≡ price_at 6 z i
  same_price i = long_field (6 + 4 * count_at z + 6 * i) (8 + 4 * count_at s + 6 * i) (omega arith) (omega (arith, same_count))

  same_demand : (i : ℕ) → demand_at 8 s i ≡ demand_at 6 z i
  same_demand i = field (6 + 4 + 4 * count_at z + 6 * i) (8 + 4 + 4 * count_at s + 6 * i) (omega arith) (omega (arith, same_count))

  same_grain : (i : ℕ) → grain_at 8 s i ≡ grain_at 6 z i
  same_grain i = behind (6 + 10 * count_at z + i) (8 + 10 * count_at s + i) (omega arith) (omega (arith, same_count))

  same_grain_checks : (grain : Bool) → grain_checks grain 8 s ≡ grain_checks grain 6 z
  same_grain_checks true = λ i. each_kind (λ j. (ltb 1 (same_grain j i), Grain j) ∷ []) 0 (same_count i)
  same_grain_checks false = refl

  same_grains : (grain : Bool) → grains_of grain 8 s ≡ grains_of grain 6 z
  same_grains true = λ i. entries (λ j. same_grain j i) (same_count i)
  same_grains false = refl

  -- the checks of the arrays, whatever the pairs' checks are that are the same
  same_arrays : (f g : ℕ → List Check) (grain : Bool) → ((i : ℕ) → f i ≡ g i) → array_checks f grain 8 s ≡ array_checks g grain 6 z
  same_arrays f g grain e = λ i. each_kind (λ j. (sides_outside (same_length_of j i) (same_width_of j i), KindSide j) ∷ []) 0 (same_count i) ++ (each_kind (λ j. e j i) 0 (same_count i) ++ same_grain_checks grain i)

  same_pair : (i : ℕ) → pair_checks 8 s i ≡ pair_checks 6 z i
  same_pair i = λ j. (ltb 1000000 (same_price i j), Price i) ∷ (ltb 255 (same_demand i j), Demand i) ∷ []

  same_demanded : (i : ℕ) → demand_check 8 s i ∷ [] ≡ demand_check 6 z i ∷ []
  same_demanded i = λ j. (ltb 255 (same_demand i j), Demand i) ∷ []

  module _ (choices : Choices) (new : choices.old_block ≡ false) where
    -- a new block by its choices
    abbrev fresh : Choices
    fresh = record { turning = choices.turning; full_demand = choices.full_demand; old_block = false; grain = choices.grain }

    same_fresh : choices ≡ fresh
    same_fresh = λ i. record { turning = choices.turning; full_demand = choices.full_demand; old_block = new i; grain = choices.grain }

    same_bytes : eqb (length s) (8 + kind_bytes choices.grain * count_at s) ≡ eqb (length z) (6 + kind_bytes choices.grain * count_at z)
    same_bytes = ap (λ c. eqb (length s) (8 + kind_bytes choices.grain * c)) same_count ∙ whole (length s) (length z) (kind_bytes choices.grain * count_at z) h.two_more

    -- the checks of the header without its plate
    same_plateless : plateless_checks fresh s ≡ plateless_checks (with_old_block choices) z
    same_plateless = λ i. (shorter (length s) (length z) h.two_more i, ShortHeader)
        ∷ (outside 1 64 (same_count i), KindCount)
        ∷ (ltb 20 (h.none i), Kerf)
        ∷ (not (same_bytes i), BlockLength)
        ∷ []

    -- and with it
    same_header : header_checks fresh s ≡ header_checks (with_old_block choices) z
    same_header = λ i. (shorter (length s) (length z) h.two_more i, ShortHeader)
        ∷ (sides_outside (same_length i) (same_width i), PlateSide)
        ∷ (outside 1 64 (same_count i), KindCount)
        ∷ (ltb 20 (h.none i), Kerf)
        ∷ (not (same_bytes i), BlockLength)
        ∷ []

    read_fresh : ReadAlike s fresh z (with_old_block choices)
    unfolding job_checks record_of
    read_fresh = record {
      checks = ap₂ (λ a b. a ++ b) same_header (same_arrays (pair_checks 8 s) (pair_checks 6 z) choices.grain same_pair);
      plateless = ap₂ (λ a b. a ++ b) same_plateless (same_arrays (pair_checks 8 s) (pair_checks 6 z) choices.grain same_pair);
      unpriced = ap₂ (λ a b. a ++ b) same_header (same_arrays (λ i. demand_check 8 s i ∷ []) (λ i. demand_check 6 z i ∷ []) choices.grain same_demanded);
      record_is = λ i. record {
        length = same_length i;
        width = same_width i;
        count = same_count i;
        kerf = h.none i;
        turning = choices.turning;
        full_demand = choices.full_demand;
        lengths = entries (λ j. same_length_of j i) (same_count i);
        widths = entries (λ j. same_width_of j i) (same_count i);
        prices = entries (λ j. same_price j i) (same_count i);
        demands = entries (λ j. same_demand j i) (same_count i);
        grains = same_grains choices.grain i;
      };
    }

    read_alike : ReadAlike s choices z (with_old_block choices)
    read_alike = subst (λ c. ReadAlike s c z (with_old_block choices)) (sym same_fresh) read_fresh

-- kerf 0 is read as the old block
pub kerf_none_read : (s : List ℕ) (choices : Choices) → KerfNoneRead s choices
kerf_none_read s choices z new h = read_alike s z h choices new
