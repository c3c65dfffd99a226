-- Between blocks that differ only in the sides of their plates the checks before any plan's are equal, and so is everything that the rack
-- answers.
use Rattle.rack.proofs.Prelude.{◌≡◌, ◌∙◌, refl, sym, ap, ap₂, Bool, true, false, not, List, [], ◌∷◌, ◌++◌, ℕ, zero, suc, ◌+◌, ◌*◌, ◌≤◌, arith, ltb, eqb, length, get_or, set, Rect, Job, ShortHeader, KindCount, Kerf, BlockLength, KindSide, Price, Demand, Grain, first_refusal, Choices, u16_at, u32_at, plate_length_at, plate_width_at, count_at, kerf_at, sizes_end, length_at, width_at, price_at, demand_at, outside, sides_outside, each_kind, entries, record_of, job_from, grain_at, kind_bytes, grain_checks, grains_of, block_job, sizes_least, plan_checks, plated, plate_at, rack_size_check, order_checks, plate_checks, rack_checks, own_answer, total_checks, with_own, and_then, proceed, rack_walk, plans_answer, rack_answer, OnlyPlate}

-- no plan reads the job's own plate
walk_unread : (J : Job) (r : Rect) (plate : ℕ → Rect) (kinds operands : List ℕ) (i m k : ℕ) (totals profits : List ℕ) → rack_walk (plated J r) plate kinds operands i m k totals profits ≡ rack_walk J plate kinds operands i m k totals profits
unfolding rack_walk
walk_unread J r plate kinds operands i zero k totals profits = refl
walk_unread J r plate kinds operands i (suc m) k totals profits =
    λ j. and_then (own_answer (plated J (plate i)) kinds operands k)
    (λ t. proceed (first_refusal (total_checks J i totals t.report.copies)) (walk_unread J r plate kinds operands (i + 1) m t.past (with_own totals t.report.copies J.count) (set profits i t.report.profit) j))

module _ (choices : Choices) (s z : List ℕ) (same : OnlyPlate s z) where
  abbrev old : Bool
  old = choices.old_block

  abbrev end : ℕ
  end = sizes_end old

  -- fields past the plate's
  field : (k : ℕ) → 4 ≤ k → u16_at s k ≡ u16_at z k
  field k h = ap₂ (λ a b. a + 256 * b) (same.same_bytes k h) (same.same_bytes (k + 1) (omega arith))

  long_field : (k : ℕ) → 4 ≤ k → u32_at s k ≡ u32_at z k
  long_field k h = λ i. same.same_bytes k h i + 256 * same.same_bytes (k + 1) (omega arith) i + 65536 * same.same_bytes (k + 2) (omega arith) i + 16777216 * same.same_bytes (k + 3) (omega arith) i

  same_count : count_at s ≡ count_at z
  same_count = field 4 (omega arith)

  same_kerf : kerf_at old s ≡ kerf_at old z
  same_kerf = go old
    where
      go : (b : Bool) → kerf_at b s ≡ kerf_at b z
      go true = refl
      go false = field 6 (omega arith)

  same_length_of : (i : ℕ) → length_at end s i ≡ length_at end z i
  same_length_of i = field (end + 4 * i) (omega (arith, (sizes_least old).0))

  same_width_of : (i : ℕ) → width_at end s i ≡ width_at end z i
  same_width_of i = field (end + 2 + 4 * i) (omega (arith, (sizes_least old).0))

  same_price : (i : ℕ) → price_at end s i ≡ price_at end z i
  same_price i = long_field (end + 4 * count_at s + 6 * i) (omega (arith, (sizes_least old).0)) ∙ ap (λ n. u32_at z (end + 4 * n + 6 * i)) same_count

  same_demand : (i : ℕ) → demand_at end s i ≡ demand_at end z i
  same_demand i = field (end + 4 + 4 * count_at s + 6 * i) (omega (arith, (sizes_least old).0)) ∙ ap (λ n. u16_at z (end + 4 + 4 * n + 6 * i)) same_count

  same_grain : (i : ℕ) → grain_at end s i ≡ grain_at end z i
  same_grain i = same.same_bytes (end + 10 * count_at s + i) (omega (arith, (sizes_least old).0)) ∙ ap (λ n. get_or z (end + 10 * n + i) 0) same_count

  same_grains : (b : Bool) → (grain_checks b end s ≡ grain_checks b end z) × (grains_of b end s ≡ grains_of b end z)
  same_grains true = (λ i. each_kind (λ k. (ltb 1 (same_grain k i), Grain k) ∷ []) 0 (same_count i), λ i. entries (λ k. same_grain k i) (same_count i))
  same_grains false = (refl, refl)

  same_order : order_checks s choices ≡ order_checks z choices
  unfolding order_checks
  same_order = λ i.
      ((ltb (same.same_length i) end, ShortHeader)
      ∷ (outside 1 64 (same_count i), KindCount)
      ∷ (ltb 20 (same_kerf i), Kerf)
      ∷ (not (eqb (same.same_length i) (end + kind_bytes choices.grain * same_count i)), BlockLength)
      ∷ [])
      ++ (each_kind (λ j. (sides_outside (same_length_of j i) (same_width_of j i), KindSide j) ∷ []) 0 (same_count i)
      ++ (each_kind (λ j. (ltb 1000000 (same_price j i), Price j) ∷ (ltb 255 (same_demand j i), Demand j) ∷ []) 0 (same_count i)
      ++ (same_grains choices.grain).0 i))

  -- the job but for its plate
  pub same_job : block_job z choices ≡ plated (block_job s choices) (plate_length_at z, plate_width_at z)
  unfolding record_of
  same_job = λ i. job_from (plate_length_at z) (plate_width_at z) (sym same_kerf i) choices.turning choices.full_demand (sym same_count i)
      (entries (λ j. sym (same_length_of j) i) (sym same_count i)) (entries (λ j. sym (same_width_of j) i) (sym same_count i)) (entries (λ j. sym (same_price j) i) (sym same_count i)) (entries (λ j. sym (same_demand j) i) (sym same_count i))
      (sym (same_grains choices.grain).1 i)

  pub same_answer : (lengths widths kinds operands : List ℕ) → rack_answer s choices lengths widths kinds operands ≡ rack_answer z choices lengths widths kinds operands
  unfolding rack_checks plans_answer
  same_answer lengths widths kinds operands =
      ap₂ proceed (λ i. first_refusal (rack_size_check lengths widths ∷ (same_order i ++ (plate_checks (plate_at lengths widths) (length lengths) ++ plan_checks kinds operands))))
      (sym (ap (λ J. plans_answer J (plate_at lengths widths) (length lengths) kinds operands) same_job ∙ walk_unread (block_job s choices) (plate_length_at z, plate_width_at z) (plate_at lengths widths) kinds operands 0 (length lengths) 0 _ _))
