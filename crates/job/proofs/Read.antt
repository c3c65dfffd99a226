-- What is known of a job block that passed its checks, of the record that was read from it, and of the answer.
use Rattle.job.proofs.Prelude.{◌≡◌, refl, sym, ◌∙◌, ap, subst, Bool, true, false, ◌||◌, List, [], ◌∷◌, ◌++◌, ℕ, ◌+◌, ◌*◌, ◌≤◌, ◌<◌, arith, ltb-false, eqb-true, not-false, ltb, eqb, length, get_or, InRange, Check, next, first_refusal, Refusal, plate_length_at, plate_width_at, count_at, kerf_at, sizes_end, length_at, width_at, price_at, demand_at, kind_bytes, outside, sides_outside, count_checks, header_checks, plateless_checks, size_check, pair_checks, each_kind, grain_checks, checks_by, job_checks, record_of, read_of, job_from, job_of, HoldsGrains, header_by, Choices, JobRecord, Ok, Err, passed, Checked, Answer}
use Rattle.refusal.proofs.Results.{value_answered, refusal_answered}
use Rattle.job.specs.Block.{short_check}
use Rattle.refusal.specs.Refusals.{refuse_when}
use Rattle.job.proofs.Checks.{check_stops, passed_both, first_append, cons_passed, each_passed}
use Rattle.job.proofs.Entries.{entries_in}

pub or_false : (a b : Bool) → (a || b) ≡ false → (a ≡ false) × (b ≡ false)
or_false true b p = (p, cc)
or_false false b p = (refl, p)

-- a number that does not lie outside a range
pub inside : (lo hi x : ℕ) → outside lo hi x ≡ false → (lo ≤ x) × (x ≤ hi)
inside lo hi x p = let q = or_false (ltb x lo) (ltb hi x) p in (ltb-false x lo q.0, ltb-false hi x q.1)

-- two sides of which none lies outside
pub both_inside : (x y : ℕ) → sides_outside x y ≡ false → ((1 ≤ x) × (x ≤ 1000)) × ((1 ≤ y) × (y ≤ 1000))
both_inside x y p = let q = or_false (outside 1 1000 x) (outside 1 1000 y) p in (inside 1 1000 x q.0, inside 1 1000 y q.1)

-- a block is at least six bytes long where its sizes are there
pub sizes_least : (old : Bool) → (6 ≤ sizes_end old) × (sizes_end old ≤ 8)
sizes_least true = omega arith
sizes_least false = omega arith

-- a kind has at least ten bytes
kinds_least : (grain : Bool) (n : ℕ) → 10 * n ≤ kind_bytes grain * n
kinds_least true n = omega arith
kinds_least false n = omega arith

module _ (choices : Choices) (s : List ℕ) where
  -- where the sizes of the block end, and how many bytes its kinds have
  abbrev sizes_bytes : ℕ
  sizes_bytes = sizes_end choices.old_block

  abbrev array_bytes : ℕ
  array_bytes = kind_bytes choices.grain * count_at s

  -- the header's numbers beside the plate's, where their checks passed
  pub record Counts : Type 0 where
    pub kinds : (1 ≤ count_at s) × (count_at s ≤ 64)
    pub kerf : kerf_at choices.old_block s ≤ 20
    pub bytes : length s ≡ sizes_bytes + array_bytes

  pub counts_passed : first_refusal (count_checks choices s) ≡ passed → Counts
  counts_passed p =
      let d = cons_passed _ _ _ p in
      let e = cons_passed _ _ _ d.1 in
      let f = cons_passed _ _ _ e.1 in
      record {
        kinds = inside 1 64 (count_at s) d.0;
        kerf = ltb-false 20 (kerf_at choices.old_block s) e.0;
        bytes = eqb-true (length s) (sizes_bytes + array_bytes) (not-false (eqb (length s) (sizes_bytes + array_bytes)) f.0);
      }

  -- the header's numbers where its checks passed
  pub header_passed : first_refusal (header_checks choices s) ≡ passed → (((1 ≤ plate_length_at s) × (plate_length_at s ≤ 1000)) × ((1 ≤ plate_width_at s) × (plate_width_at s ≤ 1000))) × Counts
  header_passed p = let a = cons_passed _ _ _ (cons_passed _ _ _ p).1 in (both_inside (plate_length_at s) (plate_width_at s) a.0, counts_passed a.1)

  -- and without the plate
  pub plateless_passed : first_refusal (plateless_checks choices s) ≡ passed → Counts
  plateless_passed p = counts_passed (cons_passed _ _ _ p).1

  -- and where they passed with the plate or without
  pub front_passed : (plate : Bool) → first_refusal (header_by plate choices s) ≡ passed → Counts
  front_passed true p = (header_passed p).1
  front_passed false p = plateless_passed p

  -- a block too short is refused first, whether its plate is read or not
  pub front_stops : (plate : Bool) {a : Checked} {r : Refusal} → a ≡ refuse_when (short_check choices.old_block s).0 (short_check choices.old_block s).1 → a ≡ Err r → a ≡ first_refusal (header_by plate choices s)
  front_stops true e p = check_stops _ _ _ e p
  front_stops false e p = check_stops _ _ _ e p

  -- such a block has all the bytes of its kinds
  pub counts_hold : (n : ℕ) → n ≡ count_at s → Counts → HoldsGrains choices.grain sizes_bytes s n
  counts_hold n e h =
      let b : sizes_bytes + kind_bytes choices.grain * n ≤ length s = rw e (omega (arith, h.bytes)) in
      ((e, omega (arith, e, h.kinds.1), (sizes_least choices.old_block).1, omega (arith, b, kinds_least choices.grain n)), b)

  pub header_holds : (n : ℕ) → n ≡ count_at s → first_refusal (header_checks choices s) ≡ passed → HoldsGrains choices.grain sizes_bytes s n
  header_holds n e p = counts_hold n e (header_passed p).1

-- a block's checks, whichever checks its header and a pair have
module _ (head : Choices → List ℕ → List Check) (pair : ℕ → List ℕ → ℕ → List Check) (s : List ℕ) (choices : Choices) where
  -- where the sizes of the block end
  abbrev end : ℕ
  end = sizes_end choices.old_block

  abbrev header : Checked
  header = first_refusal (head choices s)

  abbrev sizes : Checked
  sizes = first_refusal (each_kind (λ i. size_check end s i ∷ []) 0 (count_at s))

  abbrev pairs : Checked
  pairs = first_refusal (each_kind (pair end s) 0 (count_at s))

  abbrev grains : Checked
  grains = first_refusal (grain_checks choices.grain end s)

  -- they are the header's, then the sizes', then the pairs', then the grain bytes'
  pub block_parts : first_refusal (checks_by head pair s choices) ≡ next header (next sizes (next pairs grains))
  block_parts =
      first_append (head choices s) (each_kind (λ i. size_check end s i ∷ []) 0 (count_at s) ++ (each_kind (pair end s) 0 (count_at s) ++ grain_checks choices.grain end s))
      ∙ ap (next header) (first_append (each_kind (λ i. size_check end s i ∷ []) 0 (count_at s)) (each_kind (pair end s) 0 (count_at s) ++ grain_checks choices.grain end s)
      ∙ ap (next sizes) (first_append (each_kind (pair end s) 0 (count_at s)) (grain_checks choices.grain end s)))

  -- where a block passed, its parts did
  pub block_passed : first_refusal (checks_by head pair s choices) ≡ passed → (header ≡ passed) × (sizes ≡ passed) × (pairs ≡ passed)
  block_passed p =
      let a = passed_both header (next sizes (next pairs grains)) (sym block_parts ∙ p) in
      let b = passed_both sizes (next pairs grains) a.1 in
      (a.0, b.0, (passed_both pairs grains b.1).0)

  module _ (p : first_refusal (checks_by head pair s choices) ≡ passed) where
    -- a kind's sides where the block passed
    sides_passed : (i : ℕ) → i < count_at s → ((1 ≤ length_at end s i) × (length_at end s i ≤ 1000)) × ((1 ≤ width_at end s i) × (width_at end s i ≤ 1000))
    sides_passed i h =
        let q = each_passed (λ i. size_check end s i ∷ []) 0 (count_at s) i (block_passed p).1 (omega arith) (omega (arith, h)) in
        both_inside (length_at end s i) (width_at end s i) (cons_passed _ _ _ q).0

    -- a kind's own checks where the block passed
    pub pair_passed : (i : ℕ) → i < count_at s → first_refusal (pair end s i) ≡ passed
    pair_passed i h = each_passed (pair end s) 0 (count_at s) i (block_passed p).2 (omega arith) (omega (arith, h))

    -- its job, on whichever plate and at whichever prices, is in the scope's ranges where its header's numbers, the plate, its demands and
    -- these prices are
    pub range_by : Counts choices s → (l w : ℕ) → ((1 ≤ l) × (l ≤ 1000)) × ((1 ≤ w) × (w ≤ 1000)) → ((i : ℕ) → i < count_at s → demand_at end s i ≤ 255)
        → (prices : List ℕ) → ((i : ℕ) → i < count_at s → get_or prices i 0 ≤ 1000000)
        → InRange (job_from l w (record_of s choices).kerf (record_of s choices).turning (record_of s choices).full_demand (record_of s choices).count (record_of s choices).lengths (record_of s choices).widths prices (record_of s choices).demands (record_of s choices).grains)
    unfolding record_of
    range_by h l w plate d prices q =
        record {
          plate_length = plate.0;
          plate_width = plate.1;
          kinds = h.kinds;
          kerfs = h.kerf;
          lengths = λ i m. subst (λ x. (1 ≤ x) × (x ≤ 1000)) (sym (entries_in (length_at end s) (count_at s) i h.kinds.1 m)) (sides_passed i m).0;
          widths = λ i m. subst (λ x. (1 ≤ x) × (x ≤ 1000)) (sym (entries_in (width_at end s) (count_at s) i h.kinds.1 m)) (sides_passed i m).1;
          prices = q;
          demands = λ i m. subst (λ x. x ≤ 255) (sym (entries_in (demand_at end s) (count_at s) i h.kinds.1 m)) (d i m);
        }

-- a job block's checks, whichever its header has: its job, on whichever plate, is in the scope's ranges where the header's numbers and the
-- plate are
pub pairs_range : (head : Choices → List ℕ → List Check) (s : List ℕ) (choices : Choices) → first_refusal (checks_by head pair_checks s choices) ≡ passed → Counts choices s
    → (l w : ℕ) → ((1 ≤ l) × (l ≤ 1000)) × ((1 ≤ w) × (w ≤ 1000))
    → InRange (job_from l w (record_of s choices).kerf (record_of s choices).turning (record_of s choices).full_demand (record_of s choices).count (record_of s choices).lengths (record_of s choices).widths (record_of s choices).prices (record_of s choices).demands (record_of s choices).grains)
unfolding record_of
pairs_range head s choices p h l w plate =
    let end = sizes_end choices.old_block in
    let pair : (i : ℕ) → i < count_at s → (price_at end s i ≤ 1000000) × (demand_at end s i ≤ 255) = λ i l. (let q = cons_passed _ _ _ (pair_passed head pair_checks s choices p i l) in (ltb-false 1000000 (price_at end s i) q.0, ltb-false 255 (demand_at end s i) (cons_passed _ _ _ q.1).0)) in
    range_by head pair_checks s choices p h l w plate (λ i l. (pair i l).1) (record_of s choices).prices (λ i l. subst (λ x. x ≤ 1000000) (sym (entries_in (price_at end s) (count_at s) i h.kinds.1 l)) (pair i l).0)

module _ (s : List ℕ) (choices : Choices) (p : first_refusal (job_checks s choices) ≡ passed) where
  -- where a job block passed, its parts did
  pub job_passed : (first_refusal (header_checks choices s) ≡ passed) × (first_refusal (each_kind (λ i. size_check (sizes_end choices.old_block) s i ∷ []) 0 (count_at s)) ≡ passed) × (first_refusal (each_kind (pair_checks (sizes_end choices.old_block) s) 0 (count_at s)) ≡ passed)
  unfolding job_checks
  job_passed = block_passed header_checks pair_checks s choices p

  -- the job that was read from it is in the scope's ranges
  pub read_in_range : InRange (job_of (record_of s choices))
  unfolding job_checks record_of
  read_in_range =
      let h = header_passed choices s job_passed.0 in
      pairs_range header_checks s choices p h.1 (plate_length_at s) (plate_width_at s) h.0

-- what a caller knows from the answer of a job block: where it is a record, the block passed
module _ (s : List ℕ) (choices : Choices) {a : Answer JobRecord} (e : a ≡ read_of s choices) where
  pub answered : {j : JobRecord} → a ≡ Ok j → (first_refusal (job_checks s choices) ≡ passed) × (j ≡ record_of s choices)
  answered p = value_answered (first_refusal (job_checks s choices)) (record_of s choices) (sym e ∙ p)

  pub refused : {x : Refusal} → a ≡ Err x → first_refusal (job_checks s choices) ≡ Err x
  refused p = refusal_answered (first_refusal (job_checks s choices)) (record_of s choices) (sym e ∙ p)
