-- What the calls read: the job block and its record, the saw's reading of it, the weights, and the plan block. Each with its checks in the
-- order of the table.
-- docs/SCOPE.md: Job block; Grain; The blade's width; Weights and capacity; Plans; Saw and office; The table of refusals.
use Rattle.std.specs.Prelude.{◌≡◌, Bool, true, false, ◌||◌, not, List, [], ◌∷◌, ◌++◌, ℕ, ◌+◌, ◌*◌, ◌≤◌, ◌<◌, ltb, eqb, length, get_or, take, drop}
use mathlib.Core.List.{map}
use Rattle.promises.specs.Prelude.{Choices, JobRecord}
use Rattle.promises.specs.declared.Refusal.TheVariants as refusal
use Rattle.promises.specs.Lists.{range, entries}
use Rattle.promises.specs.Refusals.{Check, outside, each_kind, most_side, most_kerf, most_kinds, most_price, most_demand, most_capacity, most_pairs, most_states, most_limit}
use Rattle.promises.specs.Job.{Job, capacity}
use Rattle.promises.specs.Systems.{pair_count, state_count}

-- the same choices, and the capacity of the full demands
abbrev pub with_full_demand : Choices → Choices
with_full_demand choices = record { turning = choices.turning; full_demand = true; old_block = choices.old_block; grain = choices.grain }

-- the same choices, and the old block
abbrev pub with_old_block : Choices → Choices
with_old_block choices = record { turning = choices.turning; full_demand = choices.full_demand; old_block = true; grain = choices.grain }

-- a field of two bytes, lowest byte first
abbrev pub u16_at : List ℕ → ℕ → ℕ
u16_at s at = get_or s at 0 + 256 * get_or s (at + 1) 0

-- a field of four bytes, lowest byte first
abbrev pub u32_at : List ℕ → ℕ → ℕ
u32_at s at = get_or s at 0 + 256 * get_or s (at + 1) 0 + 65536 * get_or s (at + 2) 0 + 16777216 * get_or s (at + 3) 0

-- the number of kinds, after the plate's length and width
abbrev pub count_at : List ℕ → ℕ
count_at s = u16_at s 4

-- the kerf, by whether the block is the old one, which has none
abbrev pub kerf_at : Bool → List ℕ → ℕ
kerf_at true s = 0
kerf_at false s = u16_at s 6

-- the bytes of the sizes, in the old block and in the new
abbrev pub sizes_end : Bool → ℕ
sizes_end true = 6
sizes_end false = 8

-- from byte h on a length and a width for each kind
abbrev pub length_at : ℕ → List ℕ → ℕ → ℕ
length_at h s i = u16_at s (h + 4 * i)

abbrev pub width_at : ℕ → List ℕ → ℕ → ℕ
width_at h s i = u16_at s (h + 2 + 4 * i)

-- behind them a price, of four bytes, and a demand for each kind
abbrev pub price_at : ℕ → List ℕ → ℕ → ℕ
price_at h s i = u32_at s (h + 4 * count_at s + 6 * i)

abbrev pub demand_at : ℕ → List ℕ → ℕ → ℕ
demand_at h s i = u16_at s (h + 4 + 4 * count_at s + 6 * i)

-- behind them, where the call chooses grain, a byte for each kind: 1, the kind keeps its grain, 0, it need not
abbrev pub grain_at : ℕ → List ℕ → ℕ → ℕ
grain_at h s i = get_or s (h + 10 * count_at s + i) 0

-- the bytes of a kind in all its arrays, by whether grain is chosen
abbrev pub kind_bytes : Bool → ℕ
kind_bytes true = 11
kind_bytes false = 10

-- one of two sides lies outside 1 to 1,000
abbrev pub sides_outside : ℕ → ℕ → Bool
sides_outside l w = outside 1 most_side l || outside 1 most_side w

-- check 1
abbrev pub short_check : Bool → List ℕ → Check
short_check old s = (ltb (length s) (sizes_end old), refusal.ShortHeader)

-- checks 3, 27 and 4
abbrev pub count_checks : Choices → List ℕ → List Check
count_checks choices s =
    (outside 1 most_kinds (count_at s), refusal.KindCount)
    ∷ (ltb most_kerf (kerf_at choices.old_block s), refusal.Kerf)
    ∷ (not (eqb (length s) (sizes_end choices.old_block + kind_bytes choices.grain * count_at s)), refusal.BlockLength)
    ∷ []

-- the header's checks: 1, 2, then 3, 27 and 4
abbrev pub header_checks : Choices → List ℕ → List Check
header_checks choices s = short_check choices.old_block s ∷ (sides_outside (u16_at s 0) (u16_at s 2), refusal.PlateSide) ∷ count_checks choices s

-- those of a header whose plate is not read: 1, then 3, 27 and 4
abbrev pub plateless_checks : Choices → List ℕ → List Check
plateless_checks choices s = short_check choices.old_block s ∷ count_checks choices s

-- check 5, of one kind
abbrev pub size_check : ℕ → List ℕ → ℕ → Check
size_check h s i = (sides_outside (length_at h s i) (width_at h s i), refusal.KindSide i)

-- checks 6 and 7, of one kind, price first
abbrev pub pair_checks : ℕ → List ℕ → ℕ → List Check
pair_checks h s i = (ltb most_price (price_at h s i), refusal.Price i) ∷ (ltb most_demand (demand_at h s i), refusal.Demand i) ∷ []

-- check 7 alone: the saw reads no price
abbrev pub demand_checks : ℕ → List ℕ → ℕ → List Check
demand_checks h s i = (ltb most_demand (demand_at h s i), refusal.Demand i) ∷ []

-- check 35, of one kind
abbrev pub grain_check : ℕ → List ℕ → ℕ → Check
grain_check h s i = (ltb 1 (grain_at h s i), refusal.Grain i)

-- the checks of the grain bytes, none where the block has none
abbrev pub grain_checks : Bool → ℕ → List ℕ → List Check
grain_checks true h s = each_kind (λ i. grain_check h s i ∷ []) 0 (count_at s)
grain_checks false h s = []

-- the checks of the arrays, from byte h on: the sizes, then the pairs, each by the checks given, then the grain bytes
abbrev pub array_checks : (ℕ → List Check) → Bool → ℕ → List ℕ → List Check
array_checks pair grain h s = each_kind (λ i. size_check h s i ∷ []) 0 (count_at s) ++ (each_kind pair 0 (count_at s) ++ grain_checks grain h s)

-- the checks of a block, in the table's order: the header, by the checks given, then the arrays, each pair by the checks given
abbrev pub checks_by : (Choices → List ℕ → List Check) → (ℕ → List ℕ → ℕ → List Check) → List ℕ → Choices → List Check
checks_by header pair s choices = header choices s ++ array_checks (pair (sizes_end choices.old_block) s) choices.grain (sizes_end choices.old_block) s

-- the checks of a job block, 1 to 7, 27 and 35; of an order whose plate is not read; and of a block as the saw reads it, which gives no 6
unfoldable pub job_checks : List ℕ → Choices → List Check
job_checks s choices = checks_by header_checks pair_checks s choices

unfoldable pub order_checks : List ℕ → Choices → List Check
order_checks s choices = checks_by plateless_checks pair_checks s choices

unfoldable pub saw_checks : List ℕ → Choices → List Check
saw_checks s choices = checks_by header_checks demand_checks s choices

-- the grain bytes of a record: the block's, and 0 where it has none
abbrev pub grains_of : Bool → ℕ → List ℕ → List ℕ
grains_of true h s = entries (grain_at h s) (count_at s)
grains_of false h s = entries (λ i. 0) 0

-- the record of a block, with the choices that it keeps
unfoldable pub record_of : List ℕ → Choices → JobRecord
record_of s choices = record {
  length = u16_at s 0;
  width = u16_at s 2;
  count = count_at s;
  kerf = kerf_at choices.old_block s;
  turning = choices.turning;
  full_demand = choices.full_demand;
  lengths = entries (length_at (sizes_end choices.old_block) s) (count_at s);
  widths = entries (width_at (sizes_end choices.old_block) s) (count_at s);
  prices = entries (price_at (sizes_end choices.old_block) s) (count_at s);
  demands = entries (demand_at (sizes_end choices.old_block) s) (count_at s);
  grains = grains_of choices.grain (sizes_end choices.old_block) s;
}

-- the same record with every price 0, the saw's record of a block, and a record of zeros
abbrev pub unpriced : JobRecord → JobRecord
unpriced j = record { length = j.length; width = j.width; count = j.count; kerf = j.kerf; turning = j.turning; full_demand = j.full_demand; lengths = j.lengths; widths = j.widths; prices = entries (λ i. 0) 0; demands = j.demands; grains = j.grains }

abbrev pub saw_record : List ℕ → Choices → JobRecord
saw_record s choices = unpriced (record_of s choices)

abbrev pub empty_record : JobRecord
empty_record = record { length = 0; width = 0; count = 0; kerf = 0; turning = false; full_demand = false; lengths = entries (λ i. 0) 0; widths = entries (λ i. 0) 0; prices = entries (λ i. 0) 0; demands = entries (λ i. 0) 0; grains = entries (λ i. 0) 0 }

-- the job of a record
abbrev pub job_of : JobRecord → Job
job_of j = record {
  plate = (j.length, j.width);
  kerf = j.kerf;
  turning = j.turning;
  full_demand = j.full_demand;
  count = j.count;
  size = λ i. (get_or j.lengths i 0, get_or j.widths i 0);
  price = λ i. get_or j.prices i 0;
  demand = λ i. get_or j.demands i 0;
  grain = λ i. eqb (get_or j.grains i 0) 1;
}

-- the job of a block, with the choices of a call; and the saw's
abbrev pub block_job : List ℕ → Choices → Job
block_job s choices = job_of (record_of s choices)

abbrev pub saw_job : List ℕ → Choices → Job
saw_job s choices = job_of (saw_record s choices)

-- the weight of each kind, from the list of weights
abbrev pub weight_in : List ℕ → ℕ → ℕ
weight_in ws i = get_or ws i 0

-- checks 8 and 9
abbrev pub weight_checks : Job → List ℕ → List Check
weight_checks J ws = (not (eqb (length ws) J.count), refusal.WeightCount) ∷ (ltb most_capacity (capacity J (weight_in ws)), refusal.Capacity) ∷ []

-- checks 8, 24, 9, which reads either capacity, and 25: the product of both, each plus 1, above 65,536
abbrev pub two_checks : Job → List ℕ → List ℕ → List Check
two_checks J first second = (not (eqb (length first) J.count), refusal.WeightCount) ∷ (not (eqb (length second) J.count), refusal.SecondCount)
    ∷ (ltb most_capacity (capacity J (weight_in first)) || ltb most_capacity (capacity J (weight_in second)), refusal.Capacity)
    ∷ (ltb most_pairs (pair_count (capacity J (weight_in first)) (capacity J (weight_in second))), refusal.CapacityProduct) ∷ []

-- check 30: the product of the demands, each plus 1, above 4,096
abbrev pub state_check : Job → Check
state_check J = (ltb most_states (state_count J), refusal.DemandProduct)

-- check 22: a limit outside 1 to 8
abbrev pub limit_check : ℕ → Check
limit_check n = (outside 1 most_limit n, refusal.StageLimit)

-- a plan block has the node count, that many kinds, that many operands
abbrev pub plan_count : List ℕ → ℕ
plan_count p = u16_at p 0

abbrev pub plan_kinds : List ℕ → List ℕ
plan_kinds p = take (plan_count p) (drop 2 p)

unfoldable pub plan_operands : List ℕ → List ℕ
plan_operands p = map (λ i. u16_at p (2 + plan_count p + 2 * i)) (range 0 (plan_count p))

-- check 10 of a plan block
abbrev pub block_checks : List ℕ → List Check
block_checks p = (ltb (length p) 2 || not (eqb (length p) (2 + 3 * plan_count p)), refusal.PlanLength) ∷ []

-- byte k stands in the price field of one of n kinds, in a block whose sizes end at byte h
abbrev pub PriceByte : ℕ → ℕ → ℕ → Type 0
PriceByte h n k = (i : ℕ) × (i < n) × (h + 4 * n + 6 * i ≤ k) × (k < h + 4 * n + 6 * i + 4)

-- two blocks that differ only in prices
pub record OnlyPrices (choices : Choices) (s z : List ℕ) : Type 0 where
  pub same_length : length s ≡ length z
  pub same_bytes : (k : ℕ) → (PriceByte (sizes_end choices.old_block) (count_at s) k → ⊥) → get_or s k 0 ≡ get_or z k 0

-- the prices are free: whatever four bytes are to stand where the office reads the price of a kind, a block that differs only in prices has
-- them
abbrev pub PricesFree : Choices → List ℕ → Type 0
PricesFree choices s = (i a b c d : ℕ) → i < count_at s → (z : List ℕ) × OnlyPrices choices s z × (price_at (sizes_end choices.old_block) z i ≡ a + 256 * b + 65536 * c + 16777216 * d)

-- two blocks of one length that differ only in the sides of their plates, the first four bytes
pub record OnlyPlate (s z : List ℕ) : Type 0 where
  pub same_length : length s ≡ length z
  pub same_bytes : (k : ℕ) → 4 ≤ k → get_or s k 0 ≡ get_or z k 0

-- the new block s of a job with kerf 0 and its old block z, which has no bytes 6 and 7
pub record KerfNone (s z : List ℕ) : Type 0 where
  pub none : u16_at s 6 ≡ 0
  pub two_more : length s ≡ length z + 2
  pub front : (k : ℕ) → k < 6 → get_or s k 0 ≡ get_or z k 0
  pub behind : (k : ℕ) → 6 ≤ k → get_or s (k + 2) 0 ≡ get_or z k 0

-- two blocks are read alike, each with its choices: the checks of the job are the same, without its plate (a rack's) and without its prices
-- (the saw's) too, and so is the record. A call reads nothing else of a block, so its answer and what it leaves in memory are the same
pub record ReadAlike (s : List ℕ) (choices : Choices) (z : List ℕ) (other : Choices) : Type 0 where
  pub checks : job_checks s choices ≡ job_checks z other
  pub plateless : order_checks s choices ≡ order_checks z other
  pub unpriced : saw_checks s choices ≡ saw_checks z other
  pub record_is : record_of s choices ≡ record_of z other

-- kerf 0 in the new block is read as the old block
abbrev pub KerfNoneRead : List ℕ → Choices → Type 0
KerfNoneRead s choices = (z : List ℕ) → choices.old_block ≡ false → KerfNone s z → ReadAlike s choices z (with_old_block choices)
