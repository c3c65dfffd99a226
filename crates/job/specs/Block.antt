-- The job block: where each field stands, when a block is refused, the record that a good one gives with its job, and the number and
-- values of what reading it answers.
-- docs/SCOPE.md: Job block; The table of refusals.
use Rattle.std.specs.Prelude.{◌≡◌, Bool, false, List, [], ◌∷◌, ℕ, ltb, eqb, get_or}
use Rattle.cutting.specs.Limits.{most_demand}
use Rattle.cutting.specs.Job.{Job}
use Rattle.refusal.specs.Refusals.{Check, Outcome, first_refusal, outcome_by}
use Rattle.promises.specs.declared.Refusal.TheVariants.{Demand}
use Rattle.promises.specs.declared.Choices.{Choices}
use Rattle.promises.specs.declared.JobRecord.{JobRecord}
pub use Rattle.promises.specs.Block.{with_full_demand, with_old_block, u16_at, u32_at, count_at, kerf_at, sizes_end, length_at, width_at, price_at, demand_at, grain_at, kind_bytes, sides_outside, short_check, count_checks, header_checks, plateless_checks, size_check, pair_checks, grain_check, grain_checks, array_checks, checks_by, grains_of, unpriced, empty_record, KerfNone, job_of}
pub use Rattle.promises.specs.Calls.{job_values}
pub use Rattle.promises.specs.Refusals.{outside}
unfoldable pub use Rattle.promises.specs.Block.{job_checks, record_of}
unfoldable pub use Rattle.promises.specs.Lists.{entries}
unfoldable pub use Rattle.promises.specs.Refusals.{each_kind}
use Rattle.promises.specs.Refusals.{Checked, Answer, answer_by, outcome_of}

-- the sizes stand first: the plate's length
abbrev pub plate_length_at : List ℕ → ℕ
plate_length_at s = u16_at s 0

-- the plate's width
abbrev pub plate_width_at : List ℕ → ℕ
plate_width_at s = u16_at s 2

-- check 7, of one kind
abbrev pub demand_check : ℕ → List ℕ → ℕ → Check
demand_check h s i = (ltb most_demand (demand_at h s i), Demand i)

-- the same record with other prices
abbrev pub priced : List ℕ → JobRecord → JobRecord
priced prices j = record {
  length = j.length;
  width = j.width;
  count = j.count;
  kerf = j.kerf;
  turning = j.turning;
  full_demand = j.full_demand;
  lengths = j.lengths;
  widths = j.widths;
  prices = prices;
  demands = j.demands;
  grains = j.grains;
}

-- what reading answers by a verdict: a record, or a refusal
abbrev pub read_by : Checked → JobRecord → Answer JobRecord
read_by v j = answer_by v j

-- what reading a block answers: its record, or the first refusal of its checks
abbrev pub read_of : List ℕ → Choices → Answer JobRecord
read_of s choices = read_by (first_refusal (job_checks s choices)) (record_of s choices)

-- two blocks are read alike, each with its choices: the checks of the job are the same, without its plate (a rack's) and without its prices
-- (the saw's) too, and so is the record. A call reads nothing else of a block, so its answer and what it leaves in memory are the same
pub record ReadAlike (s : List ℕ) (choices : Choices) (z : List ℕ) (other : Choices) : Type 0 where
  pub checks : job_checks s choices ≡ job_checks z other
  pub plateless : checks_by plateless_checks pair_checks s choices ≡ checks_by plateless_checks pair_checks z other
  pub unpriced : checks_by header_checks (λ h b i. demand_check h b i ∷ []) s choices ≡ checks_by header_checks (λ h b i. demand_check h b i ∷ []) z other
  pub record_is : record_of s choices ≡ record_of z other

-- kerf 0 in the new block is read as the old block
abbrev pub KerfNoneRead : List ℕ → Choices → Type 0
KerfNoneRead s choices = (z : List ℕ) → choices.old_block ≡ false → KerfNone s z → ReadAlike s choices z (with_old_block choices)

-- an answer's number and values
abbrev pub job_outcome : Answer JobRecord → Outcome
job_outcome a = outcome_of job_values a

-- the number and values that reading a block answers
abbrev pub job_said : List ℕ → Choices → Outcome
job_said s choices = outcome_by (first_refusal (job_checks s choices)) (job_values (record_of s choices))

-- the job of lent arrays
abbrev pub job_from : ℕ → ℕ → ℕ → Bool → Bool → ℕ → List ℕ → List ℕ → List ℕ → List ℕ → List ℕ → Job
job_from l w kerf turning full n lengths widths prices demands grains = record {
  plate = (l, w);
  kerf = kerf;
  turning = turning;
  full_demand = full;
  count = n;
  size = λ i. (get_or lengths i 0, get_or widths i 0);
  price = λ i. get_or prices i 0;
  demand = λ i. get_or demands i 0;
  grain = λ i. eqb (get_or grains i 0) 1;
}
