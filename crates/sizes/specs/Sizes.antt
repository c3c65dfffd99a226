-- The sizes block: where each field stands, when a block is refused, the sizes that a good one gives, and the true job that they make of a
-- model: the model's kinds at other sizes, on a plate and with a kerf of their own.
-- docs/SCOPE.md: True sizes; The table of refusals.
use Rattle.std.specs.Prelude.{◌||◌, not, List, [], ◌∷◌, ℕ, ◌+◌, ◌*◌, ◌≤◌, ◌<◌, ltb, eqb, length, get_or}
use Rattle.cutting.specs.Limits.{most_true_side, most_true_kerf}
use Rattle.cutting.specs.Job.{Job}
use Rattle.refusal.specs.Refusals.{Answer, Check, Checked, answer_by, next, first_refusal}
use Rattle.promises.specs.declared.Refusal.TheVariants.{SizesLength, TrueSize}
use Rattle.promises.specs.declared.Choices.{Choices}
use Rattle.job.specs.Block.{u32_at, count_at, each_kind, job_checks, entries, record_of}
use Rattle.job.specs.Weights.{block_job}
use Rattle.sizes.specs.declared.TrueSizes.{TrueSizes}
use Rattle.sizes.specs.declared.TrueJob.{TrueJob}
pub use Rattle.promises.specs.True.{true_sides_outside}

-- the plate's length stands first
abbrev pub true_plate_length_at : List ℕ → ℕ
true_plate_length_at s = u32_at s 0

-- then its width
abbrev pub true_plate_width_at : List ℕ → ℕ
true_plate_width_at s = u32_at s 4

-- then the kerf
abbrev pub true_kerf_at : List ℕ → ℕ
true_kerf_at s = u32_at s 8

-- then a length and a width for each kind. The length of kind i
abbrev pub true_length_at : List ℕ → ℕ → ℕ
true_length_at s i = u32_at s (12 + 8 * i)

-- the width of kind i
abbrev pub true_width_at : List ℕ → ℕ → ℕ
true_width_at s i = u32_at s (16 + 8 * i)

-- check 31, for n kinds
abbrev pub bytes_check : ℕ → List ℕ → Check
bytes_check n s = (not (eqb (length s) (12 + 8 * n)), SizesLength)

-- check 32, of the plate and the kerf
abbrev pub plate_check : List ℕ → Check
plate_check s = (true_sides_outside (true_plate_length_at s) (true_plate_width_at s) || ltb most_true_kerf (true_kerf_at s), TrueSize 0)

-- check 32, of kind i
abbrev pub kind_check : List ℕ → ℕ → Check
kind_check s i = (true_sides_outside (true_length_at s i) (true_width_at s i), TrueSize (i + 1))

-- the checks of a sizes block for n kinds, in the table's order
unfoldable pub sizes_checks : ℕ → List ℕ → List Check
sizes_checks n s = bytes_check n s ∷ plate_check s ∷ each_kind (λ i. kind_check s i ∷ []) 0 n

-- the sizes of a block for n kinds
unfoldable pub sizes_of : ℕ → List ℕ → TrueSizes
sizes_of n s = record {
  length = true_plate_length_at s;
  width = true_plate_width_at s;
  kerf = true_kerf_at s;
  lengths = entries (true_length_at s) n;
  widths = entries (true_width_at s) n;
}

-- what reading a sizes block for n kinds answers: its sizes, or the first refusal of its checks
abbrev pub sizes_read : ℕ → List ℕ → Answer TrueSizes
sizes_read n s = answer_by (first_refusal (sizes_checks n s)) (sizes_of n s)

-- the true job of a model M: these sizes, and the model's kinds otherwise
abbrev pub true_job : Job → TrueSizes → Job
true_job M z = record {
  plate = (z.length, z.width);
  kerf = z.kerf;
  turning = M.turning;
  full_demand = M.full_demand;
  count = M.count;
  size = λ i. (get_or z.lengths i 0, get_or z.widths i 0);
  price = M.price;
  demand = M.demand;
  grain = M.grain;
}

-- the true job of a job block and a sizes block
abbrev pub block_true_job : List ℕ → Choices → List ℕ → Job
block_true_job s choices z = true_job (block_job s choices) (sizes_of (count_at s) z)

-- the verdict on a job block and a sizes block: the job's checks come first
abbrev pub true_verdict : List ℕ → Choices → List ℕ → Checked
true_verdict s choices z = next (first_refusal (job_checks s choices)) (first_refusal (sizes_checks (count_at s) z))

-- what reading a job block and a sizes block answers
abbrev pub true_read : List ℕ → Choices → List ℕ → Answer TrueJob
true_read s choices z = answer_by (true_verdict s choices z) (record { model = record_of s choices; sizes = sizes_of (count_at s) z })

-- a job whose sizes are in the ranges of true sizes
pub record TrueRange (J : Job) : Type 0 where
  pub plate_length : (1 ≤ J.plate.0) × (J.plate.0 ≤ most_true_side)
  pub plate_width : (1 ≤ J.plate.1) × (J.plate.1 ≤ most_true_side)
  pub kerfs : J.kerf ≤ most_true_kerf
  pub lengths : (i : ℕ) → i < J.count → (1 ≤ (J.size i).0) × ((J.size i).0 ≤ most_true_side)
  pub widths : (i : ℕ) → i < J.count → (1 ≤ (J.size i).1) × ((J.size i).1 ≤ most_true_side)
