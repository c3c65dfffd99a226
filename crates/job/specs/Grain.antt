-- A job block read without the choice of grain: what it means that it is read as before there was grain. proofs/Grain has that it always is.
-- docs/SCOPE.md: Grain.
use Rattle.std.specs.Prelude.{◌≡◌, not, List, [], ◌∷◌, ◌++◌, ℕ, ◌+◌, ◌*◌, ltb, eqb, length}
use Rattle.cutting.specs.Limits.{most_kinds, most_kerf}
use Rattle.cutting.specs.Lists.{each}
use Rattle.cutting.specs.Pieces.{ways}
use Rattle.cutting.specs.Job.{turns, widened, copies_on, plate_copies, ordered, members}
use Rattle.refusal.specs.Refusals.{Check}
use Rattle.promises.specs.declared.Refusal.TheVariants.{KindCount, Kerf, BlockLength}
use Rattle.promises.specs.declared.Choices.{Choices}
use Rattle.job.specs.Block.{count_at, kerf_at, sizes_end, outside, count_checks, size_check, each_kind, array_checks}
use Rattle.job.specs.Weights.{block_job}

-- the block has ten bytes a kind, its arrays are checked by their sizes and pairs alone, and each kind may be turned exactly where the job's
-- pieces may: so are the pieces that may lie, and the copies that can lie on the plate
pub record Ungrained (s : List ℕ) (choices : Choices) : Type 0 where
  pub counts : count_checks choices s
      ≡ (outside 1 most_kinds (count_at s), KindCount)
      ∷ (ltb most_kerf (kerf_at choices.old_block s), Kerf)
      ∷ (not (eqb (length s) (sizes_end choices.old_block + 10 * count_at s)), BlockLength)
      ∷ []
  pub arrays : (pair : ℕ → List Check) (h : ℕ) → array_checks pair choices.grain h s ≡ each_kind (λ i. size_check h s i ∷ []) 0 (count_at s) ++ each_kind pair 0 (count_at s)
  pub turning : (i : ℕ) → turns (block_job s choices) i ≡ choices.turning
  pub pieces : members (block_job s choices) ≡ each (ways choices.turning) (ordered (block_job s choices))
  pub copies : (i : ℕ) → plate_copies (block_job s choices) i ≡ copies_on choices.turning (widened (block_job s choices)).plate ((widened (block_job s choices)).size i)
