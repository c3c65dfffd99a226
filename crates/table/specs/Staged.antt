-- The staged table of a job, its weights, a capacity and a limit of stages: blocks of the table's layout one after another, one for no
-- cut, then for each stage length first and width first. What public contracts say of it.
-- docs/SCOPE.md: No more than so many stages.
use Rattle.std.specs.Prelude.{◌≡◌, List, ℕ, ◌+◌, ◌*◌, ◌≤◌, ◌<◌, get_or}
use Rattle.promises.specs.declared.Direction.{Direction}
use Rattle.promises.specs.declared.Direction.TheVariants.{Length, Width}
use Rattle.cutting.specs.Job.{Job}
use Rattle.cutting.specs.Staged.{block}
use Rattle.table.specs.Table.{position_count, position, words_needed, word}
pub use Rattle.promises.specs.Systems.{block_number}

-- the words that the blocks up to limit n need: (2n + 1) · p · r · (Q + 1)
abbrev pub staged_words : Job → ℕ → ℕ → ℕ
staged_words J q n = (2 * n + 1) * words_needed J q

-- the word of a block, the a-th normal length, the b-th normal width and share c
abbrev pub staged_word : Job → ℕ → ℕ → Direction → ℕ → ℕ → ℕ → ℕ
staged_word J q k d a b c = block_number k d * words_needed J q + word J q a b c

-- each word holds the figure of its block, normal length, normal width and share
abbrev pub StagedFigures : Job → (ℕ → ℕ) → ℕ → ℕ → List ℕ → Type 0
StagedFigures J weight n q xs = (k : ℕ) (d : Direction) (a b c : ℕ) → k ≤ n → a < position_count J Length → b < position_count J Width → c < q + 1
    → get_or xs (staged_word J q k d a b c) 0 ≡ block J weight k d (position J Length a) (position J Width b) c
