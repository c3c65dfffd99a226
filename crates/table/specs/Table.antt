-- The table of a job, its weights and a capacity: one word for each normal length, normal width and share. What public contracts say of it;
-- what the steps of a fill ask stands in Clauses.
-- docs/SCOPE.md: Lent memory.
use Rattle.std.specs.Prelude.{◌≡◌, List, ℕ, ◌+◌, ◌*◌, ◌<◌, get_or}
use Rattle.promises.specs.declared.Direction.TheVariants.{Length, Width}
use Rattle.cutting.specs.Job.{Job, figure_of}
pub use Rattle.promises.specs.Systems.{position_count, position, Kept}

-- the words that a table needs: p · r · (Q + 1)
abbrev pub words_needed : Job → ℕ → ℕ
words_needed J q = position_count J Length * position_count J Width * (q + 1)

-- the word of the a-th normal length, the b-th normal width and share c: (a · r + b)(Q + 1) + c
abbrev pub word : Job → ℕ → ℕ → ℕ → ℕ → ℕ
word J q a b c = (a * position_count J Width + b) * (q + 1) + c

-- each word holds the figure of its normal length, normal width and share
abbrev pub Figures : Job → (ℕ → ℕ) → ℕ → List ℕ → Type 0
Figures J weight q xs = (a b c : ℕ) → a < position_count J Length → b < position_count J Width → c < q + 1
    → get_or xs (word J q a b c) 0 ≡ figure_of J weight (position J Length a) (position J Width b) c
