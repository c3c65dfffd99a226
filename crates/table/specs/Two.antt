-- The table of two weights: the words of the table's layout, each for every second share, which runs fastest. What public contracts say
-- of it.
-- docs/SCOPE.md: Two weights a kind.
use Rattle.std.specs.Prelude.{◌≡◌, List, ℕ, ◌+◌, ◌*◌, ◌<◌, get_or}
use Rattle.promises.specs.declared.Direction.TheVariants.{Length, Width}
use Rattle.cutting.specs.Job.{Job}
use Rattle.table.specs.Table.{position_count, position, words_needed, word}
pub use Rattle.promises.specs.Systems.{pair_count}

-- the words that the table needs: p · r · (Q + 1) · (Q' + 1)
abbrev pub two_words : Job → ℕ → ℕ → ℕ
two_words J q q' = words_needed J q * (q' + 1)

-- the word of the a-th normal length, the b-th normal width and the shares c and c': ((a · r + b)(Q + 1) + c)(Q' + 1) + c'
abbrev pub two_word : Job → ℕ → ℕ → ℕ → ℕ → ℕ → ℕ → ℕ
two_word J q q' a b c c' = word J q a b c * (q' + 1) + c'

-- each word holds the figure F of its normal length, normal width and pair of shares
abbrev pub TwoFigures : Job → (ℕ → ℕ → ℕ → ℕ → ℕ) → ℕ → ℕ → List ℕ → Type 0
TwoFigures J F q q' xs = (a b c c' : ℕ) → a < position_count J Length → b < position_count J Width → c < q + 1 → c' < q' + 1
    → get_or xs (two_word J q q' a b c c') 0 ≡ F (position J Length a) (position J Width b) c c'
