-- Definitions that the contracts of the fills over states cite. The words of a cell while the table is filled: a figure below 2^41, and a
-- note above it. While the cell is made, a note other than 0 is a flag: the state stands for a rise. In a finished cell the notes of the
-- first words are its list of states, each plus 1, ended by 0; the mark of an entry says in which direction the cell
-- does not rise there, 1 in width and 2 in length.
use Rattle.std.specs.Prelude.{◌≡◌, ◌⊎◌, Bool, List, ℕ, zero, suc, ◌+◌, ◌-◌, ◌*◌, ◌/◌, ◌%◌, ◌≤◌, ◌<◌, min, T, length, get_or}
use Rattle.promises.specs.declared.Direction.TheVariants.{Length, Width}
use Rattle.cutting.specs.Job.{Job}
use Rattle.table.specs.Table.{position_count, position}
use Rattle.table.specs.Words.{Outside}
use Rattle.table.specs.States.{below, Blocks, Covers, figure_at}

-- the figure of a word, its lower 41 bits
unfoldable pub figure_in : ℕ → ℕ
figure_in w = w % 2199023255552

-- the note of a word: 0 where the number above them is 0, and else one more than a fourth of that number
unfoldable pub note_in : ℕ → ℕ
note_in w = w / 8796093022208 + min 1 (w / 2199023255552)

-- the mark of a word with a note: how far that number is past the least of an entry with this note
unfoldable pub mark_in : ℕ → ℕ
mark_in w = (w / 2199023255552 + 3) % 4

-- the figure at state s of the cell from word x on
abbrev pub held : List ℕ → ℕ → ℕ → ℕ
held xs x s = figure_in (get_or xs (x + s) 0)

-- the note at state s, or at place s of the list, of that cell
abbrev pub note : List ℕ → ℕ → ℕ → ℕ
note xs x s = note_in (get_or xs (x + s) 0)

-- the mark at place k of the list of that cell
abbrev pub mark : List ℕ → ℕ → ℕ → ℕ
mark xs x k = mark_in (get_or xs (x + k) 0)

-- the order of states that a list of numbers of states gives
abbrev pub under : List ℕ → ℕ → ℕ → ℕ → Bool
under blocks d = below (λ i. get_or blocks i 0) d

-- a list of numbers of states up to digit d; a cell has as many words as there are states
pub record Digits (blocks : List ℕ) (d words : ℕ) : Type 0 where
  pub digits : Blocks (λ i. get_or blocks i 0) d
  pub listed : d < length blocks
  pub states : words ≡ get_or blocks d 0
  pub most : words ≤ 65536

-- the sum of the digits of a number whose last digit is digit d
unfoldable pub digit_sum : (ℕ → ℕ) → ℕ → ℕ → ℕ
digit_sum B zero s = s
digit_sum B (suc d) s = s / B d + digit_sum B d (s % B d)

-- the table's first words hold the sums of the digits of the states below n
abbrev pub Sums : List ℕ → ℕ → ℕ → List ℕ → Type 0
Sums blocks d n xs = (s : ℕ) → s < n → get_or xs s 0 ≡ digit_sum (λ i. get_or blocks i 0) d s

-- where states have several digits, the table's first words, all before `at`, hold their digit sums
pub record Summed (blocks : List ℕ) (d words at : ℕ) (xs : List ℕ) : Type 0 where
  pub before : 1 ≤ d → words ≤ at
  pub sums : 1 ≤ d → Sums blocks d words xs

-- the words below `end` are values f that those below `size` were and that gain 1 with `size` words, whatever f; the rest is as it was
pub record Stepped (size end : ℕ) (old new : List ℕ) : Type 0 where
  pub steps : (f : ℕ → ℕ) → ((s : ℕ) → s < size → get_or old s 0 ≡ f s) → ((s : ℕ) → size ≤ s → s < end → f s ≡ f (s - size) + 1) → (s : ℕ) → s < end → get_or new s 0 ≡ f s
  pub rest : (i : ℕ) → end ≤ i → get_or new i 0 ≡ get_or old i 0

-- the row of length 0 is written: 0, but for its first cell, which has the digit sums
pub record FirstRow (blocks : List ℕ) (d words stride : ℕ) (old new : List ℕ) : Type 0 where
  pub sums : Sums blocks d words new
  pub zeros : (i : ℕ) → words ≤ i → i < stride → get_or new i 0 ≡ 0
  pub rest : (i : ℕ) → stride ≤ i → get_or new i 0 ≡ get_or old i 0

-- figures do not fall from a state to one above
abbrev pub Rises : (ℕ → ℕ → Bool) → ℕ → (ℕ → ℕ) → Type 0
Rises le words f = (t s : ℕ) → s < words → T (le t s) → f t ≤ f s

-- a cell that is made, from `at` on: the digits of its states, its room in the table, and figures that rise with the states
pub record Growing (blocks : List ℕ) (d words at : ℕ) (xs : List ℕ) : Type 0 where
  pub digits : Digits blocks d words
  pub room : at + words ≤ length xs
  pub rises : Rises (under blocks d) words (held xs at)

-- a word of state s when all states from t on were raised to v: it is v where it was less, and else as it was
abbrev pub Lift : (ℕ → ℕ → Bool) → ℕ → ℕ → ℕ → ℕ → ℕ → Type 0
Lift le t v s w w' = ((w' ≡ w) × (T (le t s) → v ≤ figure_in w)) ⊎ ((w' ≡ v) × T (le t s) × (figure_in w < v))

-- the m words from `at` on are raised to v at the states from t on
pub record Lifted (le : ℕ → ℕ → Bool) (at m t v : ℕ) (old new : List ℕ) : Type 0 where
  pub lifts : (s : ℕ) → s < m → Lift le t v s (get_or old (at + s) 0) (get_or new (at + s) 0)
  pub rest : Outside at (at + m) old new

-- the same, and state t is flagged
pub record Raised (le : ℕ → ℕ → Bool) (at words t v : ℕ) (old new : List ℕ) : Type 0 where
  pub lifts : (s : ℕ) → s < words → (s ≡ t → ⊥) → Lift le t v s (get_or old (at + s) 0) (get_or new (at + s) 0)
  pub own : get_or new (at + t) 0 ≡ v + 2199023255552
  pub rest : Outside at (at + words) old new

-- state t of the cell from x on is flagged
abbrev pub Flagged : List ℕ → ℕ → ℕ → Type 0
Flagged xs x t = 1 ≤ note xs x t

-- no figure of the cell is above f
abbrev pub Low : (ℕ → ℕ) → ℕ → ℕ → List ℕ → Type 0
Low f x words xs = (s : ℕ) → s < words → held xs x s ≤ f s

-- states flagged since lie below `high`, a number of states no less than `top`
pub record Topped (at words top high : ℕ) (old new : List ℕ) : Type 0 where
  pub more : top ≤ high
  pub most : top ≤ words → high ≤ words
  pub flags : (t : ℕ) → t < words → Flagged new at t → Flagged old at t ⊎ (t < high)

-- a cell that is made grows: its figures do not fall, keep rising with the states, and stay covered by its flags
pub record Grown (le : ℕ → ℕ → Bool) (at words : ℕ) (old new : List ℕ) : Type 0 where
  pub more : (s : ℕ) → s < words → held old at s ≤ held new at s
  pub rises : Rises le words (held old at) → Rises le words (held new at)
  pub covers : (g : ℕ → ℕ) → Rises le words (held old at) → Covers le words (Flagged old at) (held old at) g → Covers le words (Flagged new at) (held new at) g
  pub rest : Outside at (at + words) old new

-- the cell has taken v at state t + u, where that is a state and no digit carries
pub record Taken (le : ℕ → ℕ → Bool) (at words t u v : ℕ) (old new : List ℕ) : Type 0 where
  pub grown : Grown le at words old new
  pub taken : t + u < words → T (le t (t + u)) → v ≤ held new at (t + u)
  pub low : (f : ℕ → ℕ) → Rises le words f → (t + u < words → T (le t (t + u)) → v ≤ f (t + u)) → Low f at words old → Low f at words new

-- the word at which the cell of the a-th normal length and the b-th normal width begins, where a cell has so many words
abbrev pub cell : Job → ℕ → ℕ → ℕ → ℕ
cell J words a b = (a * position_count J Width + b) * words

-- each word holds the figure of its normal length, normal width and state
abbrev pub Figures : Job → (ℕ → ℕ → Bool) → (ℕ → ℕ) → ℕ → List ℕ → Type 0
Figures J le own words xs = (a b s : ℕ) → a < position_count J Length → b < position_count J Width → s < words
    → get_or xs (cell J words a b + s) 0 ≡ figure_at J le own (position J Length a) (position J Width b) s
