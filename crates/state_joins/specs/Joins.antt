-- Inner definitions of the joins: the list of a finished cell, what of it a cut reads, and what a cell has taken of the sums of two lists.
use Rattle.std.specs.Prelude.{◌≡◌, Bool, List, ℕ, ◌+◌, ◌-◌, ◌*◌, ◌≤◌, ◌<◌, T, get_or}
use Rattle.cutting.specs.Limits.{most_wide_figure}
use Rattle.table.specs.Words.{remainder, Cuts}
use Rattle.states.specs.declared.words.Cell.{Cell}
use Rattle.states.specs.States.{held, note, mark, Summed, Rises, Growing, Low, Grown}
use Rattle.state_joins.specs.declared.joins.Parts.{Parts}

-- state t is on the list of the cell from x on
abbrev pub Listed : List ℕ → ℕ → ℕ → ℕ → Type 0
Listed xs x words t = (k : ℕ) × (k < words) × (note xs x k ≡ t + 1)

-- entry k of the list of the cell from x on is state t, with another mark than `skip`
abbrev pub Entry : ℕ → List ℕ → ℕ → ℕ → ℕ → Type 0
Entry skip xs x k t = (note xs x k ≡ t + 1) × (mark xs x k ≡ skip → ⊥)

-- state t is on the list of the cell from x on, with another mark than `skip`
abbrev pub Marked : ℕ → List ℕ → ℕ → ℕ → ℕ → Type 0
Marked skip xs x words t = (k : ℕ) × (k < words) × Entry skip xs x k t

-- a cut reads state t of the cell from x on: one that is listed, and where states have several digits, with another mark than `skip`
abbrev pub Served : ℕ → ℕ → List ℕ → ℕ → ℕ → ℕ → Type 0
Served d skip xs x words t = Listed xs x words t × (1 ≤ d → Marked skip xs x words t)

-- the states on the list of the cell from x on do not fall
abbrev pub Sorted : List ℕ → ℕ → ℕ → Type 0
Sorted xs x words = (j k : ℕ) → j ≤ k → k < words → 1 ≤ note xs x k → note xs x j ≤ note xs x k

-- a finished cell that can be read while the one from `at` on is made: it lies before that one, two figures can be added, the last state
-- has the greatest one, the list has states only, which do not fall, and nothing is noted past its end
pub record Ready (xs : List ℕ) (x words at : ℕ) : Type 0 where
  pub before : x + words ≤ at
  pub small : (s : ℕ) → s < words → held xs x s ≤ most_wide_figure
  pub most : (s : ℕ) → s < words → held xs x s ≤ held xs x (words - 1)
  pub notes : (k : ℕ) → k < words → note xs x k ≤ words
  pub ended : (j k : ℕ) → j ≤ k → k < words → note xs x j ≡ 0 → note xs x k ≡ 0
  pub sorted : Sorted xs x words

-- what is needed to take v at state t with the figures of the cell from `second` on
pub record Joinable (blocks : List ℕ) (d words at second t v : ℕ) (xs : List ℕ) : Type 0 where
  pub growing : Growing blocks d words at xs
  pub ready : Ready xs second words at
  pub state : t < words
  pub small : v ≤ most_wide_figure
  pub summed : Summed blocks d words at xs

-- the cell has taken v at state t with the figures of some states of the cell from `second` on
pub record JoinedWith (le : ℕ → ℕ → Bool) (at words t v second : ℕ) (some : ℕ → Type 0) (old new : List ℕ) : Type 0 where
  pub grown : Grown le at words old new
  pub sums : (u : ℕ) → some u → t + u < words → T (le t (t + u)) → v + held old second u ≤ held new at (t + u)
  pub low : (f : ℕ → ℕ) → Rises le words f → ((u : ℕ) → u < words → t + u < words → T (le t (t + u)) → v + held old second u ≤ f (t + u)) → Low f at words old → Low f at words new

-- what is needed to take the sums of two parts: both can be read
abbrev pub PartsReady : List ℕ → Cell → Parts → List ℕ → Type 0
PartsReady blocks cell parts xs = Growing blocks cell.d cell.words cell.at xs × Ready xs parts.first cell.words cell.at × Ready xs parts.second cell.words cell.at × Summed blocks cell.d cell.words cell.at xs

-- the cell has taken the sums of some states of the cell from `first` on and some of the cell from `second` on
pub record Joined (le : ℕ → ℕ → Bool) (at words first second : ℕ) (some more : ℕ → Type 0) (old new : List ℕ) : Type 0 where
  pub grown : Grown le at words old new
  pub sums : (t u : ℕ) → some t → more u → t + u < words → T (le t (t + u)) → held old first t + held old second u ≤ held new at (t + u)
  pub low : (f : ℕ → ℕ) → Rises le words f → ((t u : ℕ) → t < words → u < words → t + u < words → T (le t (t + u)) → held old first t + held old second u ≤ f (t + u)) → Low f at words old → Low f at words new

-- the first `count` numbers of a list of at most 512 are states, which do not fall
pub record Numbers (words count : ℕ) (list : List ℕ) : Type 0 where
  pub most : count ≤ 512
  pub states : (i : ℕ) → i < count → get_or list i 0 < words
  pub sorted : (i j : ℕ) → i ≤ j → j < count → get_or list i 0 ≤ get_or list j 0

-- state u is among them
abbrev pub Among : ℕ → List ℕ → ℕ → Type 0
Among count list u = (i : ℕ) × (i < count) × (get_or list i 0 ≡ u)

-- they are all that the cell from x on lists with another mark than `skip`
pub record Gathered (skip x words count : ℕ) (xs list : List ℕ) : Type 0 where
  pub numbers : Numbers words count list
  pub found : (u : ℕ) → Marked skip xs x words u → Among count list u

-- what is needed to take the cuts of entry a at the entries from `from` to `end` less 1, where the cell of entry i begins at word
-- base + i · stride: all cells of earlier entries can be read
pub record Cuttable (blocks positions floors : List ℕ) (d words a from end base stride at : ℕ) (xs : List ℕ) : Type 0 where
  pub growing : Growing blocks d words at xs
  pub first : 1 ≤ from
  pub cuts : Cuts positions floors a end
  pub ready : (j : ℕ) → j < a → Ready xs (base + j * stride) words at
  pub summed : Summed blocks d words at xs

-- the cell has taken the cuts of entry a at the entries from `from` to `end` less 1 whose parts make up the whole, where the cell of
-- entry i begins at word base + i · stride
pub record CutAt (le : ℕ → ℕ → Bool) (d skip : ℕ) (positions floors : List ℕ) (a from end base stride at words : ℕ) (old new : List ℕ) : Type 0 where
  pub grown : Grown le at words old new
  pub sums : (i t u : ℕ) → from ≤ i → i < end → get_or positions i 0 + get_or positions (remainder positions floors a i) 0 ≡ get_or positions a 0
      → Served d skip old (base + i * stride) words t → Served d skip old (base + remainder positions floors a i * stride) words u → t + u < words → T (le t (t + u))
      → held old (base + i * stride) t + held old (base + remainder positions floors a i * stride) u ≤ held new at (t + u)
  pub low : (f : ℕ → ℕ) → Rises le words f
      → ((i t u : ℕ) → from ≤ i → i < end → t < words → u < words → t + u < words → T (le t (t + u)) → held old (base + i * stride) t + held old (base + remainder positions floors a i * stride) u ≤ f (t + u))
      → Low f at words old → Low f at words new
