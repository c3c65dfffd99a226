-- Inner definitions of one cell: how it starts from the cells before it and inherits what they list, which pieces it has taken, and its
-- list when it is finished.
use Rattle.std.specs.Prelude.{◌≡◌, Bool, List, ℕ, ◌+◌, ◌-◌, ◌≤◌, ◌<◌, length}
use Rattle.cutting.specs.Job.{Job}
use Rattle.table.specs.Words.{Outside}
use Rattle.states.specs.States.{held, note, mark, Rises, Flagged, Low, Grown}
use Rattle.state_joins.specs.Joins.{Listed, Sorted}

-- figures are the same from state `flat` on
abbrev pub Level : ℕ → ℕ → (ℕ → ℕ) → Type 0
Level words flat f = (s : ℕ) → flat ≤ s → s < words → f s ≡ f flat

-- the cells from `first` and `second` on lie before the one from `at` on, which has room, and their figures are the same from `flat` on
pub record Startable (first second at words flat : ℕ) (xs : List ℕ) : Type 0 where
  pub first_before : first + words ≤ at
  pub second_before : second + words ≤ at
  pub room : at + words ≤ length xs
  pub most : flat ≤ words
  pub first_level : Level words flat (held xs first)
  pub second_level : Level words flat (held xs second)

-- a cell's figures are the same from `high` on, which is no less than `flat` and no more than the number of states
pub record Levelled (words flat high : ℕ) (f : ℕ → ℕ) : Type 0 where
  pub more : flat ≤ high
  pub most : high ≤ words
  pub level : Level words high f

-- all flagged states lie below `top`, a number of states
pub record FlaggedBelow (at words top : ℕ) (xs : List ℕ) : Type 0 where
  pub most : top ≤ words
  pub flags : (t : ℕ) → t < words → Flagged xs at t → t < top

-- the cell has taken the price of every kind below `count` of exactly the size l by w at the kind's state
pub record Placed (le : ℕ → ℕ → Bool) (J : Job) (own : ℕ → ℕ) (count l w at words : ℕ) (old new : List ℕ) : Type 0 where
  pub grown : Grown le at words old new
  pub taken : (i : ℕ) → i < count → (J.size i).0 ≡ l → (J.size i).1 ≡ w → own i < words → J.price i ≤ held new at (own i)
  pub low : (f : ℕ → ℕ) → Rises le words f → ((i : ℕ) → i < count → (J.size i).0 ≡ l → (J.size i).1 ≡ w → own i < words → J.price i ≤ f (own i)) → Low f at words old → Low f at words new

-- the cell has inherited, from the list of the cell from `first` on, the states at which that cell is above the one from `second` on
pub record Inherited (first second at words : ℕ) (old new : List ℕ) : Type 0 where
  pub same : (s : ℕ) → s < words → held new at s ≡ held old at s
  pub kept : (s : ℕ) → s < words → Flagged old at s → Flagged new at s
  pub flags : (t : ℕ) → Listed old first words t → held old second t < held old first t → Flagged new at t
  pub rest : Outside at (at + words) old new

-- where states have one digit, the figures f rise at state t over the state before
abbrev pub Steps : ℕ → (ℕ → ℕ) → ℕ → Type 0
Steps d f t = d ≡ 0 → 1 ≤ t → f (t - 1) < f t

-- the mark is not 2 where v is above the figure of the cell from `shorter` on at state t, and not 1 where it is above that of the cell
-- from `narrower` on
pub record Told (shorter narrower : ℕ) (xs : List ℕ) (t v mark : ℕ) : Type 0 where
  pub longer : held xs shorter t < v → mark ≡ 2 → ⊥
  pub wider : held xs narrower t < v → mark ≡ 1 → ⊥

-- the flagged states of the cell have become its list, of one digit those at which its figures rise, with marks that tell where it is
-- above the cells from `shorter` and `narrower` on
pub record Finished (d at shorter narrower words : ℕ) (old new : List ℕ) : Type 0 where
  pub same : (s : ℕ) → s < words → held new at s ≡ held old at s
  pub listed : (t : ℕ) → t < words → Flagged old at t → Steps d (held old at) t → (k : ℕ) × (k < words) × (note new at k ≡ t + 1) × Told shorter narrower old t (held old at t) (mark new at k)
  pub notes : (k : ℕ) → k < words → note new at k ≤ words
  pub ended : (j k : ℕ) → j ≤ k → k < words → note new at j ≡ 0 → note new at k ≡ 0
  pub sorted : Sorted new at words
  pub rest : Outside at (at + words) old new
