-- Lists and maxima that the definitions speak of: runs of numbers, members that pass a test, pairs, sums and greatest values.
-- docs/SCOPE.md: The bound; Lent memory.
use Rattle.std.specs.Prelude.{Bool, true, false, ◌||◌, List, [], ◌∷◌, ◌++◌, ℕ, zero, suc, ◌+◌, max, ltb, length, drop}
use Rattle.std.proofs.Math.Option.{Option, none, some}
use mathlib.Core.List.{map}

-- a, a + 1, and on: n numbers, rising
unfoldable pub range : ℕ → ℕ → List ℕ
range a zero = []
range a (suc n) = a ∷ range (suc a) n

-- the sum of f over the numbers below n
unfoldable pub sum : ℕ → (ℕ → ℕ) → ℕ
sum zero f = 0
sum (suc n) f = sum n f + f n

-- n where a test passes, and else 0
abbrev pub only : Bool → ℕ → ℕ
only true n = n
only false n = 0

module _ {A : Type 0} where
  -- a member in front of a list, where a test passes
  abbrev pub keep : Bool → A → List A → List A
  keep true x xs = x ∷ xs
  keep false x xs = xs

  -- the members that pass a test, in order
  unfoldable pub filter : (A → Bool) → List A → List A
  filter f [] = []
  filter f (x ∷ xs) = keep (f x) x (filter f xs)

  -- whether a member passes a test
  unfoldable pub any : (A → Bool) → List A → Bool
  any f [] = false
  any f (x ∷ xs) = f x || any f xs

  -- the first member that passes a test
  unfoldable pub first : (A → Bool) → List A → Option A
  first f [] = none
  first f (x ∷ xs) = elim (f x) [ true ↦ some x | false ↦ first f xs ]

  -- the greatest value of f at a member: 0 for the empty list
  unfoldable pub greatest : (A → ℕ) → List A → ℕ
  greatest f [] = 0
  greatest f (x ∷ xs) = max (f x) (greatest f xs)

-- the lists that the members give, one after another
unfoldable pub each : {A B : Type 0} → (A → List B) → List A → List B
each f [] = []
each f (x ∷ xs) = f x ++ each f xs

-- all pairs, the second member running fastest
unfoldable pub pairs : {A B : Type 0} → List A → List B → List (A × B)
pairs [] ys = []
pairs (x ∷ xs) ys = map (λ y. (x, y)) ys ++ pairs xs ys

-- a lent array after its first entries were written: every later entry keeps its old contents
abbrev pub over : {A : Type 0} → List A → List A → List A
over xs old = xs ++ drop (length xs) old

-- an array of 64 entries: f at the first n, and 0 past them
unfoldable pub entries : (ℕ → ℕ) → ℕ → List ℕ
entries f n = map (λ i. only (ltb i n) (f i)) (range 0 64)

-- one of two numbers, by a test
abbrev pub pick_number : Bool → ℕ → ℕ → ℕ
pick_number true a b = a
pick_number false a b = b
