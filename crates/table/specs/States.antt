-- States as numbers of several digits, and the shares that they stand for. B d is the number of states that the digits from 0 to d have
-- together, so B d is what one step of digit d + 1 is worth, and the last B is the number of all states. One digit: a plain number.
use Rattle.std.specs.Prelude.{◌≡◌, ◌⊎◌, Bool, true, false, [], ◌∷◌, ℕ, zero, suc, ◌+◌, ◌*◌, ◌/◌, ◌%◌, ◌≤◌, ◌<◌, T, ltb, eqb, get_or}
use Rattle.promises.specs.declared.Direction.{Direction}
use Rattle.cutting.specs.Figure.{figure}
use Rattle.cutting.specs.Pieces.{kind}
use Rattle.cutting.specs.Saws.{saw}
use Rattle.cutting.specs.Shares.{staged}
use Rattle.cutting.specs.Job.{Job, pieces}
unfoldable pub use Rattle.cutting.specs.Shares.{below, by_state}

-- the numbers of states up to digit d: none is 0, and each is a whole multiple of the one before
pub record Blocks (B : ℕ → ℕ) (d : ℕ) : Type 0 where
  pub some : (i : ℕ) → i ≤ d → 1 ≤ B i
  pub whole : (i : ℕ) → i < d → (k : ℕ) × (B (i + 1) ≡ k * B i)

-- what the fill needs of an order of states: t and u add without a carry exactly if t is below t + u
pub record Order (le : ℕ → ℕ → Bool) : Type 0 where
  pub same : (s : ℕ) → T (le s s)
  pub chain : (t u s : ℕ) → T (le t u) → T (le u s) → T (le t s)
  pub less : (t s : ℕ) → T (le t s) → t ≤ s
  pub other : (t u : ℕ) → T (le t (t + u)) → T (le u (t + u))
  pub first : (t s u : ℕ) → T (le t s) → T (le s (s + u)) → T (le t (t + u))
  pub sums : (t s u : ℕ) → T (le t s) → T (le s (s + u)) → T (le (t + u) (s + u))
  pub least : (s : ℕ) → T (le 0 s)

-- the figure of a rectangle l by w and a state, where every kind has a state of its own (one past all states: it is not open)
unfoldable pub figure_at : Job → (ℕ → ℕ → Bool) → (ℕ → ℕ) → ℕ → ℕ → ℕ → ℕ
figure_at J le own l w s = figure (pieces J) (saw 0) (by_state le (λ p. own (kind p))) (l, w) s

-- the same within k stages whose first cuts go in direction d
unfoldable pub block_at : Job → (ℕ → ℕ → Bool) → (ℕ → ℕ) → ℕ → Direction → ℕ → ℕ → ℕ → ℕ
block_at J le own k d l w s = figure (pieces J) (saw 0) (staged (by_state le (λ p. own (kind p)))) (l, w) (d, k, s)

-- two digits: the second share runs fastest, and the first is the last digit
abbrev pub pair_blocks : ℕ → ℕ → ℕ → ℕ
pair_blocks q q' i = get_or ((q' + 1) ∷ (q + 1) * (q' + 1) ∷ []) i 0

-- the figure of a rectangle and a pair of shares, by the pair's number
abbrev pub figure_pair : Job → ℕ → ℕ → (ℕ → ℕ) → ℕ → ℕ → ℕ → ℕ → ℕ
figure_pair J q q' own l w c c' = figure_at J (below (pair_blocks q q') 1) own l w (c * (q' + 1) + c')

-- some states cover the values f over those of g: at each state s, f is not above g, or not above its own value at one of them below s
abbrev pub Covers : (ℕ → ℕ → Bool) → ℕ → (ℕ → Type 0) → (ℕ → ℕ) → (ℕ → ℕ) → Type 0
Covers le n some f g = (s : ℕ) → s < n → (f s ≤ g s) ⊎ ((t : ℕ) × (t < n) × T (le t s) × some t × (f s ≤ f t))

-- digit i of a number whose last digit is digit d
unfoldable pub digit : (ℕ → ℕ) → ℕ → ℕ → ℕ → ℕ
digit B zero i s = s
digit B (suc d) i s = elim (eqb i (suc d)) [ true ↦ s / B d | false ↦ digit B d i (s % B d) ]

-- the state of a piece with so much at each digit: one past all states where a digit below the last has no room for it
unfoldable pub own_state : {P : Type 0} → (ℕ → ℕ) → (ℕ → P → ℕ) → ℕ → P → ℕ
own_state B w zero p = w 0 p
own_state B w (suc d) p = elim (ltb (own_state B w d p) (B d)) [ true ↦ w (suc d) p * B d + own_state B w d p | false ↦ B (suc d) ]

-- two weights by digit: the second at digit 0, the first at digit 1
abbrev pub two_weights : (ℕ → ℕ) → (ℕ → ℕ) → ℕ → ℕ → ℕ
two_weights first second zero = second
two_weights first second (suc i) = first

-- the state of a kind with two weights: its number, or one past all pairs where the second is above its capacity
abbrev pub pair_state : ℕ → ℕ → (ℕ → ℕ) → (ℕ → ℕ) → ℕ → ℕ
pair_state q q' first second = own_state (pair_blocks q q') (two_weights first second) 1
