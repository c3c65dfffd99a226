-- The steps of a cell: a start from two cells, what it keeps through the inheritances, and which states are flagged.
use Rattle.stage_fill.proofs.Prelude.{◌≡◌, refl, ◌∙◌, ap, ◌⊎◌, inl, inr, List, [], ◌∷◌, ℕ, ◌+◌, ◌≤◌, ◌<◌, max, arith, leb, leb→le, length, get_or, below, Run, figure_in, note_in, held, under, Summed, Rises, Flagged, Growing, Topped, FlaggedBelow, figure_small, figure_plain, note_plain, one_digit, States}

-- the order of states of one digit is that of numbers
pub one_order : (blocks : List ℕ) → under blocks 0 ≡ leb
unfolding below
one_order blocks = refl

-- figures that rise keep rising where they are the same
pub rises_same : {words : ℕ} {f g : ℕ → ℕ} → ((s : ℕ) → s < words → g s ≡ f s) → Rises leb words f → Rises leb words g
rises_same e r t s h l = omega (arith, e s h, e t (omega (arith, leb→le t s l)), r t s h l)

-- a cell whose figures rise can grow
pub growing : {words at : ℕ} {xs : List ℕ} → States words → at + words ≤ length xs → Rises leb words (held xs at) → Growing (words ∷ []) 0 words at xs
growing {words} states room rises = record { digits = one_digit words states.0 states.1; room = room; rises = rw (one_order (words ∷ [])) rises }

-- one digit needs no digit sums
pub unsummed : {blocks : List ℕ} {d words at : ℕ} {xs : List ℕ} → d ≡ 0 → Summed blocks d words at xs
unsummed e = record { before = λ h. absurd (omega arith); sums = λ h. absurd (omega arith) }

-- the start from two cells
module _ (first second at words : ℕ) (old new : List ℕ) (run : Run (λ s. max (held old first s) (held old second s)) at words old new) where
  low : (s : ℕ) → max (held old first s) (held old second s) < 2199023255552
  low s = omega (arith, figure_small (get_or old (first + s) 0), figure_small (get_or old (second + s) 0))

  pub started : (s : ℕ) → s < words → held new at s ≡ max (held old first s) (held old second s)
  started s h = ap figure_in (run.here s h) ∙ figure_plain _ (low s)

  pub start_rises : Rises leb words (held old first) → Rises leb words (held old second) → Rises leb words (held new at)
  start_rises p q t s h l = omega (arith, started s h, started t (omega (arith, leb→le t s l)), p t s h l, q t s h l)

  -- no state is flagged yet, so all that are flagged later lie below the number handed on
  pub start_topped : {high : ℕ} {xs : List ℕ} → Topped at words 0 high new xs → FlaggedBelow at words high xs
  start_topped {high} p = record { most = p.most (omega arith); flags = λ t h f. go t h (p.flags t h f) }
    where
      go : (t : ℕ) → t < words → Flagged new at t ⊎ (t < high) → t < high
      go t h (inr l) = l
      go t h (inl f) = absurd (omega (arith, ap note_in (run.here t h), note_plain _ (low t)))
