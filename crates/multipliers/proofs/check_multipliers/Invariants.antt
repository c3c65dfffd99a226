use Rattle.multipliers.proofs.Prelude.{[], ◌∷◌, length, Decides, multiplier_check}
use Rattle.multipliers.proofs.check_multipliers.Given as goal

abbrev pub invariant-loop-i : goal.invariant-loop-i
invariant-loop-i l = Decides (λ i. multiplier_check l.multipliers i ∷ []) (length l.multipliers) l.i
