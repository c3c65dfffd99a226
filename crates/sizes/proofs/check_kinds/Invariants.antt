use Rattle.sizes.proofs.Prelude.{[], ◌∷◌, Decides, kind_check}
use Rattle.sizes.proofs.check_kinds.Given as goal

abbrev pub invariant-loop-i : goal.invariant-loop-i
invariant-loop-i l = Decides (λ i. kind_check l.block i ∷ []) l.n l.i
