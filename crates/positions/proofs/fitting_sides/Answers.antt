-- `positions::fitting_sides` meets its contract. The invariant: the sides of those of the first i pieces that fit are at the front of `fit`.
use Rattle.std.proofs.Common.{rules}
use Rattle.positions.proofs.Prelude.{◌∙◌, sym, arith}
use Rattle.positions.proofs.Fitting.{fitting_none, fitting_taken, fitting_left}
use Rattle.positions.proofs.fitting_sides.Goals as goal
use Rattle.positions.proofs.fitting_sides.Goals.{then-fits, else-fits}

pub loop-i-init : goal.loop-i-init
loop-i-init c = (search rules, search rules, fitting_none _ _ _ _ _)

pub loop-i-preserved : goal.loop-i-preserved
loop-i-preserved c =
    let turn = c.loop-i.invariant in
    elim c.if-fits.branch [
      | then-fits w ↦ (omega arith, omega (arith, w.n-is), rw (w.fit-is, w.n-is) (fitting_taken _ _ _ _ _ _ _ _ (sym c.fits.ensures ∙ w.if-fits.true) turn.2 (omega arith)))
      | else-fits w ↦ (omega arith, omega (arith, w.n-is), rw (w.fit-is, w.n-is) (fitting_left _ _ _ _ _ _ _ _ (sym c.fits.ensures ∙ w.if-fits.false) turn.2))
    ]
