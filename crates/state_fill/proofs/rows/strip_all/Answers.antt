-- `state_fill::rows::strip_all` meets its contract.
use Rattle.state_fill.proofs.Prelude.{arith, refl, ◌∙◌}
use Rattle.state_fill.proofs.Filling.{plain_more}
use Rattle.state_fill.proofs.rows.strip_all.Goals as goal

pub loop-i-preserved : goal.loop-i-preserved
loop-i-preserved c = let inv = c.loop-i.invariant in
    (omega arith, c.strip.auto.table ∙ inv.1, plain_more _ _ _ _ _ _ refl c.strip.ensures inv.2)
