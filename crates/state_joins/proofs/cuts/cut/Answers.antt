-- `state_joins::cuts::cut` meets its contract.
use Rattle.state_joins.proofs.Prelude.{arith, refl, ◌∙◌, topped_then, ◌≡◌}
use Rattle.state_joins.proofs.Joining.{cut_then}
use Rattle.state_joins.proofs.cuts.cut.Goals as goal

pub loop-i-preserved : goal.loop-i-preserved
loop-i-preserved c = let given = c.requires in
    let inv = c.loop-i.invariant in
    (refl, omega arith, omega arith, c.cut_at-high.auto.table ∙ inv.3, cut_then _ _ _ _ _ _ _ _ _ _ 1 _ _ _ _ _ (λ j l m. ((given.ready j (omega (arith, given.cuts.most))).before, (given.ready _ (given.cuts.earlier j l (omega arith))).before)) inv.1 (omega arith) inv.4 c.cut_at-high.ensures.0, topped_then _ _ _ _ _ _ _ _ inv.5 c.cut_at-high.ensures.1)

pub returns : goal.returns
returns c = let e : c.loop-i.i ≡ c.args.line.half_end = omega (arith, c.requires.cuts.least) in (rw e at c.loop-i.invariant.4, c.loop-i.invariant.5)
