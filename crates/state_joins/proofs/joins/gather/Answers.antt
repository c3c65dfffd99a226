-- `state_joins::joins::gather` meets its contract.
use Rattle.state_joins.proofs.Prelude.{arith, sym, ◌∙◌, length-set}
use Rattle.state_joins.proofs.Joining.{past_end, gather_passed, gather_more, gather_end}
use Rattle.state_joins.proofs.joins.gather.Goals.{then-mark-skip+else-n-eq512, else-mark-skip}
use Rattle.state_joins.proofs.joins.gather.Goals as goal

pub returns-in_default : goal.returns-in_default
returns-in_default c = let given = c.requires in
    let loop = c.loop-k in
    gather_end _ _ _ _ _ given.0 _ _ _ loop.invariant.0 (λ i u h e. past_end _ _ _ _ _ loop.k _ given.0 h c.in_default.ensures e) loop.invariant.2

pub loop-k-preserved : goal.loop-k-preserved
loop-k-preserved c =
    let given = c.requires in
    let inv = c.loop-k.invariant in
    elim c.if-mark-skip.branch [
      | then-mark-skip+else-n-eq512 w ↦ rw (w.list-is, w.n-is) (omega arith, simp length-set inv.1, gather_more _ _ _ _ _ given.0 _ _ _ _ inv.1 (omega (arith, w.if-n-eq512.false, inv.2.most)) (omega arith) c.in-Some.ensures.0 inv.2)
      | else-mark-skip w ↦ rw (w.list-is, w.n-is) (omega arith, inv.1, gather_passed _ _ _ _ _ given.0 _ _ _ (sym c.mark.ensures ∙ w.if-mark-skip.false) inv.2)
    ]

pub returns : goal.returns
returns c = gather_end _ _ _ _ _ c.requires.0 _ _ _ c.loop-k.invariant.0 (λ i u h e. omega arith) c.loop-k.invariant.2
