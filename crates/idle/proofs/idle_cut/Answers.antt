-- `idle::idle_cut` meets its contract: before node k - 1 is read, the verdict and the trees are those of the nodes from k on.
use Rattle.idle.proofs.Prelude.{◌∙◌, ap, ◌+◌, ◌-◌, arith, IdleCut, refuse_when}
use Rattle.idle.proofs.Scan.{begins, few, goes_on}
use Rattle.idle.proofs.idle_cut.Goals as goal

pub loop-k-init : goal.loop-k-init
loop-k-init c = begins c.args.first c.args.kinds.now

pub pieceless_from-pieceless-requires : goal.pieceless_from-pieceless-requires
pieceless_from-pieceless-requires c = let s = few c.loop-k.invariant in omega (arith, s, c.requires)

pub loop-k-preserved : goal.loop-k-preserved
loop-k-preserved c = let l = c.loop-k in
    goes_on l.invariant (omega (arith, c.loop-k-test)) c.decode-node.ensures c.and-verdict.ensures (c.refuse_if.ensures ∙ ap (λ b. refuse_when b (IdleCut (c.args.first + (l.k - 1)))) c.is_idle-idle.ensures) c.pieceless_from-pieceless.ensures
