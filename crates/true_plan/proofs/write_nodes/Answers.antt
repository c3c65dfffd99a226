-- `true_plan::write_nodes` meets its contract: before node k - 1 is read, the used sizes are those of the trees that the nodes from k on draw,
use Rattle.true_plan.proofs.Prelude.{ap, ℕ, arith, length-replicate, used_rect, begins, numbered, ready, few_kept, room, goes_on}
use Rattle.true_plan.proofs.write_nodes.Goals as goal

pub loop-k-init : goal.loop-k-init
loop-k-init c = begins c.requires _ _ (length-replicate {A = ℕ} 2049 0, length-replicate {A = ℕ} 2049 0)

pub true_size-size-requires : goal.true_size-size-requires
true_size-size-requires c = numbered c.requires.scannable c.loop-k.invariant.scanning (omega (arith, c.loop-k-test)) c.decode-node.ensures

pub advance-s-requires : goal.advance-s-requires
advance-s-requires c = let g = c.requires.scannable in let s = c.loop-k.invariant.scanning in (ready g s (omega (arith, c.loop-k-test)) c.decode-node.ensures, g.kerfs, few_kept g s, s.kept)

pub put-o-requires : goal.put-o-requires
put-o-requires c = room c.requires c.loop-k.invariant (omega (arith, c.loop-k-test)) c.decode-node.ensures (ap (λ u. used_rect u) c.true_size-size.ensures) c.advance-s.ensures

pub loop-k-preserved : goal.loop-k-preserved
loop-k-preserved c = let w = c.put-o.ensures in goes_on c.requires c.loop-k.invariant (omega (arith, c.loop-k-test)) c.decode-node.ensures (ap (λ u. used_rect u) c.true_size-size.ensures) c.advance-s.ensures w.0 w.1 w.2
