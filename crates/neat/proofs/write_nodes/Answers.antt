-- `neat::write_nodes` meets its contract: before node k - 1 is read, the used sizes are those of the trees that the nodes from k on draw, and
use Rattle.neat.proofs.Prelude.{ap, ℕ, arith, length-replicate, used_rect}
use Rattle.neat.proofs.Scan.{at_kerf, begins, numbered, ready, few_kept, room, operand_most, goes_on}
use Rattle.neat.proofs.write_nodes.Goals as goal

pub loop-k-init : goal.loop-k-init
loop-k-init c = begins (at_kerf c.wide-kerf.ensures c.requires.0) _ _ (length-replicate {A = ℕ} 2049 0, length-replicate {A = ℕ} 2049 0)

pub own_size-size-requires : goal.own_size-size-requires
own_size-size-requires c = numbered (at_kerf c.wide-kerf.ensures c.requires.0).scannable c.loop-k.invariant.scanning (omega (arith, c.loop-k-test)) c.decode-node.ensures

pub advance-s-requires : goal.advance-s-requires
advance-s-requires c = let g = (at_kerf c.wide-kerf.ensures c.requires.0).scannable in let s = c.loop-k.invariant.scanning in (ready g s (omega (arith, c.loop-k-test)) c.decode-node.ensures, g.kerfs, few_kept g s, s.kept)

pub put-o-requires : goal.put-o-requires
put-o-requires c = let p = (at_kerf c.wide-kerf.ensures c.requires.0) in let s = c.loop-k.invariant in let range = c.requires.1 in (
  room p s (omega (arith, c.loop-k-test)) c.decode-node.ensures (ap (λ u. used_rect u) c.own_size-size.ensures) c.advance-s.ensures,
  operand_most p s (omega (arith, c.loop-k-test)) c.decode-node.ensures (ap (λ u. used_rect u) c.own_size-size.ensures) c.advance-s.ensures 65535 (omega arith) (omega (arith, range.plate_length), omega (arith, range.plate_width)),
)

pub loop-k-preserved : goal.loop-k-preserved
loop-k-preserved c = let p = (at_kerf c.wide-kerf.ensures c.requires.0) in let w = c.put-o.ensures in goes_on p c.loop-k.invariant (omega (arith, c.loop-k-test)) c.decode-node.ensures (ap (λ u. used_rect u) c.own_size-size.ensures) c.advance-s.ensures w.0 w.1 w.2
