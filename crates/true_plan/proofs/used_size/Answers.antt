-- `true_plan::used_size` meets its contract: before node k - 1 is read, the used sizes are those of the trees that the nodes from k on draw.
use Rattle.true_plan.proofs.Prelude.{◌∙◌, ap, ℕ, arith, length-replicate, used_rect, as_used, scan_begins, scan_on, numbered, ready, few_kept, one_kept, one_used}
use Rattle.true_plan.proofs.used_size.Goals as goal

pub loop-k-init : goal.loop-k-init
loop-k-init c = scan_begins c.requires.0 _ _ (length-replicate {A = ℕ} 2049 0, length-replicate {A = ℕ} 2049 0)

pub true_size-size-requires : goal.true_size-size-requires
true_size-size-requires c = numbered c.requires.0 c.loop-k.invariant (omega (arith, c.loop-k-test)) c.decode-node.ensures

pub advance-s-requires : goal.advance-s-requires
advance-s-requires c = let g = c.requires.0 in let s = c.loop-k.invariant in (ready g s (omega (arith, c.loop-k-test)) c.decode-node.ensures, g.kerfs, few_kept g s, s.kept)

pub loop-k-preserved : goal.loop-k-preserved
loop-k-preserved c = scan_on c.requires.0 c.loop-k.invariant (omega (arith, c.loop-k-test)) c.decode-node.ensures (ap (λ u. used_rect u) c.true_size-size.ensures) c.advance-s.ensures

pub used_at-requires : goal.used_at-requires
used_at-requires c = let p = c.requires in let s = c.loop-k.invariant in (one_kept p.0 s (omega (arith, c.loop-k-test)) p.1, few_kept p.0 s)

pub returns : goal.returns
returns c = let p = c.requires in c.used_at.ensures ∙ ap (λ x. as_used x) (one_used p.0 c.loop-k.invariant (omega (arith, c.loop-k-test)) p.1)
