-- `neat::scan_node` meets its contract: a cut takes the two used sizes on top, any other node adds one.
use Rattle.neat.proofs.Prelude.{refl, arith, used_rect}
use Rattle.neat.proofs.Steps.{two, both_told, cut_steps}
use Rattle.neat.proofs.scan_node.Goals as goal

pub used_at-first-requires : goal.used_at-first-requires
used_at-first-requires c = let a = c.args in let p = c.requires in let h = two a.used_lengths.now a.used_widths.now a.n _ _ c.in-Cut.is p.0 in omega (arith, h, p.2)

pub overflow_sub-n : goal.overflow_sub-n
overflow_sub-n c = let a = c.args in let p = c.requires in let h = two a.used_lengths.now a.used_widths.now a.n _ _ c.in-Cut.is p.0 in omega (arith, h)

pub used_at-second-requires : goal.used_at-second-requires
used_at-second-requires c = let a = c.args in let p = c.requires in let h = two a.used_lengths.now a.used_widths.now a.n _ _ c.in-Cut.is p.0 in omega (arith, h, p.2)

pub join-requires : goal.join-requires
join-requires c = let a = c.args in let p = c.requires in let h = both_told a.used_lengths.now a.used_widths.now a.n _ _ c.in-Cut.is p.0 c.used_at-first.ensures c.used_at-second.ensures in (h.0, h.1, p.1)

pub overflow_sub-result : goal.overflow_sub-result
overflow_sub-result c = let a = c.args in let p = c.requires in let h = two a.used_lengths.now a.used_widths.now a.n _ _ c.in-Cut.is p.0 in omega (arith, h)

pub returns-in-Cut : goal.returns-in-Cut
returns-in-Cut c = let a = c.args in let p = c.requires in
    cut_steps a.used_lengths.now a.used_widths.now a.n _ _ c.in-Cut.is p.0 a.kerf (used_rect a.size) c.used_at-first.ensures c.used_at-second.ensures c.move_cut.ensures c.join.ensures refl
