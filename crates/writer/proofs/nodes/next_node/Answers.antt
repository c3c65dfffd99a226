-- `writer::nodes::next_node` meets its contract.
use Rattle.writer.proofs.Prelude.{◌∙◌, ap, ◌-◌, arith, length, length-set, rect_of, sides_of, part, first_of}
use Rattle.writer.proofs.Waiting.{place, top_inside, leaf_stepped, cut_ready, cut_stepped}
use Rattle.writer.proofs.nodes.next_node.Goals as goal

pub waiting_cell-requires : goal.waiting_cell-requires
waiting_cell-requires c = omega (arith, place (c.requires.0.0.tabled.in_range, c.requires.0.0.tabled.order) c.requires.1 c.requires.2)

pub settle-requires : goal.settle-requires
settle-requires c = (c.requires.0, rw c.waiting_cell.ensures (top_inside (c.requires.0.0.tabled.in_range, c.requires.0.0.tabled.order) c.requires.1 c.requires.2))

pub returns-in_default : goal.returns-in_default
returns-in_default c = leaf_stepped (c.requires.0.0.tabled.in_range, c.requires.0.0.tabled.order) c.requires.1 c.requires.2 c.waiting_cell.ensures c.settle.ensures c.in_default.not-Cut

pub overflow_sub-rest : goal.overflow_sub-rest
overflow_sub-rest c = omega (arith, (cut_ready (c.requires.0.0.tabled.in_range, c.requires.0.0.tabled.order) c.requires.1 c.requires.2 c.waiting_cell.ensures c.settle.ensures c.requires.0.1 c.in-Cut.is).1, c.cut_side.ensures)

pub overflow_sub-second : goal.overflow_sub-second
overflow_sub-second c = (cut_ready (c.requires.0.0.tabled.in_range, c.requires.0.0.tabled.order) c.requires.1 c.requires.2 c.waiting_cell.ensures c.settle.ensures c.requires.0.1 c.in-Cut.is).2

pub put_cell-requires : goal.put_cell-requires
put_cell-requires c = (omega (arith, place (c.requires.0.0.tabled.in_range, c.requires.0.0.tabled.order) c.requires.1 c.requires.2), c.requires.1.entries)

pub put_cell-requires-2 : goal.put_cell-requires-2
put_cell-requires-2 c = (place (c.requires.0.0.tabled.in_range, c.requires.0.0.tabled.order) c.requires.1 c.requires.2, ap length c.put_cell.ensures ∙ simp length-set c.requires.1.entries)

pub overflow_sub-result : goal.overflow_sub-result
overflow_sub-result c = omega (arith, (cut_ready (c.requires.0.0.tabled.in_range, c.requires.0.0.tabled.order) c.requires.1 c.requires.2 c.waiting_cell.ensures c.settle.ensures c.requires.0.1 c.in-Cut.is).0)

pub returns : goal.returns
returns c = let s = c.settle.result in
    cut_stepped (c.requires.0.0.tabled.in_range, c.requires.0.0.tabled.order) c.requires.1 c.requires.2 c.waiting_cell.ensures c.settle.ensures c.requires.0.1 c.in-Cut.is
    (c.first_cell.ensures ∙ ap (first_of s.cell s.chosen) c.in-Cut.is)
    (c.first_part.ensures ∙ ap (λ n. sides_of (part c.in-Cut.d (n - c.in-Cut.x) (rect_of s.cell.sides))) c.cut_side.ensures)
    c.put_cell.ensures c.put_cell-2.ensures
