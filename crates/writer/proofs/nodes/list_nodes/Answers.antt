-- `writer::nodes::list_nodes` meets its contract. The measure is the number of nodes to come.
use Rattle.std.proofs.Common.{rules}
use Rattle.writer.proofs.Prelude.{◌≡◌, refl, ◌∙◌, ap, arith, length, replicate, length-set, kind_of, operand_of, under, with_cell, sawn_plan, nodes_left}
use Rattle.writer.proofs.Plan.{Ready}
use Rattle.writer.proofs.Waiting.{none_left, whole_nodes, plate_waits, plan_left, count_left}
use Rattle.writer.proofs.Listed.{kinds_begin, operands_begin, one_listed, all_listed}
use Rattle.writer.proofs.nodes.list_nodes.Goals as goal

pub loop-depth-init : goal.loop-depth-init
loop-depth-init c = let e = c.args in
    let le = under e.blocks.now e.sawing.d in
    let kerf = e.sawing.kerf in
    let size = e.sawing.size in
    let pieces = e.pieces.now in
    let t = c.requires.0.tabled in
    let h : Ready le size pieces = (t.in_range, t.order) in
    let p = c.put_cell.ensures ∙ ap (λ cell. with_cell (replicate 6120 0) 0 cell) c.plate_cell-plate.ensures in
    let l = plan_left le kerf size pieces h (replicate 6120 0) refl p in
    (plate_waits le kerf size pieces h (replicate 6120 0) refl p, omega (arith, count_left le kerf size pieces h (replicate 6120 0) refl p), refl, refl, kinds_begin (sawn_plan e.sawing e.blocks.now pieces) l e.kinds.now, operands_begin (sawn_plan e.sawing e.blocks.now pieces) l e.operands.now)

pub overflow_add-nodes : goal.overflow_add-nodes
overflow_add-nodes c = omega (arith, c.loop-depth.invariant.1, whole_nodes (under c.args.blocks.now c.args.sawing.d) c.args.sawing.kerf c.args.sawing.size c.args.pieces.now (c.requires.0.tabled.in_range, c.requires.0.tabled.order))

pub loop-depth-preserved : goal.loop-depth-preserved
loop-depth-preserved c = let turn = c.loop-depth in
    let step = c.next_node-step.ensures in
    let k = c.put_kind.ensures in
    let o = c.put_operand.ensures in (
      step.waits,
      omega (arith, turn.invariant.1, ap length step.nodes),
      ap length k ∙ simp length-set turn.invariant.2,
      ap length o ∙ simp length-set turn.invariant.3,
      one_listed (λ n. kind_of n) turn.kinds turn.nodes step.nodes k turn.invariant.4,
      one_listed (λ n. operand_of n) turn.operands turn.nodes step.nodes o turn.invariant.5,
    )

pub returns : goal.returns
returns c = let e = c.args in
    let le = under e.blocks.now e.sawing.d in
    let turn = c.loop-depth in
    let z : turn.depth ≡ 0 = search rules in
    let none = ap (nodes_left le e.sawing.kerf e.sawing.size e.pieces.now turn.waiting) z ∙ none_left le e.sawing.kerf e.sawing.size e.pieces.now turn.waiting in
    record {
      number = omega (arith, turn.invariant.1, ap length none);
      kinds_listed = all_listed (λ n. kind_of n) turn.kinds turn.nodes none turn.invariant.4;
      operands_listed = all_listed (λ n. operand_of n) turn.operands turn.nodes none turn.invariant.5;
    }
