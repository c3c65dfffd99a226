use Rattle.writer.proofs.Prelude.{◌≡◌, map, ◌+◌, length, sets, kind_of, operand_of, kinds_of, operands_of, node_count, under, sawn_plan, nodes_left, Waiting}
use Rattle.writer.proofs.nodes.list_nodes.Given as goal

abbrev pub invariant-loop-depth : goal.invariant-loop-depth
invariant-loop-depth l = Waiting l.sawing.size l.pieces l.waiting l.depth
    × (l.nodes + length (nodes_left (under l.blocks l.sawing.d) l.sawing.kerf l.sawing.size l.pieces l.waiting l.depth) ≡ node_count (sawn_plan l.sawing l.blocks l.pieces))
    × (length l.kinds ≡ length l.initial.kinds) × (length l.operands ≡ length l.initial.operands)
    × (sets l.kinds l.nodes (map (λ n. kind_of n) (nodes_left (under l.blocks l.sawing.d) l.sawing.kerf l.sawing.size l.pieces l.waiting l.depth)) ≡ sets l.initial.kinds 0 (kinds_of (sawn_plan l.sawing l.blocks l.pieces)))
    × (sets l.operands l.nodes (map (λ n. operand_of n) (nodes_left (under l.blocks l.sawing.d) l.sawing.kerf l.sawing.size l.pieces l.waiting l.depth)) ≡ sets l.initial.operands 0 (operands_of (sawn_plan l.sawing l.blocks l.pieces)))

abbrev pub decreases-loop-depth : goal.decreases-loop-depth
decreases-loop-depth l = length (nodes_left (under l.blocks l.sawing.d) l.sawing.kerf l.sawing.size l.pieces l.waiting l.depth)
