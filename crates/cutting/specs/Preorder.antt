-- A plan's arrays: a tree in preorder (node, first part, second part), each node as a kind and an operand.
-- docs/SCOPE.md: Plans.
pub use Rattle.promises.specs.Plan.{kind_of, operand_of}
unfoldable pub use Rattle.promises.specs.Plan.{preorder, node_count, kinds_of, operands_of}
