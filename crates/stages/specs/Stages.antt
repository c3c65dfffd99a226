-- Check 22, of the limit on the stages of a plan; and check 23, a cut whose own path passes it, over the nodes of a tree.
-- docs/SCOPE.md: No more than so many stages.
pub use Rattle.promises.specs.Block.{limit_check}
pub use Rattle.promises.specs.Plan.{path_checks}
unfoldable pub use Rattle.promises.specs.Plan.{node_paths, above_checks}
