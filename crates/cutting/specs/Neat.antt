-- Used sizes and neat plans: a cut with a pieceless part is replaced by its other part, and the others stand where the used size of the
-- first part ends.
-- docs/SCOPE.md: Neat plans.
pub use Rattle.promises.specs.Plan.{joined, remaining, neat_of}
pub use Rattle.promises.specs.True.{used_of}
unfoldable pub use Rattle.promises.specs.Plan.{used, neat}
