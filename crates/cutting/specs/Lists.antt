-- Lists and maxima that the definitions speak of: runs of numbers, members that pass a test, pairs, sums and greatest values.
-- docs/SCOPE.md: The bound; Lent memory.
pub use Rattle.promises.specs.Lists.{only, keep, over}
unfoldable pub use Rattle.promises.specs.Lists.{range, sum, filter, any, first, greatest, each, pairs}
