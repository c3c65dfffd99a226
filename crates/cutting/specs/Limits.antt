-- The limits of the scope, each under its name.
-- docs/SCOPE.md: The table of refusals.
use Rattle.std.specs.Prelude.{ℕ, ◌+◌, ◌*◌}
pub use Rattle.promises.specs.Refusals.{most_side, most_kerf, most_true_side, most_true_kerf, most_kinds, most_price, most_demand, most_capacity, most_pairs, most_nodes, most_limit, most_figure}

-- the greatest side with the kerf added
abbrev pub most_wide_side : ℕ
most_wide_side = most_side + most_kerf

-- the most pieces that may lie, each kind in two ways
abbrev pub most_pieces : ℕ
most_pieces = 2 * most_kinds

-- the greatest plate with the kerf added times the greatest price: what the table's ranges alone show of its figures
abbrev pub most_wide_figure : ℕ
most_wide_figure = most_wide_side * most_wide_side * most_price
