-- `orders::plates` meets its contract: a quotient rounded up.
use Rattle.std.proofs.Common.{◌∙◌, ap}
use Rattle.orders.specs.Orders.{plates_for}
use Rattle.orders.proofs.Needed.{plates_over}
use Rattle.orders.proofs.plates.Goals as goal

pub returns-then-bound-gt0 : goal.returns-then-bound-gt0
returns-then-bound-gt0 c =
    let b = c.args.bound in
    c.div_ceil.ensures ∙ plates_over b c.saturating_sub-left.result c.if-bound-gt0.true ∙ ap (plates_for b) c.saturating_sub-left.ensures
