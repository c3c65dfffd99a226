-- `states::raise::take` meets its contract.
use Rattle.states.proofs.Prelude.{arith}
use Rattle.states.proofs.Growing.{order_of, taken_raised, test_true}
use Rattle.states.proofs.Topping.{topped_raised}
use Rattle.states.proofs.raise.take.Goals as goal

pub returns-then-figure-v : goal.returns-then-figure-v
returns-then-figure-v c =
    let given = c.requires in
    (taken_raised _ _ _ _ _ _ _ _ (order_of _ _ _ given.0.digits) (omega arith) given.2 (omega (arith, c.figure.ensures.0)) (test_true _ _ c.apart.ensures c.if-apart.true) c.raise.ensures, topped_raised _ _ _ _ _ _ _ _ _ c.max.ensures (omega arith) given.2 c.raise.ensures)
