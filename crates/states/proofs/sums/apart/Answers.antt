-- `states::sums::apart` meets its contract.
use Rattle.states.proofs.Prelude.{arith, refl, sym, ◌+◌, get_or}
use Rattle.states.proofs.Carries.{sum_most, sums_test, one_apart}
use Rattle.states.proofs.sums.apart.Goals as goal

pub returns-then-d-eq0 : goal.returns-then-d-eq0
returns-then-d-eq0 c = rw c.if-d-eq0.true (sym (one_apart c.args.blocks.now 0 c.args.t c.args.u refl))

pub overflow_add-result : goal.overflow_add-result
overflow_add-result c = let given = c.requires in
    let args = c.args in
    let sums = given.2 (omega arith) in
    omega (
      arith,
      sums args.t (omega arith),
      sums args.u (omega arith),
      sum_most (λ i. get_or args.blocks.now i 0) args.d args.t given.0,
      sum_most (λ i. get_or args.blocks.now i 0) args.d args.u given.0,
    )

pub returns-else-d-eq0 : goal.returns-else-d-eq0
returns-else-d-eq0 c = let given = c.requires in
    let args = c.args in
    let sums = given.2 (omega arith) in
    sums_test (λ i. get_or args.blocks.now i 0) args.d args.t args.u _ _ _ given.0 (sums args.t (omega arith)) (sums args.u (omega arith)) (sums (args.t + args.u) (omega arith))
