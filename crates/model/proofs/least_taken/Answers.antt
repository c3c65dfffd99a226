-- `model::least_taken` meets its contract.
use Rattle.model.proofs.Prelude.{arith, job_of, true_job}
use Rattle.model.proofs.Tables.{true_room, cleared_least}
use Rattle.model.proofs.least_taken.Goals as goal

pub add_kinds-requires : goal.add_kinds-requires
add_kinds-requires c = let M = job_of c.args.model in
    let e = (true_room M c.args.sizes c.args.d c.requires.1 c.true_plate.ensures c.taken_in-room.ensures).0 in
    (c.requires.0, c.requires.1, cleared_least (true_job M c.args.sizes) M c.args.d _ _ (omega (arith, e)) c.clear.ensures.1)
