-- `model::chains_exceed` meets its contract.
use Rattle.model.proofs.Prelude.{job_of, true_job}
use Rattle.model.proofs.Tables.{true_room, exceed_told}
use Rattle.model.proofs.chains_exceed.Goals as goal

pub returns : goal.returns
returns c = let M = job_of c.args.model in
    exceed_told (true_job M c.args.sizes) M c.args.d c.least_taken-least.ensures
    (true_room M c.args.sizes c.args.d c.requires.1 c.true_plate.ensures c.taken_in-2.ensures).0
