-- `plates_needed::plates_of_record` meets its contract: the bound of the record, the worth of its order, and the quotient.
use Rattle.job.specs.Block.{job_of}
use Rattle.plates_needed.proofs.Calls.{answered_low}
use Rattle.plates_needed.proofs.plates_of_record.Goals as goal

pub plates-requires : goal.plates-requires
plates-requires c = (answered_low (job_of c.args.job) c.args.other c.args.q c.args.weights.now c.requires.0 c.bound_of_record.ensures c.in_ok-b.was, c.worth-worth.ensures.1)
