-- `two_bound::bound_two` meets its contract: the pieces of an accepted job are listed with their states, and their bound is the job's.
use Rattle.two_bound.proofs.Prelude.{refl, lent}
use Rattle.two_bound.proofs.Calls.{job_refused, weights_refused, early, accepted, range_read, two_taken, weights_there, states_ready, pairable, job_paired}
use Rattle.two_bound.proofs.bound_two.Goals as goal

pub returns-in_err-job : goal.returns-in_err-job
returns-in_err-job c = let e = c.args in
    early e.block.now e.choices e.first.now e.second.now (lent e.lengths.now e.widths.now e.table.now)
    (job_refused e.block.now e.choices e.first.now e.second.now c.read_job.ensures.answers c.in_err-job.was) c.from_residual.ensures.1

pub weigh_two-requires : goal.weigh_two-requires
weigh_two-requires c = let e = c.args in range_read e.block.now e.choices c.read_job.ensures.answers c.in_ok-job.was

pub returns-in_err-most : goal.returns-in_err-most
returns-in_err-most c = let e = c.args in
    early e.block.now e.choices e.first.now e.second.now (lent e.lengths.now e.widths.now e.table.now)
    (weights_refused e.block.now e.choices e.first.now e.second.now c.read_job.ensures.answers c.in_ok-job.was c.weigh_two.ensures c.in_err-most.was) c.from_residual-in_err-most.ensures.1

pub list_pieces-count-requires : goal.list_pieces-count-requires
list_pieces-count-requires c =
    let e = c.args in
    let taken = two_taken e.block.now e.choices e.first.now e.second.now c.read_job.ensures.answers c.in_ok-job.was c.weigh_two.ensures c.in_ok-most.was in
    (taken.range, weights_there e.block.now e.choices e.first.now e.second.now taken, refl)

pub put_states-requires : goal.put_states-requires
put_states-requires c =
    let e = c.args in
    let taken = two_taken e.block.now e.choices e.first.now e.second.now c.read_job.ensures.answers c.in_ok-job.was c.weigh_two.ensures c.in_ok-most.was in
    states_ready e.block.now e.choices e.first.now e.second.now taken c.list_pieces-count.ensures

pub plate_of-requires : goal.plate_of-requires
plate_of-requires c = let e = c.args in range_read e.block.now e.choices c.read_job.ensures.answers c.in_ok-job.was

pub two_of_pieces-requires : goal.two_of_pieces-requires
two_of_pieces-requires c =
    let e = c.args in
    let taken = two_taken e.block.now e.choices e.first.now e.second.now c.read_job.ensures.answers c.in_ok-job.was c.weigh_two.ensures c.in_ok-most.was in
    pairable e.block.now e.choices e.first.now e.second.now taken c.list_pieces-count.ensures c.put_states.ensures c.plate_of.ensures refl

pub returns : goal.returns
returns c =
    let e = c.args in
    let taken = two_taken e.block.now e.choices e.first.now e.second.now c.read_job.ensures.answers c.in_ok-job.was c.weigh_two.ensures c.in_ok-most.was in
    accepted e.block.now e.choices e.first.now e.second.now _ taken.accepted_is _
    (job_paired e.block.now e.choices e.first.now e.second.now taken c.list_pieces-count.ensures c.put_states.ensures c.plate_of.ensures c.two_of_pieces.ensures)
