-- `exact::exact_accepted` meets its contract: what the figures and the plan of the pieces say is said of the job.
use Rattle.exact.proofs.Prelude.{refl}
use Rattle.exact.proofs.Pieces.{statable, stated_array}
use Rattle.exact.proofs.Accepted.{countable, memory_left, storage_refused, plan_ready, plan_thick, plan_made, plan_refused, plan_reported}
use Rattle.exact.proofs.exact_accepted.Goals as goal

pub put_states-requires : goal.put_states-requires
put_states-requires c = let given = c.requires in statable _ _ _ c.list_pieces-count.ensures given.in_range.kinds.1 given.entries

pub states_of_pieces-requires : goal.states_of_pieces-requires
states_of_pieces-requires c = let given = c.requires in
    countable given c.plate_of-plate.ensures (stated_array _ _ _ c.list_pieces-count.ensures _ _ given.listed c.put_states.ensures) refl

pub returns-in_err-report : goal.returns-in_err-report
returns-in_err-report c = let plate = c.plate_of-plate.ensures in
    let array = stated_array _ _ _ c.list_pieces-count.ensures _ _ c.requires.listed c.put_states.ensures in
    let left = c.states_of_pieces.ensures in record {
      memory = memory_left c.requires plate array left;
      plan = storage_refused c.requires plate array left c.args.kinds.now c.args.operands.now c.in_err-report.was c.from_residual.ensures.1;
    }

pub plan_of_pieces-requires : goal.plan_of_pieces-requires
plan_of_pieces-requires c = let given = c.requires in
    let plate = c.plate_of-plate.ensures in
    let array = stated_array _ _ _ c.list_pieces-count.ensures _ _ given.listed c.put_states.ensures in
    let left = c.states_of_pieces.ensures in
    rw c.table_of.ensures (plan_ready given plate array left c.in_ok-report.was, plan_thick given plate array left c.in_ok-report.was)

pub returns-in_err-written : goal.returns-in_err-written
returns-in_err-written c = let given = c.requires in
    let plate = c.plate_of-plate.ensures in
    let array = stated_array _ _ _ c.list_pieces-count.ensures _ _ given.listed c.put_states.ensures in
    let left = c.states_of_pieces.ensures in record {
      memory = memory_left given plate array left;
      plan = plan_refused (plan_made given plate array left c.in_ok-report.was (rw c.table_of.ensures at c.plan_of_pieces.ensures)) c.in_err-written.was c.from_residual-in_err-written.ensures.1;
    }

pub returns : goal.returns
returns c = let given = c.requires in
    let plate = c.plate_of-plate.ensures in
    let array = stated_array _ _ _ c.list_pieces-count.ensures _ _ given.listed c.put_states.ensures in
    let left = c.states_of_pieces.ensures in record {
      memory = memory_left given plate array left;
      plan = plan_reported (plan_made given plate array left c.in_ok-report.was (rw c.table_of.ensures at c.plan_of_pieces.ensures)) c.in_ok-written.was c.exact_of.ensures;
    }
