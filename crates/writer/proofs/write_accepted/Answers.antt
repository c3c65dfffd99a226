-- `writer::write_accepted` meets its contract: what the bound and the plan of the pieces say is said of the job.
use Rattle.writer.proofs.Prelude.{refl}
use Rattle.writer.proofs.Write.{boundable, memory_left, bound_refused, plan_ready, plan_thick, plan_made}
use Rattle.writer.proofs.write_accepted.Goals as goal

pub bound_of_pieces-requires : goal.bound_of_pieces-requires
bound_of_pieces-requires c = boundable c.requires c.plate_of-plate.ensures c.list_pieces-count.ensures refl

pub returns-in_err-report : goal.returns-in_err-report
returns-in_err-report c = let e = c.args in
    let left = c.bound_of_pieces.ensures in record {
      memory = memory_left c.requires c.plate_of-plate.ensures c.list_pieces-count.ensures left;
      plan = bound_refused c.requires c.plate_of-plate.ensures c.list_pieces-count.ensures left e.kinds.now e.operands.now c.in_err-report.was c.from_residual.ensures.1;
    }

pub plan_of_pieces-requires : goal.plan_of_pieces-requires
plan_of_pieces-requires c = let given = c.requires in
    let plate = c.plate_of-plate.ensures in
    let pieces = c.list_pieces-count.ensures in
    let left = c.bound_of_pieces.ensures in
    rw c.table_of.ensures (plan_ready given plate pieces left c.in_ok-report.was, plan_thick given plate pieces left c.in_ok-report.was)

pub returns : goal.returns
returns c = let left = c.bound_of_pieces.ensures in
    let given = c.requires in
    let plate = c.plate_of-plate.ensures in
    let pieces = c.list_pieces-count.ensures in record {
      memory = memory_left given plate pieces left;
      plan = plan_made given plate pieces left c.in_ok-report.was (rw c.table_of.ensures at c.plan_of_pieces.ensures);
    }
