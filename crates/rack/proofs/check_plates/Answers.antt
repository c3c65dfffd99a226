-- `rack::check_plates` meets its contract: the checks before any plan's come first, then the plans.
use Rattle.rack.proofs.Prelude.{◌∙◌, sym, ap, arith, JobRecord, whole_counts}
use Rattle.rack.proofs.Before.{before_passed, size_passed}
use Rattle.rack.proofs.Calls.{order_holds, order_few, plates_met, plates_stopped, plates_walked}
use Rattle.rack.proofs.check_plates.Goals as goal

pub returns-in_err-check_before : goal.returns-in_err-check_before
returns-in_err-check_before c = let a = c.args in
    plates_met a.block.now a.choices a.lengths.now a.widths.now a.kinds.now a.operands.now
    (plates_stopped a.block.now a.choices a.lengths.now a.widths.now a.kinds.now a.operands.now _ c.check_before.ensures c.in_err-check_before.was c.from_residual.ensures.1)

pub read_record-requires : goal.read_record-requires
read_record-requires c = let a = c.args in
    let p = before_passed a.block.now a.choices a.lengths.now a.widths.now a.kinds.now a.operands.now (sym c.check_before.ensures ∙ c.in_ok-check_before.was) in
    order_holds a.block.now a.choices p.1

pub check_plans-requires : goal.check_plans-requires
check_plans-requires c = let a = c.args in
    let p = before_passed a.block.now a.choices a.lengths.now a.widths.now a.kinds.now a.operands.now (sym c.check_before.ensures ∙ c.in_ok-check_before.was) in
    let z = size_passed a.lengths.now a.widths.now p.0 in
    let w = whole_counts a.kinds.now a.operands.now p.3 in
    ((z.0, z.2), (w.0, w.2), omega (arith, ap (λ (j : JobRecord). j.count) c.read_record.ensures, order_few a.block.now a.choices p.1))

pub returns : goal.returns
returns c = let a = c.args in
    plates_met a.block.now a.choices a.lengths.now a.widths.now a.kinds.now a.operands.now
    (c.check_plans.ensures ∙ plates_walked a.block.now a.choices a.lengths.now a.widths.now a.kinds.now a.operands.now c.check_before.ensures c.in_ok-check_before.was c.read_record.ensures)
