-- `rack::check_rack` meets its contract: the check on the sides that are read is the rack's, a refusal changes no record, and a pass writes the
-- profits.
use Rattle.rack.proofs.Prelude.{◌∙◌, sym, ap₂, rack_answer}
use Rattle.rack.proofs.Records.{many_refused, rack_refused, rack_met}
use Rattle.rack.proofs.check_rack.Goals as goal

pub returns-in_err-refuse_if : goal.returns-in_err-refuse_if
returns-in_err-refuse_if c = let a = c.args in
    rack_refused a.block.now a.choices a.rack.now a.kinds.now a.operands.now _ (many_refused a.block.now a.choices a.rack.now a.kinds.now a.operands.now c.refuse_if.ensures c.in_err-refuse_if.was) c.from_residual.ensures.1

pub returns-in_err-profits : goal.returns-in_err-profits
returns-in_err-profits c = let a = c.args in
    let e = ap₂ (λ l w. rack_answer a.block.now a.choices l w a.kinds.now a.operands.now) c.read_sides.ensures.0 c.read_sides.ensures.1 in
    rack_refused a.block.now a.choices a.rack.now a.kinds.now a.operands.now _ (sym (c.check_plates.ensures.answers ∙ e) ∙ c.in_err-profits.was) c.from_residual-in_err-profits.ensures.1

pub returns : goal.returns
returns c = let a = c.args in
    let e = ap₂ (λ l w. rack_answer a.block.now a.choices l w a.kinds.now a.operands.now) c.read_sides.ensures.0 c.read_sides.ensures.1 in
    rack_met a.block.now a.choices a.rack.now a.kinds.now a.operands.now (sym (c.check_plates.ensures.answers ∙ e) ∙ c.in_ok-profits.was) c.settle.ensures
