-- `rack::check_before` meets its contract: 28, the job's checks, those of the plates, then 10 and 11.
use Rattle.rack.proofs.Prelude.{◌∙◌, sym, next_stops, next_passes, order_checks}
use Rattle.refusal.proofs.Results.{as_check}
use Rattle.rack.proofs.Before.{before_parts, size_passed}
use Rattle.rack.proofs.check_before.Goals as goal

pub returns-in_err-check_size : goal.returns-in_err-check_size
returns-in_err-check_size c = let a = c.args in
    let s = c.check_size.ensures in
    as_check _ c.in_err-check_size.was c.from_residual.ensures.1
    ∙ s ∙ next_stops _ (sym s ∙ c.in_err-check_size.was) ∙ sym (before_parts a.block.now a.choices a.lengths.now a.widths.now a.kinds.now a.operands.now)

pub returns-in_err-check_block : goal.returns-in_err-check_block
unfolding order_checks
returns-in_err-check_block c = let a = c.args in
    let o = c.check_block.ensures in
    as_check _ c.in_err-check_block.was c.from_residual-in_err-check_block.ensures.1
    ∙ o ∙ next_stops _ (sym o ∙ c.in_err-check_block.was)
    ∙ next_passes _ (sym c.check_size.ensures ∙ c.in_ok-check_size.was) ∙ sym (before_parts a.block.now a.choices a.lengths.now a.widths.now a.kinds.now a.operands.now)

pub check_sides-requires : goal.check_sides-requires
check_sides-requires c = let a = c.args in
    let p = size_passed a.lengths.now a.widths.now (sym c.check_size.ensures ∙ c.in_ok-check_size.was) in
    (p.0, p.2)

pub returns-in_err-check_sides : goal.returns-in_err-check_sides
unfolding order_checks
returns-in_err-check_sides c = let a = c.args in
    let s = c.check_sides.ensures in
    as_check _ c.in_err-check_sides.was c.from_residual-in_err-check_sides.ensures.1
    ∙ s ∙ next_stops _ (sym s ∙ c.in_err-check_sides.was) ∙ next_passes _ (sym c.check_block.ensures ∙ c.in_ok-check_block.was)
    ∙ next_passes _ (sym c.check_size.ensures ∙ c.in_ok-check_size.was) ∙ sym (before_parts a.block.now a.choices a.lengths.now a.widths.now a.kinds.now a.operands.now)

pub returns : goal.returns
unfolding order_checks
returns c = let a = c.args in
    c.check_whole.ensures ∙ next_passes _ (sym c.check_sides.ensures ∙ c.in_ok-check_sides.was) ∙ next_passes _ (sym c.check_block.ensures ∙ c.in_ok-check_block.was)
    ∙ next_passes _ (sym c.check_size.ensures ∙ c.in_ok-check_size.was) ∙ sym (before_parts a.block.now a.choices a.lengths.now a.widths.now a.kinds.now a.operands.now)
