-- `job::check_block` meets its contract: the header comes before the arrays.
use Rattle.refusal.proofs.Results.{as_check}
use Rattle.job.proofs.Prelude.{sym, ◌∙◌, ap, arith, first_refusal, array_checks, header_by, pairs_by}
use Rattle.job.proofs.Checks.{next_stops, next_passes, first_append}
use Rattle.job.proofs.Read.{sizes_least, front_passed, counts_hold}
use Rattle.job.proofs.check_block.Goals as goal

pub returns-in_err-check_front : goal.returns-in_err-check_front
returns-in_err-check_front c = let e = c.args in
    let h = c.check_front.ensures in
    as_check _ c.in_err-check_front.was c.from_residual.ensures.1
    ∙ h ∙ next_stops _ (sym h ∙ c.in_err-check_front.was) ∙ sym (first_append (header_by e.plate e.choices e.block.now) _)

pub read_u16-requires : goal.read_u16-requires
read_u16-requires c = let e = c.args in
    let h = front_passed e.choices e.block.now e.plate (sym c.check_front.ensures ∙ c.in_ok-check_front.was) in
    omega (arith, h.bytes, (sizes_least e.choices.old_block).0)

pub check_arrays-requires : goal.check_arrays-requires
check_arrays-requires c = let e = c.args in
    let h = front_passed e.choices e.block.now e.plate (sym c.check_front.ensures ∙ c.in_ok-check_front.was) in
    rw c.sizes_end-h.ensures.0 (counts_hold e.choices e.block.now c.read_u16.result c.read_u16.ensures h)

pub returns : goal.returns
returns c = let e = c.args in
    c.check_arrays.ensures ∙ ap (λ h. first_refusal (array_checks (pairs_by e.priced h e.block.now) e.choices.grain h e.block.now)) c.sizes_end-h.ensures.0
    ∙ next_passes _ (sym c.check_front.ensures ∙ c.in_ok-check_front.was)
    ∙ sym (first_append (header_by e.plate e.choices e.block.now) _)
