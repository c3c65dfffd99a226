-- `saw::read_saw_job` meets its contract: the block's checks, then its record.
use Rattle.saw.proofs.Prelude.{sym, ◌∙◌, ap, first_refusal, saw_checks, saw_record, refused_answer, given_answer, Ok}
use Rattle.saw.proofs.Calls.{saw_holds, read_met}
use Rattle.saw.proofs.read_saw_job.Goals as goal

pub returns-in_err-check_block : goal.returns-in_err-check_block
unfolding saw_checks
returns-in_err-check_block c = let s = c.args.block.now in
    let choices = c.args.choices in
    let m = read_met s choices (refused_answer (first_refusal (saw_checks s choices)) (saw_record s choices) _ (sym c.check_block.ensures ∙ c.in_err-check_block.was) c.from_residual.ensures.1) in
    record { answers = m.0; outcome = m.1.0; blind = m.1.1.0; free = m.1.1.1.0; unpriced = m.1.1.1.1 }

pub read_unpriced-requires : goal.read_unpriced-requires
unfolding saw_checks
read_unpriced-requires c = saw_holds c.args.block.now c.args.choices (sym c.check_block.ensures ∙ c.in_ok-check_block.was)

pub returns : goal.returns
unfolding saw_checks
returns c = let s = c.args.block.now in
    let choices = c.args.choices in
    let m = read_met s choices (given_answer (first_refusal (saw_checks s choices)) (saw_record s choices) (sym c.check_block.ensures ∙ c.in_ok-check_block.was) (ap Ok c.read_unpriced.ensures)) in
    record { answers = m.0; outcome = m.1.0; blind = m.1.1.0; free = m.1.1.1.0; unpriced = m.1.1.1.1 }
