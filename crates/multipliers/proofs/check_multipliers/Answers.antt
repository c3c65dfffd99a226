-- `multipliers::check_multipliers` meets its contract: 37, or the first multiplier that is too large.
use Rattle.multipliers.proofs.Prelude.{◌∙◌, [], ◌∷◌, length, check_last, check_stops, passes, stops, ends, multiplier_check}
use Rattle.refusal.proofs.Results.{as_check}
use Rattle.multipliers.proofs.Calls.{counted}
use Rattle.multipliers.proofs.check_multipliers.Goals as goal

pub returns-in_err-refuse_if : goal.returns-in_err-refuse_if
returns-in_err-refuse_if c = as_check _ c.in_err-refuse_if.was c.from_residual.ensures.1 ∙ check_stops _ _ _ c.refuse_if.ensures c.in_err-refuse_if.was

pub returns-in_err-refuse_if-2 : goal.returns-in_err-refuse_if-2
returns-in_err-refuse_if-2 c = let ms = c.args.multipliers.now in
    as_check _ c.in_err-refuse_if-2.was c.from_residual-in_err-refuse_if-2.ensures.1
    ∙ counted c.args.n ms c.refuse_if.ensures c.in_ok-refuse_if.was
    (stops (λ i. multiplier_check ms i ∷ []) c.loop-i.i (length ms) c.loop-i-test.true c.loop-i.invariant (check_last _ _ c.refuse_if-in-loop-i.ensures) c.in_err-refuse_if-2.was)

pub loop-i-preserved : goal.loop-i-preserved
loop-i-preserved c = let ms = c.args.multipliers.now in
    passes (λ i. multiplier_check ms i ∷ []) c.loop-i.i (length ms) c.loop-i-test.true c.loop-i.invariant (check_last _ _ c.refuse_if-in-loop-i.ensures) c.in_ok-refuse_if-2.was

pub returns : goal.returns
returns c = let ms = c.args.multipliers.now in
    counted c.args.n ms c.refuse_if.ensures c.in_ok-refuse_if.was (ends (λ i. multiplier_check ms i ∷ []) c.loop-i.i (length ms) c.loop-i-test.false c.loop-i.invariant)
